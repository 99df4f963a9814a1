use Rattle.std.proofs.Common.{◌≡◌, ◌++◌, take}
use Rattle.std.specs.Prelude.{flat_map}
use Rattle.scr_causes.specs.DirectCauses.{causes_of}
use Rattle.scr_causes.proofs.reference_causes.add_described.Given as goal

abbrev pub invariant-loop-reference : goal.invariant-loop-reference
invariant-loop-reference l = l.causes.items ≡ l.fn.causes.items ++ flat_map (causes_of l.tables.registered l.tables.possible l.properties) (take l.reference-index l.references)
