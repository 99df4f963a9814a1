use Rattle.std.proofs.Common.{◌≡◌, map, take}
use Rattle.reference_match.specs.Needs.{need_of}
use Rattle.reference_match.proofs.needs.needs_of_references.Given as goal

abbrev pub invariant-loop-reference : goal.invariant-loop-reference
invariant-loop-reference l = l.needs.items ≡ map (need_of l.properties) (take l.reference-index l.references)
