use Rattle.std.proofs.Common.{◌≡◌, take}
use Rattle.std.specs.Prelude.{filter}
use Rattle.prop_map.specs.Words.{has}
use Rattle.reference_match.proofs.choice.held_among.Given as goal

abbrev pub invariant-loop-service : goal.invariant-loop-service
invariant-loop-service l = l.found.items ≡ filter (has l.held) (take l.service-index l.targets)
