use Rattle.std.proofs.Common.{◌≡◌, map, take}
use Rattle.std.specs.Option.{option_copied}
use Rattle.scr_readers.specs.ComponentViews.{reference_state}
use Rattle.scr_readers.proofs.reference_states.states_of.Given as goal

abbrev pub invariant-loop-reference : goal.invariant-loop-reference
invariant-loop-reference l = l.states.items ≡ map (reference_state l.world l.component (option_copied l.instance)) (take l.reference-index l.references)
