use Rattle.std.proofs.Common.{◌≡◌, take}
use Rattle.scr_readers.specs.ListedComponents.{unsatisfied_names}
use Rattle.scr_readers.proofs.listings.unsatisfied_names.Given as goal

abbrev pub invariant-loop-state : goal.invariant-loop-state
invariant-loop-state l = l.names.items ≡ unsatisfied_names (take l.state-index l.states)
