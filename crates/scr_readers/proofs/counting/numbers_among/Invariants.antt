use Rattle.std.proofs.Common.{◌≡◌, take}
use Rattle.std.specs.Prelude.{filter}
use Rattle.component_state.specs.Components.{existing, numbers_of}
use Rattle.scr_readers.specs.Counting.{counts_for}
use Rattle.scr_readers.proofs.counting.numbers_among.Given as goal

abbrev pub invariant-loop-component : goal.invariant-loop-component
invariant-loop-component l = l.numbers.items ≡ numbers_of (filter (counts_for l.configurations l.configuration) (existing (take l.component-index l.components)))
