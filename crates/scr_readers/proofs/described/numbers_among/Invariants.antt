use Rattle.std.proofs.Common.{◌≡◌, take}
use Rattle.std.specs.Prelude.{filter}
use Rattle.component_state.specs.Components.{existing, numbers_of}
use Rattle.scr_readers.specs.Described.{is_described}
use Rattle.scr_readers.proofs.described.numbers_among.Given as goal

abbrev pub invariant-loop-component : goal.invariant-loop-component
invariant-loop-component l = l.numbers.items ≡ numbers_of (filter (is_described l.bundle l.index) (existing (take l.component-index l.components)))
