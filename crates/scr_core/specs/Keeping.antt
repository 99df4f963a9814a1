-- What a core keeps beside its journal.
use Rattle.std.specs.Prelude.{◌≡◌, ℕ, List}
use Rattle.journal_core.specs.Rooms.{JournalRows}
use Rattle.scr_state.specs.Keeps.{Keeps}
use Rattle.scr_state.specs.declared.state.State.{State}
use Rattle.scr_world.specs.Steps.{history_of}
use Rattle.scr_world.specs.TurnLines.{turn_lines}
use Rattle.scr_world.specs.declared.lines.TurnLine.{TurnLine}
use Rattle.scr_world.specs.declared.step.Step.{Step}

-- its state and the lines of its turns are what its journal says, which is within its limit
pub record KeepsAll (limit : ℕ) (journal : JournalRows Step) (s : State) (lines : List TurnLine) : Type 0 where
  pub its_limit : journal.limit ≡ limit
  pub state : Keeps journal s
  pub told : lines ≡ turn_lines (history_of journal.entries)
