-- Commands that change something and that little refuses. Our own.
use Rattle.std.specs.Prelude.{◌≡◌, true, Option, None}
use Rattle.scr_judgements.specs.Drafting.{AreTablesAfter}
use Rattle.scr_judgements.specs.declared.drafting.TablesAfter.{TablesAfter}
use Rattle.scr_state.specs.declared.state.State.{State}
use Rattle.scr_world.specs.Refusals.{components_full, refusal}
use Rattle.scr_world.specs.Replies.{answer, has_effect, takes_memory_to_judge}
use Rattle.scr_world.specs.declared.command.Command.{Command}
use Rattle.scr_world.specs.declared.reply.CoreFault.{CoreFault}
use Rattle.scr_world.specs.declared.reply.Reply.{Reply}
use Rattle.scr_world.specs.declared.step.Step.{Step}
use Rattle.scr_world.specs.declared.step.Step.TheVariants.{Command as Commanded}

-- a command changes something, is refused so but for want of room, answers this, and these are its tables
pub record Changes (s : State) (command : Command) (refused : Option CoreFault) (reply : Reply) (tables : TablesAfter) : Type 0 where
  pub refusals : refusal s.world command ≡ refused
  pub effect : has_effect s.world command ≡ true
  pub answers : answer s.world command ≡ reply
  pub after : AreTablesAfter s command tables

-- nothing refuses it
abbrev pub ChangesFreely : State → Step → Reply → TablesAfter → Type 0
ChangesFreely s (Commanded command) reply tables = Changes s command None reply tables
ChangesFreely s _ reply tables = ⊥

-- nothing but too many component configurations refuses it, as may be of a command that takes memory to judge
abbrev pub ChangesUnlessFull : State → Step → Reply → TablesAfter → Type 0
ChangesUnlessFull s (Commanded command) reply tables = Changes s command (components_full s.world command) reply tables × (takes_memory_to_judge command ≡ true)
ChangesUnlessFull s _ reply tables = ⊥

-- these are the tables after a step, which is a command
abbrev pub AreTablesBy : State → Step → TablesAfter → Type 0
AreTablesBy s (Commanded command) tables = AreTablesAfter s command tables
AreTablesBy s _ tables = ⊥
