-- The judgement of a command by its last refusals.
use Rattle.std.proofs.Common.{◌≡◌, ◌∙◌, ℕ, ap, refl, subst, sym, Bool, true, false, Option, Some, None, Result, Ok, Err}
use Rattle.std.specs.Prelude.{IfSome}
use Rattle.scr_judgements.specs.Asked.{IsAskedAfter, are_too_many}
use Rattle.scr_judgements.specs.declared.asked.Asked.{Asked}
use Rattle.scr_judgements.specs.Changing.{AreTablesBy, Changes, ChangesFreely, ChangesUnlessFull}
use Rattle.scr_judgements.proofs.Drafted.{drafted}
use Rattle.scr_judgements.proofs.Judged as judged
use Rattle.scr_judgements.specs.Drafting.{command_draft}
use Rattle.scr_judgements.specs.Judgements.{Judges, JudgesStep}
use Rattle.scr_judgements.specs.declared.drafting.TablesAfter.{TablesAfter}
use Rattle.scr_judgements.specs.declared.judgement.Judgement.{Judgement}
use Rattle.scr_judgements.specs.declared.judgement.Judgement.TheVariants.{Changes as WithDraft}
use Rattle.scr_state.specs.declared.draft.Draft.{Draft}
use Rattle.scr_state.specs.declared.state.State.{State}
use Rattle.scr_world.specs.Refusals.{components_full, refusal, refuse_if}
use Rattle.scr_world.specs.Replies.{takes_memory_to_refuse}
use Rattle.scr_world.specs.Room.{has_room}
use Rattle.scr_world.specs.declared.command.Command.{Command}
use Rattle.scr_world.specs.declared.reply.CoreFault.{CoreFault}
use Rattle.scr_world.specs.declared.reply.CoreFault.TheVariants.{ComponentsFull, JournalFull, OutOfMemory}
use Rattle.scr_world.specs.declared.reply.Reply.{Reply}
use Rattle.scr_world.specs.declared.step.Step.{Step}
use Rattle.scr_world.specs.declared.step.Step.TheVariants.{Command as Commanded, Begin, End, Drained, Got, Released}
use Rattle.scr_world.specs.declared.world.World.{World}

-- ---- a step that little refuses is a command

pub tables_freely : (s : State) (step : Step) (reply : Reply) (tables : TablesAfter) → ChangesFreely s step reply tables → AreTablesBy s step tables
tables_freely s (Commanded command) reply tables changes = changes.after
tables_freely s (Begin turn instance configuration consumer callback chosen) reply tables changes = absurd changes
tables_freely s (End turn outcome) reply tables changes = absurd changes
tables_freely s (Drained instance) reply tables changes = absurd changes
tables_freely s (Got bundle service) reply tables changes = absurd changes
tables_freely s (Released place) reply tables changes = absurd changes

pub tables_unless_full : (s : State) (step : Step) (reply : Reply) (tables : TablesAfter) → ChangesUnlessFull s step reply tables → AreTablesBy s step tables
tables_unless_full s (Commanded command) reply tables (changes, takes) = changes.after
tables_unless_full s (Begin turn instance configuration consumer callback chosen) reply tables changes = absurd changes
tables_unless_full s (End turn outcome) reply tables changes = absurd changes
tables_unless_full s (Drained instance) reply tables changes = absurd changes
tables_unless_full s (Got bundle service) reply tables changes = absurd changes
tables_unless_full s (Released place) reply tables changes = absurd changes

-- ---- want of memory

-- nothing but too many component configurations refuses the command
pub asks_takes : (w : World) (command : Command) → refusal w command ≡ components_full w command → IfSome (refusal w command) (λ fault. takes_memory_to_refuse command fault ≡ true)
asks_takes w command last =
    subst (λ (due : Option CoreFault). IfSome due (λ fault. takes_memory_to_refuse command fault ≡ true)) (sym last) (by_many (are_too_many (Commanded command) w)) where
      by_many : (many : Bool) → IfSome (refuse_if many ComponentsFull) (λ fault. takes_memory_to_refuse command fault ≡ true)
      by_many true = refl
      by_many false = tt

pub no_memory_unless_full : (limit : ℕ) (s : State) (step : Step) (reply : Reply) (tables : TablesAfter) → ChangesUnlessFull s step reply tables
    → (fault : CoreFault) → fault ≡ OutOfMemory → JudgesStep limit s step (Err fault)
unfolding JudgesStep
no_memory_unless_full limit s (Commanded command) reply tables (changes, takes) fault is =
    judged.no_memory_judged limit s command takes (asks_takes s.world command changes.refusals) fault is
no_memory_unless_full limit s (Begin turn instance configuration consumer callback chosen) reply tables changes fault is = absurd changes
no_memory_unless_full limit s (End turn outcome) reply tables changes fault is = absurd changes
no_memory_unless_full limit s (Drained instance) reply tables changes fault is = absurd changes
no_memory_unless_full limit s (Got bundle service) reply tables changes fault is = absurd changes
no_memory_unless_full limit s (Released place) reply tables changes fault is = absurd changes

pub no_memory_freely : (limit : ℕ) (s : State) (step : Step) (reply : Reply) (tables : TablesAfter) → ChangesFreely s step reply tables → has_room limit s.world 1 ≡ true
    → (fault : CoreFault) → fault ≡ OutOfMemory → JudgesStep limit s step (Err fault)
unfolding JudgesStep
no_memory_freely limit s (Commanded command) reply tables changes room fault is = judged.no_memory_freely limit s command changes.refusals room fault is
no_memory_freely limit s (Begin turn instance configuration consumer callback chosen) reply tables changes room fault is = absurd changes
no_memory_freely limit s (End turn outcome) reply tables changes room fault is = absurd changes
no_memory_freely limit s (Drained instance) reply tables changes room fault is = absurd changes
no_memory_freely limit s (Got bundle service) reply tables changes room fault is = absurd changes
no_memory_freely limit s (Released place) reply tables changes room fault is = absurd changes

-- ---- too many component configurations

refuses : (b : Bool) (fault : CoreFault) → b ≡ true → refuse_if b fault ≡ Some fault
refuses b fault is = rw is refl

refuses_not : (b : Bool) (fault : CoreFault) → b ≡ false → refuse_if b fault ≡ None
refuses_not b fault is = rw is refl

module _ (w : World) (command : Command) (last : refusal w command ≡ components_full w command) where
  pub refused_full : are_too_many (Commanded command) w ≡ true → refusal w command ≡ Some ComponentsFull
  refused_full many = last ∙ refuses (are_too_many (Commanded command) w) ComponentsFull many

  pub not_refused : are_too_many (Commanded command) w ≡ false → refusal w command ≡ None
  not_refused few = last ∙ refuses_not (are_too_many (Commanded command) w) ComponentsFull few

pub full : (limit : ℕ) (s : State) (step : Step) (reply : Reply) (tables : TablesAfter) → ChangesUnlessFull s step reply tables → are_too_many step s.world ≡ true → JudgesStep limit s step (Err ComponentsFull)
unfolding JudgesStep
full limit s (Commanded command) reply tables (changes, takes) many =
    judged.refused limit s command ComponentsFull refl (refused_full s.world command changes.refusals many)
full limit s (Begin turn instance configuration consumer callback chosen) reply tables changes many = absurd changes
full limit s (End turn outcome) reply tables changes many = absurd changes
full limit s (Drained instance) reply tables changes many = absurd changes
full limit s (Got bundle service) reply tables changes many = absurd changes
full limit s (Released place) reply tables changes many = absurd changes

pub freely : (s : State) (step : Step) (reply : Reply) (tables : TablesAfter) → ChangesUnlessFull s step reply tables → are_too_many step s.world ≡ false → ChangesFreely s step reply tables
freely s (Commanded command) reply tables (changes, takes) few = record {
  refusals = not_refused s.world command changes.refusals few;
  effect = changes.effect;
  answers = changes.answers;
  after = changes.after;
}
freely s (Begin turn instance configuration consumer callback chosen) reply tables changes few = absurd changes
freely s (End turn outcome) reply tables changes few = absurd changes
freely s (Drained instance) reply tables changes few = absurd changes
freely s (Got bundle service) reply tables changes few = absurd changes
freely s (Released place) reply tables changes few = absurd changes

-- ---- room

pub no_room : (limit : ℕ) (s : State) (step : Step) (reply : Reply) (tables : TablesAfter) → ChangesFreely s step reply tables → has_room limit s.world 1 ≡ false → JudgesStep limit s step (Err JournalFull)
unfolding JudgesStep
no_room limit s (Commanded command) reply tables changes room = judged.no_room limit s command changes.refusals changes.effect room
no_room limit s (Begin turn instance configuration consumer callback chosen) reply tables changes room = absurd changes
no_room limit s (End turn outcome) reply tables changes room = absurd changes
no_room limit s (Drained instance) reply tables changes room = absurd changes
no_room limit s (Got bundle service) reply tables changes room = absurd changes
no_room limit s (Released place) reply tables changes room = absurd changes

pub changed : (limit : ℕ) (s : State) (step : Step) (reply : Reply) (asked : Asked) (tables : TablesAfter) (draft : Draft) → ChangesFreely s step reply tables → IsAskedAfter step s.world asked
    → has_room limit s.world 1 ≡ true → draft ≡ command_draft s.world asked tables → JudgesStep limit s step (Ok (WithDraft reply draft))
unfolding JudgesStep
changed limit s (Commanded command) reply asked tables draft changes known room is =
    rw is (judged.changed limit s command changes.refusals reply (command_draft s.world asked tables) changes.effect room (sym changes.answers) (drafted s command asked tables known changes.after))
changed limit s (Begin turn instance configuration consumer callback chosen) reply asked tables draft changes known room is = absurd changes
changed limit s (End turn outcome) reply asked tables draft changes known room is = absurd changes
changed limit s (Drained instance) reply asked tables draft changes known room is = absurd changes
changed limit s (Got bundle service) reply asked tables draft changes known room is = absurd changes
changed limit s (Released place) reply asked tables draft changes known room is = absurd changes

-- ---- what is right to say of a step is right to say of its command

pub of_command : (limit : ℕ) (s : State) (step : Step) (command : Command) (r : Result Judgement CoreFault) → step ≡ Commanded command → JudgesStep limit s step r → Judges limit s command r
unfolding JudgesStep
of_command limit s step command r is judges = subst (λ (x : Step). JudgesStep limit s x r) is judges
