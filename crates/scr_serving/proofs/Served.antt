-- What is right to say of a command for services, at each of its judge's ends.
use Rattle.std.proofs.Common.{◌≡◌, ◌∙◌, ℕ, List, sym, Bool, true, false, Option, Some, None, Result, Ok, Err}
use Rattle.std.specs.Option.{unwrap_or}
use Rattle.std.specs.Prelude.{◌+◌, IsErrAnd}
use Rattle.journal_core.specs.Rooms.{JournalRows}
use Rattle.scr_judgements.specs.Drafting.{AreTablesBy, no_tables}
use Rattle.scr_judgements.specs.Judgements.{Judges}
use Rattle.scr_judgements.specs.declared.judgement.Judgement.{Judgement}
use Rattle.scr_judgements.specs.declared.judgement.Judgement.TheVariants.{Changes}
use Rattle.scr_judgements.proofs.Drafted.{descriptions_stay, levels_stay, tables_step}
use Rattle.scr_judgements.proofs.Judged.{changed, drafted_as, no_memory_freely, no_room}
use Rattle.scr_judgements.proofs.Plain.{brings_document, refused_plainly}
use Rattle.scr_state.specs.Keeps.{IsDraft, Keeps}
use Rattle.scr_state.specs.declared.draft.Draft.{Draft}
use Rattle.scr_state.specs.declared.state.State.{State}
use Rattle.scr_world.specs.Refusals.{refusal}
use Rattle.scr_world.specs.Replies.{answer, has_effect}
use Rattle.scr_world.specs.Room.{has_room}
use Rattle.scr_world.specs.Tables.{configurations_by_command, documents_by_command, registry_by_command, uses_by_command}
use Rattle.scr_world.specs.declared.command.Command.{Command}
use Rattle.scr_world.specs.declared.reply.CoreFault.{CoreFault}
use Rattle.scr_world.specs.declared.reply.CoreFault.TheVariants.{JournalFull, OutOfMemory}
use Rattle.scr_world.specs.declared.reply.Reply.{Reply}
use Rattle.scr_world.specs.declared.step.Step.{Step}
use Rattle.scr_world.specs.declared.step.Step.TheVariants.{Command as Commanded}
use Rattle.service_registry.specs.Registries.{Registered}
use Rattle.use_counts.specs.declared.uses.UseRow.{UseRow}

module _ (limit : ℕ) (s : State) (command : Command) (refused : Option CoreFault) (refused_is : refused ≡ refusal s.world command) where
  pub told : brings_document command ≡ false → (fault : CoreFault) → refused ≡ Some fault → Judges limit s command (Err fault)
  told plain fault is = refused_plainly limit s command plain fault (sym refused_is ∙ is)

  module _ (free : refused ≡ None) (effect : has_effect s.world command ≡ true) (room : Bool) (room_is : room ≡ has_room limit s.world 1) where
    pub full : room ≡ false → Judges limit s command (Err JournalFull)
    full is = no_room limit s command (sym refused_is ∙ free) effect (sym room_is ∙ is)

    pub none_left : room ≡ true → (judged : Result Judgement CoreFault) → IsErrAnd judged (λ fault. fault ≡ OutOfMemory) → Judges limit s command judged
    none_left is (Ok judgement) wants = absurd wants
    none_left is (Err fault) wants = no_memory_freely limit s command (sym refused_is ∙ free) (sym room_is ∙ is) fault wants

    pub served : room ≡ true → (reply : Reply) → reply ≡ answer s.world command → (step : Step) → step ≡ Commanded command → (draft : Draft) → IsDraft s step draft → Judges limit s command (Ok (Changes reply draft))
    served is reply answers step commanded draft drafted =
        changed limit s command (sym refused_is ∙ free) reply draft effect (sym room_is ∙ is) answers (drafted_as s step command draft commanded drafted)

-- ---- the tables after a command that changes direct services or gets alone

module _ (j : JournalRows Step) (s : State) (keeps : Keeps j s) (step : Step) (command : Command) (is : step ≡ Commanded command)
    (documents : documents_by_command command (s.world.bundles.numbered + 1) s.world.documents ≡ s.world.documents)
    (configurations : configurations_by_command command s.world.configurations ≡ s.world.configurations) where
  pub tables_then : (registry : Option Registered) (uses : Option (List UseRow))
      → unwrap_or registry s.world.registry ≡ registry_by_command command s.world.registry
      → unwrap_or uses s.world.uses ≡ uses_by_command command s.world.tokens s.world.uses
      → AreTablesBy s step (record no_tables { registry = registry; uses = uses })
  tables_then registry uses registry_is uses_is = tables_step s step command (record no_tables { registry = registry; uses = uses }) is (record {
    documents = sym documents;
    registry = registry_is;
    configurations = sym configurations;
    uses = uses_is;
    descriptions = descriptions_stay j s keeps (documents_by_command command (s.world.bundles.numbered + 1) s.world.documents) documents;
    levels = levels_stay j s keeps (documents_by_command command (s.world.bundles.numbered + 1) s.world.documents) documents;
  })
