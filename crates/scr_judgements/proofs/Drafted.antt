-- The draft of any command, of what is asked for after it and of the tables after it.
use Rattle.std.proofs.Common.{◌≡◌, ◌+◌, ◌∙◌, ℕ, List, ap, append-nil, arith, refl, subst, sym}
use Rattle.std.specs.Option.{unwrap_or}
use Rattle.journal_core.specs.Rooms.{JournalRows}
use Rattle.scr_judgements.specs.Asked.{IsAskedAfter}
use Rattle.scr_judgements.specs.declared.asked.Asked.{Asked}
use Rattle.scr_judgements.specs.Drafting.{AreTablesAfter, AreTablesBy, command_draft}
use Rattle.scr_judgements.specs.declared.drafting.TablesAfter.{TablesAfter}
use Rattle.scr_laws.proofs.Histories.{legal_is_asked}
use Rattle.scr_laws.specs.Askeds.{IsAsked}
use Rattle.scr_state.specs.Drafts.{HasRoom, with_draft}
use Rattle.scr_state.specs.Keeps.{IsDraft, Keeps, with_bundles_by}
use Rattle.scr_state.specs.declared.state.State.{State}
use Rattle.scr_world.specs.Levels.{levels_of}
use Rattle.scr_world.specs.Stepping.{world_after_step}
use Rattle.scr_world.specs.Steps.{history_of}
use Rattle.scr_world.specs.Tables.{descriptions_of, documents_by_command}
use Rattle.scr_world.specs.declared.command.Command.{Command}
use Rattle.scr_world.specs.declared.contents.Contents.{Contents}
use Rattle.scr_world.specs.declared.step.Step.{Step}
use Rattle.scr_world.specs.declared.step.Step.TheVariants.{Command as Commanded, Begin, End, Drained, Got, Released}
use Rattle.scr_world.specs.declared.world.World.{World}

plus_none : (n : ℕ) → n + 0 ≡ n
plus_none n = grind (arith)

documents_then : (command : Command) (w : World) → (world_after_step (Commanded command) w).documents ≡ documents_by_command command (w.bundles.numbered + 1) w.documents
unfolding world_after_step
documents_then command w = refl

module _ (s : State) (command : Command) (asked : Asked) (tables : TablesAfter) (known : IsAskedAfter (Commanded command) s.world asked) (after : AreTablesAfter s command tables) where
  drafted_world : with_draft (command_draft s.world asked tables) (with_bundles_by (Commanded command) s.world) ≡ world_after_step (Commanded command) s.world
  unfolding with_draft command_draft world_after_step
  drafted_world = rw (
    after.documents,
    after.registry,
    after.configurations,
    after.uses,
    known.components,
    known.components_numbered,
    known.open_periods,
    known.failed,
    plus_none s.world.instances_numbered,
    plus_none s.world.turns_begun,
    append-nil s.world.failures,
  ) refl

  described : unwrap_or (command_draft s.world asked tables).descriptions s.descriptions ≡ unwrap_or tables.descriptions s.descriptions
  unfolding command_draft
  described = refl

  levelled : unwrap_or (command_draft s.world asked tables).levels s.levels ≡ unwrap_or tables.levels s.levels
  unfolding command_draft
  levelled = refl

  roomy : HasRoom (command_draft s.world asked tables) s.world
  unfolding command_draft
  roomy = (tt, (tt, (tt, tt)))

  pub drafted : IsDraft s (Commanded command) (command_draft s.world asked tables)
  drafted = record {
    world = drafted_world;
    descriptions = described ∙ after.descriptions ∙ ap descriptions_of (sym (documents_then command s.world));
    levels = levelled ∙ after.levels ∙ ap (λ (cs : List Contents). levels_of (descriptions_of cs)) (sym (documents_then command s.world));
    room = roomy;
  }

-- ---- the same, of a step

pub drafted_step : (s : State) (step : Step) (asked : Asked) (tables : TablesAfter) → IsAskedAfter step s.world asked → AreTablesBy s step tables → IsDraft s step (command_draft s.world asked tables)
unfolding AreTablesBy
drafted_step s (Commanded command) asked tables known after = drafted s command asked tables known after
drafted_step s (Begin turn instance configuration consumer callback chosen) asked tables known after = absurd after
drafted_step s (End turn outcome) asked tables known after = absurd after
drafted_step s (Drained instance) asked tables known after = absurd after
drafted_step s (Got bundle service) asked tables known after = absurd after
drafted_step s (Released place) asked tables known after = absurd after

pub tables_step : (s : State) (step : Step) (command : Command) (tables : TablesAfter) → step ≡ Commanded command → AreTablesAfter s command tables → AreTablesBy s step tables
unfolding AreTablesBy
tables_step s step command tables is after = subst (λ (x : Step). AreTablesBy s x tables) (sym is) after

-- ---- where the documents stay, what is kept with them stays

module _ (j : JournalRows Step) (s : State) (keeps : Keeps j s) (documents : List Contents) (same : documents ≡ s.world.documents) where
  pub descriptions_stay : s.descriptions ≡ descriptions_of documents
  descriptions_stay = keeps.descriptions ∙ ap descriptions_of (sym same)

  pub levels_stay : s.levels ≡ levels_of (descriptions_of documents)
  levels_stay = keeps.levels ∙ ap levels_of descriptions_stay

-- ---- in the state of a legal journal the component configurations are as they are asked for

pub kept_asked : (j : JournalRows Step) (s : State) → Keeps j s → IsAsked s.world
kept_asked j s keeps = subst (λ (w : World). IsAsked w) (sym keeps.world) (legal_is_asked j.limit (history_of j.entries) keeps.legal)
