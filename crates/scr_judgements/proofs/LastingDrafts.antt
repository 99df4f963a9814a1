-- The draft of a command after which the same is asked for, and that forgets nothing.
use Rattle.std.proofs.Common.{◌≡◌, ◌+◌, ◌∙◌, ℕ, List, [], ◌∷◌, ap, arith, cond, refl, subst, sym, Bool, true}
use Rattle.std.specs.List.{list_all}
use Rattle.std.specs.Option.{unwrap_or}
use Rattle.std.specs.Prelude.{filter, map}
use Rattle.std.proofs.lemmas.Bool.{and_parts}
use Rattle.component_state.specs.Rows.{with_present_properties}
use Rattle.component_state.specs.declared.component.Component.{Component}
use Rattle.journal_core.specs.Rooms.{JournalRows}
use Rattle.scr_judgements.proofs.Drafted.{drafted_step}
use Rattle.scr_judgements.proofs.Leaving.{left_added, left_components}
use Rattle.scr_judgements.specs.Asked.{IsAskedAfter, is_command}
use Rattle.scr_judgements.specs.Drafting.{AreTablesBy, command_draft}
use Rattle.scr_judgements.specs.Lasting.{AsksAsBefore, forgets_none, lasting_draft}
use Rattle.scr_judgements.specs.declared.asked.Asked.{Asked}
use Rattle.scr_judgements.specs.declared.drafting.TablesAfter.{TablesAfter}
use Rattle.scr_laws.proofs.Listed.{map_same}
use Rattle.scr_laws.proofs.StillLaw.{legal_calm}
use Rattle.scr_laws.specs.Entries.{IsCalm}
use Rattle.scr_state.specs.Drafts.{HasRoom, with_draft}
use Rattle.scr_state.specs.Keeps.{IsDraft, Keeps, with_bundles_by}
use Rattle.scr_state.specs.declared.state.State.{State}
use Rattle.scr_world.specs.Stepping.{components_added_by, components_by, counted_components, failed_by, is_counted, periods_with}
use Rattle.scr_world.specs.Steps.{history_of}
use Rattle.scr_world.specs.declared.step.Step.{Step}
use Rattle.scr_world.specs.declared.step.Step.TheVariants.{Command as Commanded, Begin, End, Drained, Got, Released}
use Rattle.scr_world.specs.declared.world.World.{World}

-- ---- it is that with the tables of now in their places

-- what is asked for stands there
abbrev pub standing : World → List ℕ → Asked
standing w failed = record { components = w.components; components_numbered = w.components_numbered; open_periods = w.open_periods; failed = failed }

module _ (s : State) (step : Step) (failed : List ℕ) (tables : TablesAfter) where
  same_world : with_draft (lasting_draft s.world failed tables) (with_bundles_by step s.world) ≡ with_draft (command_draft s.world (standing s.world failed) tables) (with_bundles_by step s.world)
  unfolding with_draft lasting_draft command_draft
  same_world = refl

  same_descriptions : unwrap_or (lasting_draft s.world failed tables).descriptions s.descriptions ≡ unwrap_or (command_draft s.world (standing s.world failed) tables).descriptions s.descriptions
  unfolding lasting_draft command_draft
  same_descriptions = refl

  same_levels : unwrap_or (lasting_draft s.world failed tables).levels s.levels ≡ unwrap_or (command_draft s.world (standing s.world failed) tables).levels s.levels
  unfolding lasting_draft command_draft
  same_levels = refl

  roomy : HasRoom (lasting_draft s.world failed tables) s.world
  unfolding lasting_draft
  roomy = (tt, (tt, (tt, tt)))

  pub lasting : IsAskedAfter step s.world (standing s.world failed) → AreTablesBy s step tables → IsDraft s step (lasting_draft s.world failed tables)
  lasting known after =
      let drafted = drafted_step s step (standing s.world failed) tables known after in record {
        world = same_world ∙ drafted.world;
        descriptions = same_descriptions ∙ drafted.descriptions;
        levels = same_levels ∙ drafted.levels;
        room = roomy;
      }

-- ---- what is asked for stands

all_count : (test : Component → Bool) (cs : List Component) → list_all test cs ≡ true → filter test cs ≡ cs
all_count test [] all = refl
all_count test (c ∷ cs) all =
    let parts = and_parts (test c) (list_all test cs) all in
    ap (λ b. cond b (c ∷ filter test cs) (filter test cs)) parts.0 ∙ ap (λ (rest : List Component). c ∷ rest) (all_count test cs parts.1)

pub none_forgotten : (w : World) → forgets_none w ≡ true → counted_components w ≡ w.components
none_forgotten w all = all_count (is_counted w.instances) w.components all

calm_kept : (j : JournalRows Step) (s : State) → Keeps j s → IsCalm s.world
calm_kept j s keeps = subst (λ (w : World). IsCalm w) (sym keeps.world) (legal_calm j.limit (history_of j.entries) keeps.legal)

periods_stay : (step : Step) (w : World) → is_command step ≡ true → AsksAsBefore step w → IsCalm w → w.open_periods ≡ periods_with step (components_by step w) w.open_periods
periods_stay (Commanded command) w e same calm =
    sym (ap (λ (cs : List Component). map (with_present_properties cs) w.open_periods) (sym (left_components (Commanded command) w e same calm.asked))
    ∙ map_same (with_present_properties (counted_components w)) w.open_periods calm.renewed_all)
periods_stay (Begin turn instance configuration consumer callback chosen) w e same calm = absurd cc
periods_stay (End turn outcome) w e same calm = absurd cc
periods_stay (Drained instance) w e same calm = absurd cc
periods_stay (Got bundle service) w e same calm = absurd cc
periods_stay (Released place) w e same calm = absurd cc

as_many : (n k : ℕ) → k ≡ 0 → n ≡ n + k
as_many n k none = omega arith

module _ (j : JournalRows Step) (s : State) (keeps : Keeps j s) (step : Step) (command : is_command step ≡ true) (same : AsksAsBefore step s.world) (all : forgets_none s.world ≡ true) where
  pub components_stand : s.world.components ≡ components_by step s.world
  components_stand = sym (none_forgotten s.world all) ∙ left_components step s.world command same (calm_kept j s keeps).asked

  pub stands : (failed : List ℕ) → failed ≡ failed_by step s.world → IsAskedAfter step s.world (standing s.world failed)
  stands failed is = record {
    components = components_stand;
    components_numbered = as_many s.world.components_numbered (components_added_by step s.world) (left_added step s.world command same (calm_kept j s keeps).asked);
    open_periods = periods_stay step s.world command same (calm_kept j s keeps);
    failed = is;
  }
