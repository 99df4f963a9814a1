-- Entries of commands that no component tells apart.
use Rattle.std.proofs.Common.{◌≡◌, ℕ, List, [], ◌∷◌, ◌++◌, ap, sym, ◌∙◌, refl, subst, true, false, ◌||◌, Bool}
use Rattle.std.specs.Prelude.{filter, map, ◌==◌}
use Rattle.std.specs.List.{list_any}
use Rattle.component_state.specs.declared.component.Component.{Component}
use Rattle.component_state.specs.declared.open_period.OpenPeriod.{OpenPeriod}
use Rattle.component_state.specs.declared.pass.Passed.{Passed}
use Rattle.component_state.specs.Passes.{HasPassed}
use Rattle.component_state.specs.Periods.{open_after}
use Rattle.component_state.specs.Rows.{with_present_properties}
use Rattle.component_state.proofs.OnePass.{one_pass}
use Rattle.journal_core.specs.declared.entry.Entry.{Entry}
use Rattle.prop_map.specs.Words.{has}
use Rattle.scr_laws.specs.Entries.{IsCalm, passed_by}
use Rattle.scr_laws.specs.Stills.{SeeSame, passed_nothing}
use Rattle.scr_laws.proofs.Described.{legal_in_order}
use Rattle.scr_laws.proofs.Histories.{asking_leaves}
use Rattle.scr_laws.proofs.Legal.{legal_scratch}
use Rattle.scr_laws.proofs.Listed.{map_same}
use Rattle.scr_laws.proofs.Opening.{satisfied_is}
use Rattle.scr_laws.proofs.Passing.{follows_passes}
use Rattle.scr_laws.proofs.ReadyStages.{legal_begun, legal_ready}
use Rattle.scr_laws.proofs.StillLaw.{legal_calm}
use Rattle.scr_laws.proofs.Stillness.{all_kept, none_added, passes_nothing}
use Rattle.scr_unseen.specs.Unseen.{HasNoLists, is_unseen}
use Rattle.scr_unseen.proofs.Satisfying.{satisfied_numbered}
use Rattle.scr_unseen.proofs.UnseenRows.{see_same}
use Rattle.scr_unseen.proofs.UnseenStages.{none_stop, unseen_still}
use Rattle.scr_world.specs.Consequences.{stage_of}
use Rattle.scr_world.specs.Legal.{IsLegal}
use Rattle.scr_world.specs.Lists.{world_after_entry, world_of}
use Rattle.scr_world.specs.Steps.{History}
use Rattle.scr_world.specs.Stepping.{components_by, counted_components, is_counted, periods_with, world_after_step}
use Rattle.scr_world.specs.Tables.{registry_by}
use Rattle.scr_world.specs.Whiteboard.{platform_rows}
use Rattle.scr_world.specs.Worlds.{direct_services, satisfied_in}
use Rattle.scr_world.specs.declared.command.Command.TheVariants.{Get, Listen, Register, SetProperties, Unget, Unlisten, Unregister}
use Rattle.scr_world.specs.declared.instance.Instance.{Instance}
use Rattle.scr_world.specs.declared.step.Step.{Step}
use Rattle.scr_world.specs.declared.step.Step.TheVariants.{Command as Commanded}
use Rattle.scr_world.specs.declared.world.World.{World}
use Rattle.service_registry.specs.declared.row.ServiceRow.{ServiceRow}

-- ---- what such a step leaves

module _ (w : World) (calm : IsCalm w) where
  components_stay : (step : Step) → is_unseen step w ≡ true → components_by step w ≡ counted_components w
  components_stay (Commanded (Register bundle interfaces properties)) is = asking_leaves w calm.asked w.entries w.components_numbered
  components_stay (Commanded (Unregister bundle service)) is = asking_leaves w calm.asked w.entries w.components_numbered
  components_stay (Commanded (SetProperties bundle service properties)) is = asking_leaves w calm.asked w.entries w.components_numbered
  components_stay (Commanded (Get bundle service)) is = asking_leaves w calm.asked w.entries w.components_numbered
  components_stay (Commanded (Unget bundle service)) is = asking_leaves w calm.asked w.entries w.components_numbered
  components_stay (Commanded (Listen bundle filter)) is = asking_leaves w calm.asked w.entries w.components_numbered
  components_stay (Commanded (Unlisten listener)) is = asking_leaves w calm.asked w.entries w.components_numbered
  components_stay step is = absurd cc

  renewed_none : (cs : List Component) → cs ≡ counted_components w → map (with_present_properties cs) w.open_periods ≡ w.open_periods
  renewed_none cs same = ap (λ ds. map (with_present_properties ds) w.open_periods) same ∙ map_same (with_present_properties (counted_components w)) w.open_periods calm.renewed_all

  periods_stay : (step : Step) → is_unseen step w ≡ true → periods_with step (components_by step w) w.open_periods ≡ w.open_periods
  periods_stay (Commanded (Register bundle interfaces properties)) is = renewed_none _ (components_stay (Commanded (Register bundle interfaces properties)) is)
  periods_stay (Commanded (Unregister bundle service)) is = renewed_none _ (components_stay (Commanded (Unregister bundle service)) is)
  periods_stay (Commanded (SetProperties bundle service properties)) is = renewed_none _ (components_stay (Commanded (SetProperties bundle service properties)) is)
  periods_stay (Commanded (Get bundle service)) is = renewed_none _ (components_stay (Commanded (Get bundle service)) is)
  periods_stay (Commanded (Unget bundle service)) is = renewed_none _ (components_stay (Commanded (Unget bundle service)) is)
  periods_stay (Commanded (Listen bundle filter)) is = renewed_none _ (components_stay (Commanded (Listen bundle filter)) is)
  periods_stay (Commanded (Unlisten listener)) is = renewed_none _ (components_stay (Commanded (Unlisten listener)) is)
  periods_stay step is = absurd cc

not_counted : (is : List Instance) (c : Component) → is_counted is c ≡ false → c.exists ≡ false
not_counted is c off = go c.exists off
  where
    go : (b : Bool) → (b || list_any (λ (i : Instance). i.origin.configuration == c.number) is) ≡ false → b ≡ false
    go true h = cc
    go false h = refl

none_opened : (place : ℕ) (cs : List Component) (entry : Entry Step) (before : List OpenPeriod) → HasNoLists entry → open_after place cs entry.closed entry.opened before ≡ before
none_opened place cs entry before lists =
    ap (λ ns. open_after place cs ns entry.opened before) lists.0 ∙ ap (λ os. open_after place cs [] os before) lists.1 ∙ none_added (filter (λ (p : OpenPeriod). true) before) ∙ all_kept before

-- ---- of legal journals

pub unseen_passes : (limit : ℕ) (past : History) → IsLegal limit past → (step : Step) → is_unseen step (world_of past) ≡ true → HasPassed (stage_of step (world_of past)) (passed_nothing (stage_of step (world_of past)))
unseen_passes limit past legal step is = passes_nothing (stage_of step (world_of past)) (unseen_still (world_of past) (legal_calm limit past legal) step is)

module _ (limit : ℕ) (entry : Entry Step) (past : History) (legal : IsLegal limit (entry ∷ past)) (is : is_unseen entry.step (world_of past) ≡ true) where
  abbrev w : World
  w = world_of past

  calm : IsCalm (world_of past)
  calm = legal_calm limit past legal.1

  pub no_lists : HasNoLists entry
  no_lists =
      let s = stage_of entry.step (world_of past) in
      let one = one_pass s (legal_ready limit past legal.1 entry.step legal.0.step) (legal_begun limit past legal.1 entry.step legal.0.step) (passed_by entry (world_of past)) (passed_nothing s)
      (follows_passes limit entry past legal.0) (unseen_passes limit past legal.1 entry.step is) in
      (ap (λ (p : Passed). p.closed) one, ap (λ (p : Passed). p.opened) one, legal.0.stopped ∙ none_stop (world_of past) calm entry.step is)

  pub open_stays : (world_of (entry ∷ past)).open_periods ≡ (world_of past).open_periods
  unfolding world_of world_after_entry world_after_step
  open_stays = none_opened (world_of past).entries (components_by entry.step (world_of past)) entry (periods_with entry.step (components_by entry.step (world_of past)) (world_of past).open_periods) no_lists
      ∙ periods_stay (world_of past) calm entry.step is

  components_then : (world_of (entry ∷ past)).components ≡ counted_components (world_of past)
  unfolding world_of world_after_entry world_after_step
  components_then = components_stay (world_of past) calm entry.step is

  direct_then : direct_services (world_of (entry ∷ past)) ≡ platform_rows ++ (registry_by entry.step (world_of past).registry).rows
  unfolding world_of world_after_entry world_after_step
  direct_then = refl

  pub same_satisfied : (number : ℕ) → has (satisfied_in (world_of (entry ∷ past))) number ≡ has (satisfied_in (world_of past)) number
  same_satisfied number =
      satisfied_is (world_of (entry ∷ past)) (legal_in_order limit (entry ∷ past) legal) (legal_scratch limit (entry ∷ past) legal) number
      ∙ satisfied_numbered (world_of past) (world_of (entry ∷ past)) (is_counted (world_of past).instances) components_then (not_counted (world_of past).instances) open_stays
      (subst (λ (rows : List ServiceRow). SeeSame (direct_services (world_of past)) rows (world_of past).components) (sym direct_then) (see_same entry.step (world_of past) is)) number
      ∙ sym (satisfied_is (world_of past) (legal_in_order limit past legal.1) (legal_scratch limit past legal.1) number)
