-- All that happened to services, part by part.
use Rattle.std.proofs.Common.{◌≡◌, ℕ, zero, suc, List, ◌++◌, ◌∙◌, ap, sym, length}
use Rattle.std.proofs.lemmas.List.{length-map}
use Rattle.level_order.specs.Levels.{level_from}
use Rattle.std.specs.Prelude.{filter, not}
use Rattle.std.specs.List.{flat_map}
use Rattle.component_dto.specs.declared.description.Description.{Description}
use Rattle.component_state.specs.Components.{pass_order}
use Rattle.component_state.specs.declared.open_period.OpenPeriod.{OpenPeriod}
use Rattle.prop_map.specs.Words.{has}
use Rattle.scr_consequences.specs.Changes.{change_at, change_from, change_of_new}
use Rattle.scr_consequences.proofs.DirectLemmas.{AreRising, at_number, of_direct}
use Rattle.scr_consequences.proofs.TellingLemmas.{after_more}
use Rattle.scr_world.specs.Levels.{levels_of, levels_within}
use Rattle.scr_world.specs.Lists.{changes_between}
use Rattle.scr_world.specs.Tables.{descriptions_of}
use Rattle.scr_world.specs.declared.world.World.{World}
use Rattle.service_listeners.specs.Listening.{Change, ListenerTable, after_changes}
use Rattle.service_registry.specs.Services.{ids}
use Rattle.service_registry.specs.declared.row.ServiceRow.{ServiceRow}

-- as many levels as descriptions
levels_long : (n : ℕ) (ds : List Description) → length (levels_within n ds) ≡ length ds
levels_long zero ds = length-map ds (λ (d : Description). 0)
levels_long (suc n) ds = length-map ds (λ (d : Description). level_from d ds (levels_within n ds))

pub same_length : (ds : List Description) (levels : List ℕ) → levels ≡ levels_of ds → length ds ≡ length levels
same_length ds levels e = sym (ap length e ∙ levels_long (length ds) ds)

direct_of : List ServiceRow → List ServiceRow → List Change
direct_of was now = flat_map (at_number was now) (ids was ++ filter (λ s. not (has (ids was) s)) (ids now))

module _ (was now : World) (was_rows : List ServiceRow) (was_periods : List OpenPeriod) (before : List ℕ) (ds : List Description) (levels : List ℕ) where
  opened_of : List OpenPeriod → List Description → List ℕ → List Change
  opened_of periods of ls = flat_map (change_at periods now.open_periods) (pass_order of ls now.components)

  pub told_all : AreRising was_rows → AreRising now.registry.rows → ((n : ℕ) → has before n ≡ has (ids was_rows) n) → ds ≡ descriptions_of now.documents → levels ≡ levels_of ds
      → was.registry.rows ≡ was_rows → was.open_periods ≡ was_periods → (a b c d : ListenerTable)
      → b ≡ after_changes (flat_map (change_from now.registry.rows) was_rows) a
      → c ≡ after_changes (flat_map (change_of_new before) now.registry.rows) b
      → d ≡ after_changes (flat_map (change_at was_periods now.open_periods) (pass_order ds levels now.components)) c
      → d ≡ after_changes (changes_between was now) a
  unfolding direct_of opened_of
  told_all rising_was rising_now all same_ds same_levels rows periods a b c d first then last =
      let old = flat_map (change_from now.registry.rows) was_rows in
      let new = flat_map (change_of_new before) now.registry.rows in
      let opened = opened_of was_periods ds levels in
      let direct : old ++ new ≡ direct_of was.registry.rows now.registry.rows =
      of_direct was_rows now.registry.rows before all rising_was rising_now ∙ ap (λ (rs : List ServiceRow). direct_of rs now.registry.rows) (sym rows) in
      let levels_are : levels ≡ levels_of (descriptions_of now.documents) = same_levels ∙ ap levels_of same_ds in
      let others : opened ≡ opened_of was.open_periods (descriptions_of now.documents) (levels_of (descriptions_of now.documents)) =
      ap (λ (ps : List OpenPeriod). opened_of ps ds levels) (sym periods)
      ∙ ap (λ (of : List Description). opened_of was.open_periods of levels) same_ds
      ∙ ap (λ (ls : List ℕ). opened_of was.open_periods (descriptions_of now.documents) ls) levels_are in
      last ∙ ap (after_changes opened) (then ∙ ap (after_changes new) first)
      ∙ ap (after_changes opened) (sym (after_more old new a))
      ∙ sym (after_more (old ++ new) opened a)
      ∙ ap (λ (cs : List Change). after_changes (cs ++ opened) a) direct
      ∙ ap (λ (cs : List Change). after_changes (direct_of was.registry.rows now.registry.rows ++ cs) a) others
