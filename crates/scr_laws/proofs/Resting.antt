-- A bundle that stops at last asks for nothing, before and after.
use Rattle.std.proofs.Common.{◌≡◌, ℕ, ◌+◌, List, [], ◌∷◌, ◌++◌, ap, sym, ◌∙◌, refl, subst, cond, Bool, true, false, Option, Some, None}
use Rattle.std.specs.Prelude.{filter, map, not, ◌==◌}
use Rattle.std.specs.List.{Contains, list_any}
use Rattle.std.specs.Option.{option_map_or}
use Rattle.std.proofs.lemmas.Bool.{and_parts, eqb-true}
use Rattle.bundle_life.specs.declared.bundle.BundleLife.{BundleLife}
use Rattle.bundle_life.specs.declared.bundle.BundleState.{BundleState}
use Rattle.bundle_life.specs.declared.bundle.BundleState.TheVariants.{Installed, Resolved, Stopping, Active}
use Rattle.bundle_life.specs.Lives.{bundle_of, state_number, is_stopping, resolved_among}
use Rattle.component_dto.specs.declared.description.Description.{Description}
use Rattle.component_dto.specs.declared.description.ConfigurationPolicy.{ConfigurationPolicy}
use Rattle.component_dto.specs.declared.description.ConfigurationPolicy.TheVariants.{Optional, Require, Ignore}
use Rattle.component_state.specs.declared.rows.BundleRow.{BundleRow}
use Rattle.component_state.specs.ComponentConfigurations.{components_for_description, component_configurations, components_for, factory_of, components_for_bundle, components_for_descriptions}
use Rattle.config_admin.specs.declared.configuration.Configuration.{Configuration}
use Rattle.prop_map.specs.Words.{has}
use Rattle.scr_world.specs.declared.step.Step.{Step}
use Rattle.scr_world.specs.declared.contents.Contents.{Contents}
use Rattle.scr_world.specs.declared.world.World.{World}
use Rattle.scr_world.specs.Consequences.{has_stopped, stopped_by, stopped_in}
use Rattle.scr_world.specs.Stepping.{world_after_step}
use Rattle.scr_world.specs.Tables.{bundle_row, bundle_rows, bundles_by}
use Rattle.component_state.proofs.Apart.{in_first, in_rest, kept_was}
use Rattle.scr_laws.specs.Askeds.{HasOneOfEach}
use Rattle.scr_laws.proofs.Listed.{any_was, mapped_was}
use Rattle.scr_laws.proofs.Tables.{rest_if_key}

-- what is asked for of a bundle doesn't look at its state but for the first test
module _ (r : BundleRow) (s : ℕ) (cs : List Configuration) where
  with_any : (place : ℕ) (d : Description) (f : Option (List ℕ)) → components_for (record r { state = s }) place d cs f ≡ components_for r place d cs f
  with_any place d (Some factory) = refl
  with_any place d None = refl

  by_any : (place : ℕ) (d : Description) (p : ConfigurationPolicy) → components_for_description (record r { state = s }) place d cs p ≡ components_for_description r place d cs p
  by_any place d Optional = with_any place d (factory_of cs d.configuration_pids)
  by_any place d Require = with_any place d (factory_of cs d.configuration_pids)
  by_any place d Ignore = refl

  descriptions_any : (place : ℕ) (ds : List Description) (es : List Bool) → components_for_descriptions (record r { state = s }) cs place ds es ≡ components_for_descriptions r cs place ds es
  descriptions_any place [] es = refl
  descriptions_any place (d ∷ ds) [] = refl
  descriptions_any place (d ∷ ds) (e ∷ es) =
      ap (λ xs. cond e xs [] ++ components_for_descriptions (record r { state = s }) cs (place + 1) ds es) (by_any place d d.configuration_policy)
      ∙ ap (λ xs. cond e (components_for_description r place d cs d.configuration_policy) [] ++ xs) (descriptions_any (place + 1) ds es)

  pub of_bundle_any : (s == 32) ≡ (r.state == 32) → components_for_bundle cs (record r { state = s }) ≡ components_for_bundle cs r
  of_bundle_any same =
      ap (λ b. cond b (components_for_descriptions (record r { state = s }) cs 0 r.descriptions r.enabled) []) same
      ∙ ap (λ xs. cond (r.state == 32) xs []) (descriptions_any 0 r.descriptions r.enabled)

stopping_was : (s : BundleState) → is_stopping s ≡ true → (state_number s == 32) ≡ false
stopping_was Installed e = refl
stopping_was Resolved e = refl
stopping_was Stopping e = refl
stopping_was Active e = absurd cc

module _ (numbers : List ℕ) where
  one_rests : (b : BundleLife) → (has numbers b.number ≡ true → is_stopping b.state ≡ true) → (state_number (resolved_among numbers b).state == 32) ≡ (state_number b.state == 32)
  one_rests b rests = go (has numbers b.number) refl
    where
      go : (k : Bool) → has numbers b.number ≡ k → (state_number (cond k (record b { state = Resolved }) b).state == 32) ≡ (state_number b.state == 32)
      go true is = sym (stopping_was b.state (rests is))
      go false is = refl

  state_rests : (rows : List BundleLife) → ((b : BundleLife) → Contains rows b → has numbers b.number ≡ true → is_stopping b.state ≡ true) → (n : ℕ)
      → (option_map_or (λ (b : BundleLife). state_number b.state) (bundle_of (map (resolved_among numbers) rows) n) 0 == 32) ≡ (option_map_or (λ (b : BundleLife). state_number b.state) (bundle_of rows n) 0 == 32)
  state_rests [] rests n = refl
  state_rests (b ∷ bs) rests n =
      ap (λ k. (option_map_or (λ (c : BundleLife). state_number c.state) (cond (k == n) (Some (resolved_among numbers b)) (bundle_of (map (resolved_among numbers) bs) n)) 0 == 32)) (rest_if_key numbers b)
      ∙ go (b.number == n) (one_rests b (rests b (in_first b bs))) (state_rests bs (λ c h. rests c (in_rest b bs c h)) n)
    where
      go : (k : Bool) → (state_number (resolved_among numbers b).state == 32) ≡ (state_number b.state == 32)
          → (option_map_or (λ (c : BundleLife). state_number c.state) (bundle_of (map (resolved_among numbers) bs) n) 0 == 32) ≡ (option_map_or (λ (c : BundleLife). state_number c.state) (bundle_of bs n) 0 == 32)
          → (option_map_or (λ (c : BundleLife). state_number c.state) (cond k (Some (resolved_among numbers b)) (bundle_of (map (resolved_among numbers) bs) n)) 0 == 32) ≡ (option_map_or (λ (c : BundleLife). state_number c.state) (cond k (Some b) (bundle_of bs n)) 0 == 32)
      go true one later = one
      go false one later = later

  pub asked_rests : (rows : List BundleLife) (docs : List Contents) (cs : List Configuration) → ((b : BundleLife) → Contains rows b → has numbers b.number ≡ true → is_stopping b.state ≡ true)
      → component_configurations (bundle_rows (map (resolved_among numbers) rows) docs) cs ≡ component_configurations (bundle_rows rows docs) cs
  asked_rests rows [] cs rests = refl
  asked_rests rows (c ∷ docs) cs rests =
      ap (λ xs. xs ++ component_configurations (bundle_rows (map (resolved_among numbers) rows) docs) cs) (of_bundle_any (bundle_row rows c) (option_map_or (λ (b : BundleLife). state_number b.state) (bundle_of (map (resolved_among numbers) rows) c.bundle) 0) cs (state_rests rows rests c.bundle))
      ∙ ap (λ xs. components_for_bundle cs (bundle_row rows c) ++ xs) (asked_rests rows docs cs rests)

-- who has stopped was stopping
pub stopped_was_stopping : (step : Step) (w : World) → HasOneOfEach (λ (b : BundleLife). b.number) (bundles_by step w.bundles).rows → (b : BundleLife) → Contains (bundles_by step w.bundles).rows b → has (stopped_by step w) b.number ≡ true → is_stopping b.state ≡ true
unfolding stopped_by stopped_in world_after_step
stopped_was_stopping step w one b here is =
    let m = world_after_step step w in
    let number = any_was (λ n. n == b.number) (map (λ (c : BundleLife). c.number) (filter (has_stopped m.components m.instances) m.bundles.rows)) is in
    let row = mapped_was (λ (c : BundleLife). c.number) (filter (has_stopped m.components m.instances) m.bundles.rows) number.0 number.1.0 in
    let kept = kept_was (has_stopped m.components m.instances) m.bundles.rows row.0 row.1.0 in
    subst (λ (c : BundleLife). is_stopping c.state ≡ true) (one row.0 b kept.0 here (row.1.1 ∙ eqb-true number.0 b.number number.1.1)) (and_parts (is_stopping row.0.state) (not (list_any _ m.instances)) kept.1).0
