-- What is asked for lives and is told apart.
use Rattle.std.proofs.Common.{◌≡◌, ◌≤◌, ℕ, ◌+◌, List, [], ◌∷◌, ap, arith, sym, ◌∙◌, refl, subst, cond, Bool, true, false, inl, inr, ◌⊎◌, Option, Some, None}
use Rattle.std.specs.Prelude.{◌==◌}
use Rattle.std.specs.List.{Contains}
use Rattle.std.specs.Option.{option_map_or}
use Rattle.std.specs.Str.{bytes_eq}
use Rattle.bundle_life.specs.declared.bundle.BundleLife.{BundleLife}
use Rattle.component_dto.specs.declared.description.Description.{Description}
use Rattle.component_dto.specs.declared.description.ConfigurationPolicy.{ConfigurationPolicy}
use Rattle.component_dto.specs.declared.description.ConfigurationPolicy.TheVariants.{Optional, Require, Ignore}
use Rattle.component_state.specs.declared.component.Component.{Component}
use Rattle.component_state.specs.declared.rows.BundleRow.{BundleRow}
use Rattle.component_state.specs.ComponentConfigurations.{component_for, components_for_description, component_for_factory, component_configurations, components_for, counting, factory_of, is_same_component, components_for_bundle, components_for_descriptions}
use Rattle.config_admin.specs.declared.configuration.Configuration.{Configuration}
use Rattle.config_admin.specs.Configurations.{of_factory}
use Rattle.scr_world.specs.declared.contents.Contents.{Contents}
use Rattle.scr_world.specs.Tables.{bundle_row, bundle_rows}
use Rattle.component_state.proofs.Apart.{in_either, in_none, kept_was}
use Rattle.scr_laws.proofs.Asking.{same_parts}
use Rattle.scr_laws.proofs.Listed.{joined_was, mapped_was, single}

record IsFrom (bundle place : ℕ) (a : Component) : Type 0 where
  lives : a.exists ≡ true
  home : a.bundle ≡ bundle
  from : place ≤ a.index
  unchanged : a.changed ≡ None

module _ (b : BundleRow) (cs : List Configuration) (told : (x y : Configuration) → Contains cs x → Contains cs y → x.pid ≡ y.pid → x ≡ y) where
  with_from : (place : ℕ) (d : Description) (f : Option (List ℕ)) (a : Component) → Contains (components_for b place d cs f) a → IsFrom b.id place a × (a.index ≡ place)
  with_from place d (Some factory) a h =
      let was = mapped_was (component_for_factory b place d cs factory) (of_factory factory cs) a h in
      subst (λ (c : Component). IsFrom b.id place c × (c.index ≡ place)) was.1.1 (record { lives = refl; home = refl; from = omega arith; unchanged = refl }, refl)
  with_from place d None a h = subst (λ (c : Component). IsFrom b.id place c × (c.index ≡ place)) (single (component_for b place d None (counting cs None None d.configuration_pids)) a h) (record { lives = refl; home = refl; from = omega arith; unchanged = refl }, refl)

  by_from : (place : ℕ) (d : Description) (p : ConfigurationPolicy) (a : Component) → Contains (components_for_description b place d cs p) a → IsFrom b.id place a × (a.index ≡ place)
  by_from place d Optional a h = with_from place d (factory_of cs d.configuration_pids) a h
  by_from place d Require a h = with_from place d (factory_of cs d.configuration_pids) a h
  by_from place d Ignore a h = subst (λ (c : Component). IsFrom b.id place c × (c.index ≡ place)) (single (component_for b place d None []) a h) (record { lives = refl; home = refl; from = omega arith; unchanged = refl }, refl)

  some_is : (x y : List ℕ) → Some x ≡ Some y → x ≡ y
  some_is x y e = cc

  with_apart : (place : ℕ) (d : Description) (f : Option (List ℕ)) (x y : Component) → Contains (components_for b place d cs f) x → Contains (components_for b place d cs f) y → is_same_component x y ≡ true → x ≡ y
  with_apart place d (Some factory) x y h k same =
      let left = mapped_was (component_for_factory b place d cs factory) (of_factory factory cs) x h in
      let right = mapped_was (component_for_factory b place d cs factory) (of_factory factory cs) y k in
      sym left.1.1 ∙ ap (component_for_factory b place d cs factory) (told left.0 right.0
      (kept_was (λ (c : Configuration). option_map_or (bytes_eq factory) c.factory false) cs left.0 left.1.0).0
      (kept_was (λ (c : Configuration). option_map_or (bytes_eq factory) c.factory false) cs right.0 right.1.0).0
      (some_is left.0.pid right.0.pid (ap (λ (c : Component). c.pid) left.1.1 ∙ (same_parts x y same).1.1 ∙ ap (λ (c : Component). c.pid) (sym right.1.1)))) ∙ right.1.1
  with_apart place d None x y h k same = sym (single (component_for b place d None (counting cs None None d.configuration_pids)) x h) ∙ single (component_for b place d None (counting cs None None d.configuration_pids)) y k

  by_apart : (place : ℕ) (d : Description) (p : ConfigurationPolicy) (x y : Component) → Contains (components_for_description b place d cs p) x → Contains (components_for_description b place d cs p) y → is_same_component x y ≡ true → x ≡ y
  by_apart place d Optional x y h k same = with_apart place d (factory_of cs d.configuration_pids) x y h k same
  by_apart place d Require x y h k same = with_apart place d (factory_of cs d.configuration_pids) x y h k same
  by_apart place d Ignore x y h k same = sym (single (component_for b place d None []) x h) ∙ single (component_for b place d None []) y k

  head_from : (place : ℕ) (d : Description) (e : Bool) (a : Component) → Contains (cond e (components_for_description b place d cs d.configuration_policy) []) a → Contains (components_for_description b place d cs d.configuration_policy) a
  head_from place d true a h = h
  head_from place d false a h = absurd (in_none a h)

  descriptions_from : (place : ℕ) (ds : List Description) (es : List Bool) (a : Component) → Contains (components_for_descriptions b cs place ds es) a → IsFrom b.id place a
  descriptions_from place [] es a h = absurd (in_none a h)
  descriptions_from place (d ∷ ds) [] a h = absurd (in_none a h)
  descriptions_from place (d ∷ ds) (e ∷ es) a h = elim (in_either (cond e (components_for_description b place d cs d.configuration_policy) []) (components_for_descriptions b cs (place + 1) ds es) a h) [
    | inl here ↦ (by_from place d d.configuration_policy a (head_from place d e a here)).0
    | inr later ↦ (let r = descriptions_from (place + 1) ds es a later in record { lives = r.lives; home = r.home; from = omega (arith, r.from); unchanged = r.unchanged })
  ]

  descriptions_apart : (place : ℕ) (ds : List Description) (es : List Bool) (x y : Component) → Contains (components_for_descriptions b cs place ds es) x → Contains (components_for_descriptions b cs place ds es) y → is_same_component x y ≡ true → x ≡ y
  descriptions_apart place [] es x y h k same = absurd (in_none x h)
  descriptions_apart place (d ∷ ds) [] x y h k same = absurd (in_none x h)
  descriptions_apart place (d ∷ ds) (e ∷ es) x y h k same =
      go (in_either (cond e (components_for_description b place d cs d.configuration_policy) []) (components_for_descriptions b cs (place + 1) ds es) x h) (in_either (cond e (components_for_description b place d cs d.configuration_policy) []) (components_for_descriptions b cs (place + 1) ds es) y k)
      (λ l r. descriptions_apart (place + 1) ds es x y l r same)
    where
      go : Contains (cond e (components_for_description b place d cs d.configuration_policy) []) x ⊎ Contains (components_for_descriptions b cs (place + 1) ds es) x → Contains (cond e (components_for_description b place d cs d.configuration_policy) []) y ⊎ Contains (components_for_descriptions b cs (place + 1) ds es) y → (Contains (components_for_descriptions b cs (place + 1) ds es) x → Contains (components_for_descriptions b cs (place + 1) ds es) y → x ≡ y) → x ≡ y
      go (inl l) (inl r) both = by_apart place d d.configuration_policy x y (head_from place d e x l) (head_from place d e y r) same
      go (inr l) (inr r) both = both l r
      go (inl l) (inr r) both = absurd (omega (arith, (by_from place d d.configuration_policy x (head_from place d e x l)).1, (descriptions_from (place + 1) ds es y r).from, (same_parts x y same).1.0))
      go (inr l) (inl r) both = absurd (omega (arith, (by_from place d d.configuration_policy y (head_from place d e y r)).1, (descriptions_from (place + 1) ds es x l).from, (same_parts x y same).1.0))

  whole : (e : Bool) (a : Component) → Contains (cond e (components_for_descriptions b cs 0 b.descriptions b.enabled) []) a → Contains (components_for_descriptions b cs 0 b.descriptions b.enabled) a
  whole true a h = h
  whole false a h = absurd (in_none a h)

  pub bundle_from : (a : Component) → Contains (components_for_bundle cs b) a → (a.exists ≡ true) × (a.bundle ≡ b.id)
  bundle_from a h = let r = descriptions_from 0 b.descriptions b.enabled a (whole (b.state == 32) a h) in (r.lives, r.home)

  pub bundle_unchanged : (a : Component) → Contains (components_for_bundle cs b) a → a.changed ≡ None
  bundle_unchanged a h = (descriptions_from 0 b.descriptions b.enabled a (whole (b.state == 32) a h)).unchanged

  pub bundle_apart : (x y : Component) → Contains (components_for_bundle cs b) x → Contains (components_for_bundle cs b) y → is_same_component x y ≡ true → x ≡ y
  bundle_apart x y h k same = descriptions_apart 0 b.descriptions b.enabled x y (whole (b.state == 32) x h) (whole (b.state == 32) y k) same

module _ (rows : List BundleRow) (cs : List Configuration) (told : (x y : Configuration) → Contains cs x → Contains cs y → x.pid ≡ y.pid → x ≡ y) (apart : (x y : BundleRow) → Contains rows x → Contains rows y → x.id ≡ y.id → x ≡ y) where
  asked_live : (a : Component) → Contains (component_configurations rows cs) a → a.exists ≡ true
  asked_live a h = let was = joined_was (components_for_bundle cs) rows a h in (bundle_from was.0 cs told a was.1.1).0

  asked_apart : (x y : Component) → Contains (component_configurations rows cs) x → Contains (component_configurations rows cs) y → is_same_component x y ≡ true → x ≡ y
  asked_apart x y h k same =
      let left = joined_was (components_for_bundle cs) rows x h in
      let right = joined_was (components_for_bundle cs) rows y k in
      let one : left.0 ≡ right.0 = apart left.0 right.0 left.1.0 right.1.0 (sym (bundle_from left.0 cs told x left.1.1).1 ∙ (same_parts x y same).0 ∙ (bundle_from right.0 cs told y right.1.1).1) in
      bundle_apart right.0 cs told x y (subst (λ (r : BundleRow). Contains (components_for_bundle cs r) x) one left.1.1) right.1.1 same

rows_apart : (bundles : List BundleLife) (docs : List Contents) → ((x y : Contents) → Contains docs x → Contains docs y → x.bundle ≡ y.bundle → x ≡ y) → (x y : BundleRow) → Contains (bundle_rows bundles docs) x → Contains (bundle_rows bundles docs) y → x.id ≡ y.id → x ≡ y
rows_apart bundles docs told x y h k same =
    let left = mapped_was (bundle_row bundles) docs x h in
    let right = mapped_was (bundle_row bundles) docs y k in
    sym left.1.1 ∙ ap (bundle_row bundles) (told left.0 right.0 left.1.0 right.1.0 (ap (λ (r : BundleRow). r.id) left.1.1 ∙ same ∙ ap (λ (r : BundleRow). r.id) (sym right.1.1))) ∙ right.1.1

-- what is asked for in tables whose rows are told apart lives and is told apart
module _ (bundles : List BundleLife) (docs : List Contents) (cs : List Configuration) (told : (x y : Configuration) → Contains cs x → Contains cs y → x.pid ≡ y.pid → x ≡ y) (apart : (x y : Contents) → Contains docs x → Contains docs y → x.bundle ≡ y.bundle → x ≡ y) where
  pub world_live : (a : Component) → Contains (component_configurations (bundle_rows bundles docs) cs) a → a.exists ≡ true
  world_live = asked_live (bundle_rows bundles docs) cs told (rows_apart bundles docs apart)

  pub world_apart : (x y : Component) → Contains (component_configurations (bundle_rows bundles docs) cs) x → Contains (component_configurations (bundle_rows bundles docs) cs) y → is_same_component x y ≡ true → x ≡ y
  world_apart = asked_apart (bundle_rows bundles docs) cs told (rows_apart bundles docs apart)

-- and no entry has changed its properties yet
pub asked_unchanged : (rows : List BundleRow) (cs : List Configuration) → ((x y : Configuration) → Contains cs x → Contains cs y → x.pid ≡ y.pid → x ≡ y) → (a : Component) → Contains (component_configurations rows cs) a → a.changed ≡ None
asked_unchanged rows cs told a h = let was = joined_was (components_for_bundle cs) rows a h in bundle_unchanged was.0 cs told a was.1.1
