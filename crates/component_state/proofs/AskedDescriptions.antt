-- The component configurations that there are to be have descriptions of the bundles, and those that are numbered keep theirs.
use Rattle.std.proofs.Common.{◌≡◌, ℕ, ◌+◌, List, [], ◌∷◌, ◌++◌, ap, sym, ◌∙◌, refl, subst, cond, Bool, true, false, inl, inr, Option, Some, None}
use Rattle.std.specs.Prelude.{flat_map, map, ◌==◌}
use Rattle.std.specs.List.{Contains}
use Rattle.component_dto.specs.declared.description.ConfigurationPolicy.{ConfigurationPolicy}
use Rattle.component_dto.specs.declared.description.ConfigurationPolicy.TheVariants.{Optional, Require, Ignore}
use Rattle.component_dto.specs.declared.description.Description.{Description}
use Rattle.config_admin.specs.declared.configuration.Configuration.{Configuration}
use Rattle.config_admin.specs.Configurations.{of_factory}
use Rattle.component_state.specs.declared.component.Component.{Component}
use Rattle.component_state.specs.declared.rows.BundleRow.{BundleRow}
use Rattle.component_state.specs.ComponentConfigurations.{component_configurations, component_for, component_for_factory, components_for, components_for_bundle, components_for_description, components_for_descriptions, counting, factory_of, with_numbers}
use Rattle.component_state.proofs.Apart.{in_cases, in_either, in_first, in_left, in_none, in_rest, in_right}
use Rattle.component_state.proofs.Plain.{in_mapped}

module _ (cs : List Configuration) (b : BundleRow) where
  of_factories : (index : ℕ) (d : Description) (f : Option (List ℕ)) (a : Component) → Contains (components_for b index d cs f) a → a.description ≡ d
  of_factories index d (Some factory) a h = let was = in_mapped (component_for_factory b index d cs factory) (of_factory factory cs) a h in ap (λ (c : Component). c.description) (sym was.2)
  of_factories index d None a h = elim (in_cases (component_for b index d None (counting cs None None d.configuration_pids)) [] a h) [
    | inl same ↦ ap (λ (c : Component). c.description) (sym same)
    | inr none ↦ absurd (in_none a none)
  ]

  of_policy : (index : ℕ) (d : Description) (p : ConfigurationPolicy) (a : Component) → Contains (components_for_description b index d cs p) a → a.description ≡ d
  of_policy index d Optional a h = of_factories index d (factory_of cs d.configuration_pids) a h
  of_policy index d Require a h = of_factories index d (factory_of cs d.configuration_pids) a h
  of_policy index d Ignore a h = elim (in_cases (component_for b index d None []) [] a h) [
    | inl same ↦ ap (λ (c : Component). c.description) (sym same)
    | inr none ↦ absurd (in_none a none)
  ]

  of_enabled : (index : ℕ) (d : Description) (e : Bool) (a : Component) → Contains (cond e (components_for_description b index d cs d.configuration_policy) []) a → a.description ≡ d
  of_enabled index d true a h = of_policy index d d.configuration_policy a h
  of_enabled index d false a h = absurd (in_none a h)

  of_descriptions : (index : ℕ) (ds : List Description) (es : List Bool) (a : Component) → Contains (components_for_descriptions b cs index ds es) a → Contains ds a.description
  of_descriptions index [] es a h = absurd (in_none a h)
  of_descriptions index (d ∷ ds) [] a h = absurd (in_none a h)
  of_descriptions index (d ∷ ds) (e ∷ es) a h = elim (in_either (cond e (components_for_description b index d cs d.configuration_policy) []) (components_for_descriptions b cs (index + 1) ds es) a h) [
    | inl here ↦ subst (λ x. Contains (d ∷ ds) x) (sym (of_enabled index d e a here)) (in_first d ds)
    | inr later ↦ in_rest d ds a.description (of_descriptions (index + 1) ds es a later)
  ]

  of_bundle : (active : Bool) (a : Component) → Contains (cond active (components_for_descriptions b cs 0 b.descriptions b.enabled) []) a → Contains b.descriptions a.description
  of_bundle true a h = of_descriptions 0 b.descriptions b.enabled a h
  of_bundle false a h = absurd (in_none a h)

-- each has a description of a bundle
pub asked_described : (bundles : List BundleRow) (cs : List Configuration) (a : Component) → Contains (component_configurations bundles cs) a → Contains (flat_map (λ (b : BundleRow). b.descriptions) bundles) a.description
asked_described [] cs a h = absurd (in_none a h)
asked_described (b ∷ bs) cs a h = elim (in_either (components_for_bundle cs b) (component_configurations bs cs) a h) [
  | inl here ↦ in_left b.descriptions (flat_map (λ (x : BundleRow). x.descriptions) bs) a.description (of_bundle cs b (b.state == 32) a here)
  | inr later ↦ in_right b.descriptions (flat_map (λ (x : BundleRow). x.descriptions) bs) a.description (asked_described bs cs a later)
]

-- one that is numbered was among those that came, with its description
pub numbered_was : (n : ℕ) (cs : List Component) (c : Component) → Contains (with_numbers n cs) c → (a : Component) × Contains cs a × (c.description ≡ a.description)
numbered_was n [] c h = absurd (in_none c h)
numbered_was n (a ∷ rest) c h = elim (in_cases _ (with_numbers (n + 1) rest) c h) [
  | inl same ↦ (a, in_first a rest, ap (λ (x : Component). x.description) (sym same))
  | inr later ↦ (let found = numbered_was (n + 1) rest c later in (found.0, in_rest a rest found.0 found.1, found.2))
]
