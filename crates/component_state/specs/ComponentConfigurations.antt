-- The component configurations that there are to be for bundles and configurations, and their properties. OSGi Compendium 8, chapter 112; the section stands at each group of words.
use Rattle.std.specs.Prelude.{ℕ, ◌+◌, ◌==◌, ◌&&◌, ◌++◌, List, [], ◌∷◌, map, Bool, true, false, not, Option, Some, None, filter, find, filter_map, flat_map, fold, length, codes, pos, is_some, nat_le, if◌then◌else◌}
use Rattle.std.specs.Option.{option_map_or}
use Rattle.std.specs.Str.{bytes_eq}
use Rattle.std.specs.List.{list_any, list_all}
use Rattle.prop_map.specs.declared.properties.Property.{Property}
use Rattle.prop_map.specs.declared.value.Value.TheVariants.{Text, Texts, Whole}
use Rattle.prop_map.specs.Maps.{put, merge}
use Rattle.prop_map.specs.Sameness.{same_properties}
use Rattle.prop_map.specs.Words.{is_empty}
use Rattle.component_dto.specs.declared.description.Reference.{Reference}
use Rattle.component_dto.specs.declared.description.Description.{Description}
use Rattle.component_dto.specs.declared.description.ConfigurationPolicy.{ConfigurationPolicy}
use Rattle.component_dto.specs.declared.description.ConfigurationPolicy.TheVariants.{Optional, Require, Ignore}
use Rattle.config_admin.specs.declared.configuration.Configuration.{Configuration}
use Rattle.config_admin.specs.Configurations.{of_factory, of_pid}
use Rattle.reference_match.specs.Needs.{target_key, condition_name, condition_target}
use Rattle.component_state.specs.declared.component.Component.{Component}
use Rattle.component_state.specs.declared.rows.BundleRow.{BundleRow}

-- ---- properties ("Component Properties", "Target Property")

-- the targets that the references name, as properties, that of the implicit one among them
abbrev pub with_target : List Property → Reference → List Property
with_target properties r = option_map_or (λ t. put properties (target_key r.name) (Text t)) r.target properties

abbrev pub target_properties : Description → List Property
target_properties d = let named = fold with_target [] d.references in if d.implicit then put named (target_key condition_name) (Text condition_target) else named

-- where several configurations count, their PIDs are one property
abbrev pub with_pids : List Configuration → List Property → List Property
with_pids cs properties = if nat_le 2 (length cs) then put properties (codes "service.pid") (Texts (map (λ (c : Configuration). c.pid) cs)) else properties

-- the properties of a component configuration with these configurations, but for its number: later ones over earlier ones
abbrev pub component_properties : Description → List Configuration → List Property
component_properties d cs =
    put (with_pids cs (fold (λ ps (c : Configuration). merge ps c.properties) (merge (target_properties d) d.properties) cs)) (codes "component.name") (Text d.name)

abbrev pub with_number : ℕ → List Property → List Property
with_number number properties = put properties (codes "component.id") (Whole (pos number))

-- ---- configurations that count ("Component Configuration"; OSGi Compendium 8, chapter 104, factory configurations)

-- the first of the PIDs that has factory configurations
abbrev pub factory_of : List Configuration → List (List ℕ) → Option (List ℕ)
factory_of cs pids = find (λ pid. not (is_empty (of_factory pid cs))) pids

-- the configuration that counts for a PID: of the factory PID the one that is named, of one without factory configurations its own where
-- it is set, of any other none
abbrev pub counting_for : List Configuration → Option (List ℕ) → Option Configuration → List ℕ → Option Configuration
counting_for cs factory named pid =
    if option_map_or (bytes_eq pid) factory false then named else (if is_empty (of_factory pid cs) then of_pid pid cs else None)

abbrev pub counting : List Configuration → Option (List ℕ) → Option Configuration → List (List ℕ) → List (Option Configuration)
counting cs factory named pids = map (counting_for cs factory named) pids

-- ---- which there are to be ("Enabled", "Configuration Policy", "Configuration PID")

-- a component configuration without its number
abbrev pub component_for : BundleRow → ℕ → Description → Option (List ℕ) → List (Option Configuration) → Component
component_for b index d pid these = record {
  number = 0;
  bundle = b.id;
  index = index;
  pid = pid;
  exists = true;
  description = d;
  configured = list_all is_some these;
  properties = component_properties d (filter_map (λ c. c) these);
  changed = None;
}

-- the one that a configuration of the factory names
abbrev pub component_for_factory : BundleRow → ℕ → Description → List Configuration → List ℕ → Configuration → Component
component_for_factory b index d cs factory named = component_for b index d (Some named.pid) (counting cs (Some factory) (Some named) d.configuration_pids)

-- one for each configuration of the factory PID; without one just one
abbrev pub components_for : BundleRow → ℕ → Description → List Configuration → Option (List ℕ) → List Component
components_for b index d cs (Some factory) = map (component_for_factory b index d cs factory) (of_factory factory cs)
components_for b index d cs None = component_for b index d None (counting cs None None d.configuration_pids) ∷ []

-- policy `ignore` counts no configuration
abbrev pub components_for_description : BundleRow → ℕ → Description → List Configuration → ConfigurationPolicy → List Component
components_for_description b index d cs Optional = components_for b index d cs (factory_of cs d.configuration_pids)
components_for_description b index d cs Require = components_for b index d cs (factory_of cs d.configuration_pids)
components_for_description b index d cs Ignore = component_for b index d None [] ∷ []

-- of the enabled descriptions, from a index on
abbrev pub components_for_descriptions : BundleRow → List Configuration → ℕ → List Description → List Bool → List Component
components_for_descriptions b cs index [] enabled = []
components_for_descriptions b cs index (d ∷ ds) [] = []
components_for_descriptions b cs index (d ∷ ds) (e ∷ es) = (if e then components_for_description b index d cs d.configuration_policy else []) ++ components_for_descriptions b cs (index + 1) ds es

abbrev pub components_for_bundle : List Configuration → BundleRow → List Component
components_for_bundle cs b = if b.state == 32 then components_for_descriptions b cs 0 b.descriptions b.enabled else []

-- of the active bundles: by bundle, then in the order of the descriptions, then by PID
abbrev pub component_configurations : List BundleRow → List Configuration → List Component
component_configurations bundles cs = flat_map (components_for_bundle cs) bundles

-- ---- existence and numbers (our own)

-- the same bundle, description and factory's configuration
abbrev pub same_pid : Option (List ℕ) → Option (List ℕ) → Bool
same_pid None None = true
same_pid (Some a) (Some b) = bytes_eq a b
same_pid _ _ = false

abbrev pub is_same_component : Component → Component → Bool
is_same_component c d = (c.bundle == d.bundle) && ((c.index == d.index) && same_pid c.pid d.pid)

-- a component configuration that goes on in the entry at a place, with the properties that it is to have then
abbrev pub as_configured : ℕ → Component → Component → Component
as_configured place c a = let properties = with_number c.number a.properties in
    record c { configured = a.configured; properties = properties; changed = if same_properties properties c.properties then c.changed else Some place }

-- it ceases where it isn't to be any more
abbrev pub component_after : ℕ → List Component → Component → Component
component_after place these c = if c.exists then option_map_or (as_configured place c) (find (is_same_component c) these) (record c { exists = false }) else c

-- new ones are numbered on
abbrev pub with_numbers : ℕ → List Component → List Component
with_numbers number [] = []
with_numbers number (c ∷ cs) = record c { number = number; properties = with_number number c.properties } ∷ with_numbers (number + 1) cs

-- those that are to be and don't exist
abbrev pub new_components : List Component → List Component → List Component
new_components before these = filter (λ (a : Component). not (list_any (λ (c : Component). c.exists && is_same_component a c) before)) these

-- the component configurations after the entry at a place, where so many were numbered before it and these are to be in it
abbrev pub components_after : ℕ → ℕ → List Component → List Component → List Component
components_after place came these before = map (component_after place these) before ++ with_numbers (came + 1) (new_components before these)
