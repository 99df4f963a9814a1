-- What keeps a component configuration from being satisfied, by itself. OSGi Compendium 8, chapter 112, "Satisfied"; the section stands at each group of words. What could
-- be a target, and the order, are our own.
use Rattle.std.specs.Prelude.{ℕ, ◌++◌, List, [], ◌∷◌, map, not, Option, Some, None, filter, flat_map, is_none, is_some, length, option_map, if◌then◌else◌}
use Rattle.std.specs.Option.{option_and_then}
use Rattle.component_causes.specs.declared.cause.Cause.{Cause}
use Rattle.component_causes.specs.declared.cause.Cause.TheVariants.{Pid, Reference as Below}
use Rattle.component_causes.specs.declared.cause.ReferenceCause.{ReferenceCause}
use Rattle.component_causes.specs.declared.cause.TargetInEffect.{TargetInEffect}
use Rattle.component_causes.specs.declared.cause.TargetInEffect.TheVariants.{Unset, Filter, NoFilter, NoText}
use Rattle.component_dto.specs.declared.description.Reference.{Reference}
use Rattle.component_state.specs.declared.component.Component.{Component}
use Rattle.component_state.specs.ComponentConfigurations.{counting_for, factory_of}
use Rattle.component_state.specs.Components.{existing, existing_of, is_required}
use Rattle.component_state.specs.Periods.{is_open}
use Rattle.component_state.specs.Rows.{row_by}
use Rattle.config_admin.specs.declared.configuration.Configuration.{Configuration}
use Rattle.config_admin.specs.Configurations.{of_factory, of_pid}
use Rattle.ldap_filter.specs.Texts.{filter_of}
use Rattle.prop_map.specs.declared.properties.Property.{Property}
use Rattle.prop_map.specs.declared.value.Value.{Value}
use Rattle.prop_map.specs.declared.value.Value.TheVariants.{Text}
use Rattle.prop_map.specs.Maps.{get}
use Rattle.prop_map.specs.Words.{is_empty}
use Rattle.reference_match.specs.declared.need.Need.{Need}
use Rattle.reference_match.specs.Needs.{condition_name, implicit_need, need_of, target_key}
use Rattle.reference_match.specs.Targets.{is_met, meets}
use Rattle.service_registry.specs.declared.row.ServiceRow.{ServiceRow}
use Rattle.service_registry.specs.Services.{has_interface}
use Rattle.scr_world.specs.declared.world.World.{World}
use Rattle.scr_world.specs.Worlds.{registered_services}

-- ---- PIDs ("Configuration Policy", "Configuration PID")

-- the configuration of a factory that names it
abbrev pub naming : List Configuration → Component → Option Configuration
naming ks c = option_and_then (λ pid. of_pid pid ks) c.pid

-- the configuration that counts for one of its PIDs, if there is one
abbrev pub counting_under : List Configuration → Component → List ℕ → Option Configuration
counting_under ks c pid = counting_for ks (factory_of ks c.description.configuration_pids) (naming ks c) pid

-- those of its PIDs that have none
abbrev pub pids_without : List Configuration → Component → List (List ℕ)
pids_without ks c = filter (λ pid. is_none (counting_under ks c pid)) c.description.configuration_pids

-- a PID, and whether a factory of it has configurations
abbrev pub pid_cause : List Configuration → List ℕ → Cause
pid_cause ks pid = Pid pid (not (is_empty (of_factory pid ks)))

-- each of those, where its policy asks for a configuration, in the order of its description
abbrev pub pid_causes : List Configuration → Component → List Cause
pid_causes ks c = if is_required c.description.configuration_policy then map (pid_cause ks) (pids_without ks c) else []

-- ---- what could be a target

-- it hasn't ceased and isn't open
abbrev pub not_open : World → List Component
not_open w = filter (λ (c : Component). not (is_open w.open_periods c.number)) (existing w.components)

-- its service as it would be, under the number 0, as the next one isn't known
abbrev pub possible_service : Component → ServiceRow
possible_service c = row_by c 0 0

abbrev pub possible_services : World → List ServiceRow
possible_services w = map possible_service (not_open w)

-- ---- references ("Reference Cardinality", "Minimum Cardinality Property", "Target Property")

-- the target that a property is
abbrev pub target_in : Option Value → TargetInEffect
target_in None = Unset
target_in (Some (Text t)) = if is_some (filter_of t) then Filter t else NoFilter t
target_in (Some _) = NoText

-- a reference of a name, with what it needs, where these services are registered and those are possible
abbrev pub reference_cause : List ServiceRow → List ServiceRow → List Property → List ℕ → Need → ReferenceCause
reference_cause registered possible properties name need = record {
  name = name;
  interface_name = need.interface;
  cardinality = need.cardinality;
  targets = length (filter (meets need) registered);
  registered = length (filter (has_interface need.interface) registered);
  minimum = need.minimum;
  could = length (filter (meets need) possible);
  target = target_in (get properties (target_key name));
}

-- it is one where it has fewer targets than its minimum
abbrev pub causes_by : List ServiceRow → List ServiceRow → List Property → List ℕ → Need → List Cause
causes_by registered possible properties name need = if is_met registered need then [] else Below (reference_cause registered possible properties name need) ∷ []

abbrev pub causes_of : List ServiceRow → List ServiceRow → List Property → Reference → List Cause
causes_of registered possible properties r = causes_by registered possible properties r.name (need_of properties r)

-- in the order of the description, the implicit one on the satisfying condition last where it is there
abbrev pub reference_causes : List ServiceRow → List ServiceRow → Component → List Cause
reference_causes registered possible c =
    flat_map (causes_of registered possible c.properties) c.description.references
    ++ (if c.description.implicit then causes_by registered possible c.properties condition_name (implicit_need c.properties) else [])

-- ---- all of them

-- where these configurations are set
abbrev pub causes_where : List Configuration → List ServiceRow → List ServiceRow → Component → List Cause
causes_where ks registered possible c = pid_causes ks c ++ reference_causes registered possible c

-- PIDs first, then references
abbrev pub direct_causes : World → Component → List Cause
direct_causes w c = causes_where w.configurations (registered_services w) (possible_services w) c

-- those of the component configuration of a number: nothing where there is none, or it has ceased
abbrev pub direct_causes_of : World → ℕ → Option (List Cause)
direct_causes_of w number = option_map (direct_causes w) (existing_of w.components number)
