-- The direct causes of two component configurations, where the configuration of the second was set under another PID.
use Rattle.std.proofs.Common.{◌≡◌, ℕ, List, [], ◌∷◌, refl, true, false, None}
use Rattle.std.specs.Prelude.{codes}
use Rattle.component_causes.specs.declared.cause.Cause.TheVariants.{Pid, Reference as Below}
use Rattle.component_causes.specs.declared.cause.TargetInEffect.TheVariants.{Unset, NoText}
use Rattle.component_dto.specs.declared.description.ConfigurationPolicy.{ConfigurationPolicy}
use Rattle.component_dto.specs.declared.description.ConfigurationPolicy.TheVariants.{Optional, Require}
use Rattle.component_dto.specs.declared.description.Reference.{Reference}
use Rattle.component_dto.specs.declared.description.Scope.TheVariants.{Singleton}
use Rattle.component_state.specs.declared.component.Component.{Component}
use Rattle.config_admin.specs.Configurations.{own_configuration}
use Rattle.prop_map.specs.declared.properties.Property.{Property}
use Rattle.prop_map.specs.declared.reference_words.Cardinality.TheVariants.{One}
use Rattle.prop_map.specs.declared.reference_words.Policy.TheVariants.{Static}
use Rattle.prop_map.specs.declared.reference_words.PolicyOption.TheVariants.{Reluctant}
use Rattle.prop_map.specs.declared.value.Value.TheVariants.{Flag}
use Rattle.prop_map.specs.Maps.{put}
use Rattle.scr_causes.specs.DirectCauses.{causes_where, possible_service}

abbrev store : Reference
store = record { name = codes "store"; interface_name = codes "Store"; cardinality = One; policy = Static; policy_option = Reluctant; target = None; updated = None }

abbrev component : ℕ → List (List ℕ) → List Reference → ConfigurationPolicy → List Property → Component
component number interfaces references policy properties = record {
  number = number;
  bundle = number;
  index = 0;
  pid = None;
  exists = true;
  description = record {
    name = codes "c";
    scope = Singleton;
    implementation_class = codes "C";
    default_enabled = true;
    immediate = false;
    service_interfaces = interfaces;
    properties = [];
    references = references;
    modified = None;
    configuration_policy = policy;
    configuration_pids = codes "store" ∷ [];
    implicit = false;
  };
  configured = false;
  properties = properties;
  changed = None;
}

abbrev user : Component
user = component 1 [] (store ∷ []) Optional []

abbrev provider : Component
provider = component 2 (codes "Store" ∷ []) [] Require []

-- the first has no target, and the second could provide one
user_waits : causes_where (own_configuration (codes "stroe") [] ∷ []) [] (possible_service provider ∷ []) user
    ≡ Below (record { name = codes "store"; interface_name = codes "Store"; cardinality = One; targets = 0; registered = 0; minimum = 1; could = 1; target = Unset }) ∷ []
user_waits = refl

-- the second has no configuration
provider_lacks : causes_where (own_configuration (codes "stroe") [] ∷ []) [] (possible_service provider ∷ []) provider ≡ Pid (codes "store") false ∷ []
provider_lacks = refl

-- with it it has no cause
provider_is_met : causes_where (own_configuration (codes "store") [] ∷ []) [] (possible_service provider ∷ []) provider ≡ []
provider_is_met = refl

-- once the service is registered neither has the first
user_is_met : causes_where [] (possible_service provider ∷ []) [] user ≡ []
user_is_met = refl

-- with a target that is no text none is a target, of however many that are registered
target_is_no_text : causes_where [] (possible_service provider ∷ []) [] (component 1 [] (store ∷ []) Optional (put [] (codes "store.target") (Flag true)))
    ≡ Below (record { name = codes "store"; interface_name = codes "Store"; cardinality = One; targets = 0; registered = 1; minimum = 1; could = 0; target = NoText }) ∷ []
target_is_no_text = refl
