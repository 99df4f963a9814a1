-- What the law on configurations says of a few rows: one with a PID of its own, two of a factory, and one that no description asks for.
use Rattle.std.proofs.Common.{◌≡◌, ℕ, List, [], ◌∷◌, map, refl, Bool, true, false, Option, Some, None}
use Rattle.std.specs.Prelude.{codes}
use Rattle.component_dto.specs.declared.description.ConfigurationPolicy.{ConfigurationPolicy}
use Rattle.component_dto.specs.declared.description.ConfigurationPolicy.TheVariants.{Optional, Require, Ignore}
use Rattle.component_dto.specs.declared.description.Scope.TheVariants.{Singleton}
use Rattle.component_state.specs.declared.component.Component.{Component}
use Rattle.config_admin.specs.declared.configuration.Configuration.{Configuration}
use Rattle.config_admin.specs.Configurations.{factory_configuration, own_configuration}
use Rattle.scr_promises.specs.Counts.{counting_in, made_of}
use Rattle.scr_readers.specs.Counting.{counts_for}

abbrev plain : Configuration
plain = own_configuration (codes "a") []

abbrev one : Configuration
one = factory_configuration (codes "f") (codes "one") []

abbrev two : Configuration
two = factory_configuration (codes "f") (codes "two") []

abbrev rows : List Configuration
rows = plain ∷ one ∷ two ∷ own_configuration (codes "z") [] ∷ []

-- a component configuration of a description with this policy and these PIDs
abbrev asking : ConfigurationPolicy → List (List ℕ) → Option (List ℕ) → Component
asking policy pids pid = record {
  number = 1;
  bundle = 1;
  index = 0;
  pid = pid;
  exists = true;
  description = record {
    name = codes "c";
    scope = Singleton;
    implementation_class = codes "C";
    default_enabled = true;
    immediate = false;
    service_interfaces = [];
    properties = [];
    references = [];
    modified = None;
    configuration_policy = policy;
    configuration_pids = pids;
    implicit = false;
  };
  configured = true;
  properties = [];
  changed = None;
}

abbrev counted : List Configuration → Component → List Bool
counted ks c = map (λ k. counts_for ks k c) ks

-- several PIDs, one a factory's: of the factory the one that names it, in the order of the PIDs and not in that of the rows
abbrev several : Component
several = asking Optional (codes "f" ∷ codes "a" ∷ []) (Some (codes "f~one"))

several_made : made_of rows several ≡ one ∷ plain ∷ []
several_made = refl

several_counted : counted rows several ≡ true ∷ true ∷ false ∷ false ∷ []
several_counted = refl

-- a PID without a configuration leaves one that requires it unconfigured, and counts none
abbrev lacking : Component
lacking = asking Require (codes "a" ∷ codes "b" ∷ []) None

lacking_made : counting_in rows lacking ≡ Some plain ∷ None ∷ []
lacking_made = refl

lacking_counted : counted rows lacking ≡ true ∷ false ∷ false ∷ false ∷ []
lacking_counted = refl

-- with the policy `ignore` none counts
abbrev ignoring : Component
ignoring = asking Ignore (codes "a" ∷ codes "f" ∷ []) None

ignoring_made : made_of rows ignoring ≡ []
ignoring_made = refl

ignoring_counted : counted rows ignoring ≡ false ∷ false ∷ false ∷ false ∷ []
ignoring_counted = refl

-- a PID may name a factory's configuration, which is then that PID's own
abbrev naming_one : Component
naming_one = asking Optional (codes "f~two" ∷ []) None

named_made : made_of rows naming_one ≡ two ∷ []
named_made = refl

named_counted : counted rows naming_one ≡ false ∷ false ∷ true ∷ false ∷ []
named_counted = refl

-- that of a factory's own PID counts for nobody, though no journal that is legal has one
abbrev beside : List Configuration
beside = own_configuration (codes "f") [] ∷ one ∷ two ∷ []

beside_made : made_of beside (asking Optional (codes "f" ∷ []) (Some (codes "f~two"))) ≡ two ∷ []
beside_made = refl

beside_counted : counted beside (asking Optional (codes "f" ∷ []) (Some (codes "f~two"))) ≡ false ∷ false ∷ true ∷ []
beside_counted = refl

-- one that two PIDs name is part twice, and counts all the same
abbrev twice : Component
twice = asking Optional (codes "f" ∷ codes "f~one" ∷ []) (Some (codes "f~one"))

twice_made : made_of rows twice ≡ one ∷ one ∷ []
twice_made = refl

twice_counted : counted rows twice ≡ false ∷ true ∷ false ∷ false ∷ []
twice_counted = refl
