-- When a configuration is refused. Which PIDs may be, that a factory stands beside no configuration of its PID, the limit and the order of refusals are our own.
use Rattle.std.specs.Prelude.{◌≡◌, ℕ, ◌==◌, ◌&&◌, ◌||◌, List, [], ◌∷◌, Bool, not, nat_le, length, is_none, is_some, Option, Some, None, Result, Ok, Err, if◌then◌else◌}
use Rattle.std.specs.Char.{is_ascii_alphanumeric}
use Rattle.std.specs.List.{list_all}
use Rattle.prop_map.specs.Words.{first_some, is_empty}
use Rattle.config_admin.specs.declared.configuration.Configuration.{Configuration}
use Rattle.config_admin.specs.declared.config_fault.ConfigFault.{ConfigFault}
use Rattle.config_admin.specs.declared.config_fault.ConfigFault.TheVariants.{BadPid, FactoryClash, NoConfiguration, ConfigurationsFull, OutOfMemory}
use Rattle.config_admin.specs.Configurations.{factory_pid, of_factory, of_pid}

-- letters, digits, `.`, `_` and `-`
abbrev pub is_pid_byte : ℕ → Bool
is_pid_byte b = is_ascii_alphanumeric b || (b == 46) || (b == 95) || (b == 45)

abbrev pub is_pid : List ℕ → Bool
is_pid text = not (is_empty text) && list_all is_pid_byte text

-- it would be the 1,025th
abbrev pub is_full : List ℕ → List Configuration → Bool
is_full pid cs = is_none (of_pid pid cs) && nat_le 1024 (length cs)

abbrev pub refuse_if : Bool → ConfigFault → Option ConfigFault
refuse_if b fault = if b then Some fault else None

-- ---- each call, its refusals in order

abbrev pub set_refusal : List ℕ → List Configuration → Option ConfigFault
set_refusal pid cs = first_some (
    refuse_if (not (is_pid pid)) BadPid
    ∷ refuse_if (not (is_empty (of_factory pid cs))) FactoryClash
    ∷ refuse_if (is_full pid cs) ConfigurationsFull
    ∷ [])

abbrev pub set_factory_refusal : List ℕ → List ℕ → List Configuration → Option ConfigFault
set_factory_refusal factory name cs = first_some (
    refuse_if (not (is_pid factory)) BadPid
    ∷ refuse_if (not (is_pid name)) BadPid
    ∷ refuse_if (is_some (of_pid factory cs)) FactoryClash
    ∷ refuse_if (is_full (factory_pid factory name) cs) ConfigurationsFull
    ∷ [])

-- any text may name the configuration to delete, so also a factory's PID, `~` and a name
abbrev pub delete_refusal : List ℕ → List Configuration → Option ConfigFault
delete_refusal pid cs = refuse_if (is_none (of_pid pid cs)) NoConfiguration

-- a call succeeds only where nothing refuses it, and fails with that refusal; for want of memory only where there is none
abbrev pub IsRefusedBy : {A : Type 0} → Option ConfigFault → Result A ConfigFault → Type 0
IsRefusedBy refusal (Ok x) = refusal ≡ None
IsRefusedBy refusal (Err OutOfMemory) = refusal ≡ None
IsRefusedBy refusal (Err fault) = refusal ≡ Some fault
