-- What undoes a change of the configurations. Our own.
use Rattle.std.specs.Prelude.{ℕ, List, Option, Some, None, is_some, if◌then◌else◌}
use Rattle.config_admin.specs.declared.configuration.Configuration.{Configuration}
use Rattle.config_admin.specs.declared.overwritten.Overwritten.{Overwritten}
use Rattle.config_admin.specs.Configurations.{of_pid, with_configuration, without_pid}

-- what a set of a PID's configuration overwrites
abbrev pub overwritten : List ℕ → List Configuration → Overwritten
overwritten pid cs = record { pid = pid; was = of_pid pid cs }

-- with a configuration in place of the one of its PID, if there is one
abbrev pub with_exchanged : Configuration → List Configuration → List Configuration
with_exchanged c cs = if is_some (of_pid c.pid cs) then with_configuration c cs else cs

-- with what a PID had: a configuration in place of its present one, or none
abbrev pub with_earlier : List ℕ → Option Configuration → List Configuration → List Configuration
with_earlier pid None cs = without_pid pid cs
with_earlier pid (Some was) cs = with_exchanged was cs
