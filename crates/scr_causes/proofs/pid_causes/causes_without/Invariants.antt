use Rattle.std.proofs.Common.{◌≡◌, map, take}
use Rattle.std.specs.Prelude.{filter, is_none}
use Rattle.std.specs.Option.{option_copied}
use Rattle.component_state.specs.ComponentConfigurations.{counting_for}
use Rattle.scr_causes.specs.DirectCauses.{pid_cause}
use Rattle.scr_causes.proofs.pid_causes.causes_without.Given as goal

abbrev pub invariant-loop-pid : goal.invariant-loop-pid
invariant-loop-pid l = l.causes.items ≡ map (pid_cause l.configurations) (filter (λ pid. is_none (counting_for l.configurations (option_copied l.factory) (option_copied l.named) pid)) (take l.pid-index l.pids))
