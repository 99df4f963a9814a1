use Rattle.std.proofs.Common.{◌≡◌, map, take}
use Rattle.std.specs.Option.{option_copied}
use Rattle.component_state.specs.ComponentConfigurations.{counting}
use Rattle.component_state.proofs.component_configurations.counting.counting.Given as goal

abbrev pub invariant-loop-pid : goal.invariant-loop-pid
invariant-loop-pid l = map option_copied l.these.items ≡ counting l.configurations (option_copied l.factory) (option_copied l.named) (take l.pid-index l.pids)
