use Rattle.std.proofs.Common.{◌≡◌}
use Rattle.std.specs.Prelude.{map}
use Rattle.component_dto.specs.Descriptions.{pid_of}
use Rattle.component_dto.proofs.configuration_pids.each_pid.Given as goal

abbrev pub invariant-loop-pid : goal.invariant-loop-pid
invariant-loop-pid l = l.pids.items ≡ map (pid_of l.name) l.yielded
