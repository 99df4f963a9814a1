use Rattle.world_reopening.specs.Reopening.{configuration_command}
use Rattle.world_reopening.proofs.ReopeningLaws.{IsLeft}
use Rattle.world_reopening.proofs.reopening.add_configurations.Given as goal

abbrev pub invariant-loop-configuration : goal.invariant-loop-configuration
invariant-loop-configuration l = IsLeft configuration_command l.configurations l.configuration-index l.fn.commands.items l.commands.items
