use Rattle.world_reopening.specs.Reopening.{install_command}
use Rattle.world_reopening.proofs.ReopeningLaws.{IsLeft}
use Rattle.world_reopening.proofs.reopening.add_installs.Given as goal

abbrev pub invariant-loop-bundle : goal.invariant-loop-bundle
invariant-loop-bundle l = IsLeft install_command l.bundles l.bundle-index l.fn.commands.items l.commands.items
