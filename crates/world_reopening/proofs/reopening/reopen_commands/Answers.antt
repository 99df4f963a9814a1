use Rattle.world_reopening.proofs.SameChanges.{its_changes, its_commands, reopened, told}
use Rattle.world_reopening.proofs.reopening.reopen_commands.Goals as goal

pub returns-in-Err-clause-bad : goal.returns-in-Err-clause-bad
returns-in-Err-clause-bad c = told c.args.kept.now _ _ _ _ c.in-Err.fault c.as_slice-configurations.ensures c.as_slice-bundles.ensures c.new-commands.ensures.items c.in-Err.ensures

pub returns-in_ok-add_starts-in-Ok-clause-commands : goal.returns-in_ok-add_starts-in-Ok-clause-commands
returns-in_ok-add_starts-in-Ok-clause-commands c =
    its_commands _ _ (reopened c.args.kept.now _ _ _ _ _ c.as_slice-configurations.ensures c.as_slice-bundles.ensures c.new-commands.ensures.items c.in-Ok.ensures c.in_ok-add_starts-in-Ok.ensures)

pub returns-in_ok-add_starts-in-Ok-clause-again : goal.returns-in_ok-add_starts-in-Ok-clause-again
returns-in_ok-add_starts-in-Ok-clause-again c =
    its_changes _ _ (reopened c.args.kept.now _ _ _ _ _ c.as_slice-configurations.ensures c.as_slice-bundles.ensures c.new-commands.ensures.items c.in-Ok.ensures c.in_ok-add_starts-in-Ok.ensures)
