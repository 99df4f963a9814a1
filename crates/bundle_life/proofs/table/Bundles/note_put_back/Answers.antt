use Rattle.bundle_life.proofs.Steps.{start_undone, stop_undone, stopped_undone, uninstall_undone, update_undone}
use Rattle.bundle_life.proofs.table.Bundles.note_put_back.Goals as goal

pub returns-clause-start : goal.returns-clause-start
returns-clause-start c kept t is idle = start_undone kept t is idle

pub returns-clause-stop : goal.returns-clause-stop
returns-clause-stop c kept t is = stop_undone kept t is

pub returns-clause-stopped : goal.returns-clause-stopped
returns-clause-stopped c kept t is = stopped_undone kept t is

pub returns-clause-update : goal.returns-clause-update
returns-clause-update c kept t name version is idle = update_undone kept t is name version idle

pub returns-clause-uninstall : goal.returns-clause-uninstall
returns-clause-uninstall c kept t is idle = uninstall_undone kept t is idle
