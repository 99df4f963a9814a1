use Rattle.world_reopening.proofs.ReopeningLaws.{err_before, then_added}
use Rattle.world_reopening.proofs.reopening.add_rows.Goals as goal

pub returns-in-Ok : goal.returns-in-Ok
returns-in-Ok c = then_added _ _ _ _ _ c.add_installs.result c.in-Ok.ensures c.add_installs.ensures

pub returns-in-Err : goal.returns-in-Err
returns-in-Err c = err_before _ _ _ _ _ _ c.in-Err.fault c.in-Err.ensures
