use Rattle.std.proofs.Common.{sym, subst}
use Rattle.world_keeper.specs.Orders.{IsOrdered}
use Rattle.world_keeper.proofs.KeptOrders.{ordered_by}
use Rattle.world_keeper.proofs.memory_keeper.MemoryKeeperKeeper.load.Goals as goal

pub returns-clause-ordered : goal.returns-clause-ordered
returns-clause-ordered c = subst IsOrdered (sym c.in_ok-kept_of.ensures) (ordered_by c.as_slice.result.now)
