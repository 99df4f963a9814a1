use Rattle.std.proofs.Common.{sym}
use Rattle.scr_world.specs.Calls.{world_at}
use Rattle.core_tests.proofs.Draining.{next_awaits}
use Rattle.core_tests.proofs.turns.drain.Goals as goal

pub drained-requires : goal.drained-requires
drained-requires c = next_awaits (world_at c.args.core.now.journal) c.in-Some.key (sym c.in-Some.ensures)
