use Rattle.std.proofs.Common.{arith}
use Rattle.table_tests.proofs.gets.unget_undone.Goals as goal

pub put_back-requires : goal.put_back-requires
put_back-requires c = record {
  room = omega (arith, c.unget.ensures.fewer, c.in_ok-kept.ensures.room);
}
