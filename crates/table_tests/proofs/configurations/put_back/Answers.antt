use Rattle.std.proofs.Common.{arith}
use Rattle.table_tests.proofs.configurations.put_back.Goals as goal

pub put_back-requires : goal.put_back-requires
put_back-requires c = record {
  room = omega (arith, c.in_ok-configuration.ensures.fewer, c.in_ok-room.ensures);
}
