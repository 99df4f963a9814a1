use Rattle.std.proofs.Common.{arith}
use Rattle.table_tests.proofs.gets.bundle_put_back.Goals as goal

pub put_back-requires : goal.put_back-requires
put_back-requires c = record {
  room = omega (arith, c.release_bundle.ensures.fewer, c.in_ok-kept.ensures.room);
}
