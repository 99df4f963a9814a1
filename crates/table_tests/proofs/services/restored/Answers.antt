use Rattle.std.proofs.Common.{rules, ◌≡◌, ℕ, ◌<◌, length, arith, ap}
use Rattle.table_tests.proofs.services.restored.Goals as goal
use Rattle.table_tests.proofs.Shorter.{shorter}

-- src/services.rt:77:5
pub put_back-requires : goal.put_back-requires
put_back-requires c = record {
  room = omega (arith, shorter c.args.service c.args.registry.now.rows c.in_ok-row.row c.in_ok-row.ensures.row, c.in_ok-room.ensures, ap (λ t. length t.rows) c.in_ok-row.ensures.ok);
}
