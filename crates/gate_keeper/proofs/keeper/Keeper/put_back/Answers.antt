use Rattle.std.proofs.Common.{rules, subst, sym}
use Rattle.gate_keeper.specs.Keepers.{CanComeBack, KeeperView}
use Rattle.gate_keeper.proofs.Keeping.{room_back}
use Rattle.gate_keeper.proofs.keeper.Keeper.put_back.Goals as goal

pub unreachable-requires : goal.unreachable-requires
unreachable-requires c =
    let can = subst (λ (k : KeeperView). CanComeBack k c.args.drain) (sym c.self.view_is) c.requires.drain in
    let fits = room_back c.self.inside.seat c.self.inside.shelf.items _ c.self.invariant.0 c.args.drain can in
    search (rules, fits)
