use Rattle.std.proofs.Common.{ap, refl}
use Rattle.gate_keeper.specs.Keepers.{KeeperView}
use Rattle.hall_locked.specs.OwnedCores.{OwnedView, log_owned}
use Rattle.hall_locked.proofs.Gates.{first_gates}
use Rattle.hall_locked.proofs.Uses.{none_kept}
use Rattle.hall_locked.proofs.locked.Locked.new.Goals as goal

pub invariant_of-result : goal.invariant_of-result
invariant_of-result g c =
    let own = c.in_ok-own.own in
    let made = c.in-Ok.ensures in (
      first_gates own.core (ap (λ (l : OwnedView g.row.O.Denot). l.core.journal) c.in_ok-own.ensures.ok) 70000 c.in-Ok.gate c.in-Ok.keeper refl made.0 made.1,
      ap (λ (k : KeeperView). k.gate) made.1,
      none_kept (log_owned own) c.new-uses.result.items c.new-uses.ensures.items,
    )
