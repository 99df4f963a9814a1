use Rattle.std.proofs.Common.{ap}
use Rattle.scr_core.specs.Cores.{CoreView}
use Rattle.hall_locked.proofs.Kept.{empty_owned}
use Rattle.hall_locked.proofs.owned_core.OwnedCore.new.Goals as goal

pub invariant_of-result : goal.invariant_of-result
invariant_of-result g c =
    empty_owned (record { core = c.in_ok-new.field-0; owners = c.new-2.result.items; turns = c.new-3.result.items; parts = c.new-4.result.items })
    (ap (λ (p : CoreView). p.journal) c.in_ok-new.ensures.ok) c.new-2.ensures.items c.new-3.ensures.items c.new-4.ensures.items
