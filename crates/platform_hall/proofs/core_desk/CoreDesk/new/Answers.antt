use Rattle.std.proofs.Common.{ap}
use Rattle.scr_requests.specs.Cores.{CoreView}
use Rattle.platform_hall.proofs.Desks.{empty_desk}
use Rattle.platform_hall.proofs.Keeping.{fit_none}
use Rattle.platform_hall.proofs.core_desk.CoreDesk.new.Goals as goal

pub invariant_of-result : goal.invariant_of-result
invariant_of-result g c =
    (empty_desk c.in_ok-new.field-0 c.new-2.result.items c.new-3.result.items (ap (λ (p : CoreView). p.journal) c.in_ok-new.ensures.ok) c.new-2.ensures.items c.new-3.ensures.items, fit_none c.in_ok-new.field-0 c.new-5.result.items c.new-5.ensures.items)
