use Rattle.std.proofs.Common.{◌≡◌, subst}
use Rattle.std.specs.Prelude.{IfOk}
use Rattle.scr_requests.specs.Cores.{CoreView}
use Rattle.platform_hall.specs.Platforms.{has_due}
use Rattle.platform_hall.proofs.Seen.{core_same}
use Rattle.platform_hall.proofs.core_desk.CoreDeskDesk.due.Goals as goal

pub returns : goal.returns
returns g c = subst (λ (p : CoreView). IfOk c.due.result (λ due. due ≡ has_due p)) (core_same c.self.view_is) c.due.ensures
