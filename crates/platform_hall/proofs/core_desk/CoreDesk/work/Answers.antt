use Rattle.std.proofs.Common.{◌≡◌, Some, subst}
use Rattle.turn_runner.specs.Outcomes.{needs_object}
use Rattle.scr_requests.specs.Cores.{CoreView}
use Rattle.platform_hall.specs.Platforms.{has_object, running}
use Rattle.platform_hall.proofs.Desks.{running_fits, running_number}
use Rattle.platform_hall.proofs.Seen.{core_same}
use Rattle.platform_hall.proofs.core_desk.CoreDesk.work.Goals as goal

pub returns-clause-fits : goal.returns-clause-fits
returns-clause-fits g c = λ work.
    subst (λ (p : CoreView). running p c.args.turn ≡ Some work → has_object p work.instance ≡ needs_object work) (core_same c.self.view_is)
    (λ is. running_fits c.self.inside.core c.args.turn work c.note_legal.ensures is)

pub returns-clause-number : goal.returns-clause-number
returns-clause-number g c = λ work.
    subst (λ (p : CoreView). running p c.args.turn ≡ Some work → work.number ≡ c.args.turn) (core_same c.self.view_is) (running_number c.self.inside.core c.args.turn work)
