use Rattle.std.proofs.Common.{◌≡◌, subst}
use Rattle.scr_requests.specs.Cores.{CoreView}
use Rattle.scr_readers.specs.Reaching.{outer}
use Rattle.platform_hall.specs.Platforms.{world}
use Rattle.platform_hall.proofs.Objects.{outer_object}
use Rattle.platform_hall.proofs.callees.reached_by.Goals as goal

pub returns-clause-reached : goal.returns-clause-reached
returns-clause-reached g c = subst (λ (p : CoreView). c.in_ok-to.to ≡ outer (world p) c.args.note.now) c.core-core.ensures.core c.in_ok-to.ensures

pub returns-clause-object : goal.returns-clause-object
returns-clause-object g c =
    outer_object c.args.desk.now.core c.core-core.ensures.legal c.args.note.now c.in_ok-to.to
    (subst (λ (p : CoreView). c.in_ok-to.to ≡ outer (world p) c.args.note.now) c.core-core.ensures.core c.in_ok-to.ensures)
