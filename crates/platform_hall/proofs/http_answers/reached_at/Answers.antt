use Rattle.std.proofs.Common.{subst, sym}
use Rattle.scr_requests.specs.Cores.{CoreView}
use Rattle.scr_requests.specs.Requests.{AreServletsOf, IsReach}
use Rattle.platform_hall.specs.Platforms.{world}
use Rattle.platform_hall.proofs.Requesting.{reach_object}
use Rattle.platform_hall.proofs.http_answers.reached_at.Goals as goal

pub reach_of-requires : goal.reach_of-requires
reach_of-requires g c = subst (λ (p : CoreView). AreServletsOf p.journal c.args.servlets.now) (sym c.core-core.ensures.core) c.requires

pub returns-clause-reached : goal.returns-clause-reached
returns-clause-reached g c = subst (λ (p : CoreView). IsReach (world p) c.args.path.now c.in_ok-to.to) c.core-core.ensures.core c.in_ok-to.ensures

pub returns-clause-object : goal.returns-clause-object
returns-clause-object g c =
    reach_object c.args.desk.now.core c.core-core.ensures.legal c.note_active.ensures c.args.path.now c.in_ok-to.to
    (subst (λ (p : CoreView). IsReach (world p) c.args.path.now c.in_ok-to.to) c.core-core.ensures.core c.in_ok-to.ensures)
