use Rattle.std.proofs.Common.{subst}
use Rattle.scr_requests.specs.Requests.{IsReach}
use Rattle.platform_hall.specs.Platforms.{world}
use Rattle.platform_hall.proofs.Requesting.{ending_now, nowhere_now, objectless_now, so_told}
use Rattle.platform_hall.proofs.http_answers.answer_to.Goals as goal

pub returns-in-Nowhere : goal.returns-in-Nowhere
returns-in-Nowhere g c =
    let p = c.args.desk.now.core in
    let r = c.args.request.now in
    let is = subst (λ to. IsReach (world p) r.path to) c.in-Nowhere.is c.requires.reached in
    so_told g.K.Kinds.next p r 0 404 c.front-front.result c.answer_by_nobody.result c.answer_by_nobody.ensures c.front-front.ensures (nowhere_now g.K.Kinds.next p r is)

pub returns-in-Objectless : goal.returns-in-Objectless
returns-in-Objectless g c =
    let p = c.args.desk.now.core in
    let r = c.args.request.now in
    let is = subst (λ to. IsReach (world p) r.path to) c.in-Objectless.is c.requires.reached in
    so_told g.K.Kinds.next p r c.in-Objectless.service 500 c.front-front.result c.answer_by_nobody-in-Objectless.result c.answer_by_nobody-in-Objectless.ensures c.front-front.ensures (objectless_now g.K.Kinds.next p r c.in-Objectless.service is)

pub returns-in-Ending : goal.returns-in-Ending
returns-in-Ending g c =
    let p = c.args.desk.now.core in
    let r = c.args.request.now in
    let is = subst (λ to. IsReach (world p) r.path to) c.in-Ending.is c.requires.reached in
    so_told g.K.Kinds.next p r c.in-Ending.service 503 c.front-front.result c.answer_by_nobody-in-Ending.result c.answer_by_nobody-in-Ending.ensures c.front-front.ensures (ending_now g.K.Kinds.next p r c.in-Ending.service is)
