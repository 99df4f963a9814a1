use Rattle.std.proofs.Common.{length, subst, sym, ◌∙◌}
use Rattle.call_runner.specs.Runs.{ComesToEnd}
use Rattle.scr_calls.specs.Evaluates.{reaching, world_up_to}
use Rattle.platform_hall.specs.Requests.{AnswersHere}
use Rattle.platform_hall.proofs.Requesting.{standing_now}
use Rattle.platform_hall.proofs.http_answers.answer_standing.Goals as goal

pub returns : goal.returns
returns g c =
    let p = c.args.desk.now.core in
    let r = c.args.request.now in
    let ran = c.in_ok-ran.ran in
    let comes = subst (λ t. ComesToEnd (reaching (world_up_to p.journal)) g.K.Kinds.next (length p.journal) (record { instance = c.args.live.instance; site = c.args.live.site; request = t }) ran.nested ran.end) (c.as_str.ensures ∙ c.in_ok-text.ensures) c.in_ok-ran.ensures in
    let Told : _ → Type 0 = λ n. AnswersHere g.K.Kinds.next p r (record { front = n; service = c.args.service; nested = ran.nested; answer = c.in_ok-answer.answer }) in
    subst Told (sym c.front-front.ensures)
    (standing_now g.K.Kinds.next p r c.args.service c.args.live ran.nested ran.end c.in_ok-answer.answer c.requires.reached comes c.in_ok-answer.ensures)
