use Rattle.std.proofs.Common.{◌∙◌, inl, inr, refl, subst, sym}
use Rattle.platform_hall.specs.Calls.{CallsOnOne}
use Rattle.platform_hall.proofs.Answering.{calls_on_one, not_ready}
use Rattle.platform_hall.proofs.Results.{when_err, when_ok}
use Rattle.platform_hall.proofs.platform.Platform.call.Goals as goal

pub returns-in-Err : goal.returns-in-Err
returns-in-Err g c = not_ready g.K.Kinds.refuses g.K.Kinds.next c.args.self.now c.args.bundle c.args.service c.args.request.now c.in-Err.fault c.get_settled.new.self c.in-Err.ensures

pub returns-then-lacks_memory : goal.returns-then-lacks_memory
returns-then-lacks_memory g c = inr (inr (c.in-Ok.note, c.in-Ok.ensures.0, c.get_settled.new.self, c.in-Ok.ensures.1, inl refl))

pub returns-then-is_err : goal.returns-then-is_err
returns-then-is_err g c =
    let left = when_err c.release.result (sym c.is_err.ensures.value ∙ c.if-is_err.true) c.release.ensures.err in
    inr (inr (c.in-Ok.note, c.in-Ok.ensures.0, c.get_settled.new.self, c.in-Ok.ensures.1, left))

pub returns : goal.returns
returns g c =
    let done = when_ok c.release.result (sym c.is_err.ensures.value ∙ c.if-is_err.false) c.release.ensures.ok in
    subst (λ r. CallsOnOne g.K.Kinds.refuses g.K.Kinds.next c.args.self.now c.args.bundle c.args.service c.args.request.now r c.release.new.self) (sym c.text_of.ensures)
    (calls_on_one g.K.Kinds.refuses g.K.Kinds.next c.args.self.now c.args.bundle c.args.service c.args.request.now c.in-Ok.note c.in-Ok.ensures.0 c.get_settled.new.self c.release.new.self c.in-Ok.ensures.1 done.0 done.1
    c.answer-answer.result (sym c.lacks_memory.ensures ∙ c.if-lacks_memory.false) c.answer-answer.ensures)
