use Rattle.std.proofs.Common.{◌∙◌, ap, subst, sym, Err}
use Rattle.scr_calls.specs.declared.call_fault.CallFault.TheVariants.{Gone, NoObject, Pending}
use Rattle.scr_readers.specs.declared.live.Outer.TheVariants.{Gone as ToGone, NoObject as ToNone, Pending as ToPending}
use Rattle.platform_hall.specs.Callees.{answer_at}
use Rattle.platform_hall.specs.Calls.{AnswersNow}
use Rattle.platform_hall.proofs.Answering.{answers_now, nobody_now}
use Rattle.platform_hall.proofs.call_answers.answer_reached.Goals as goal

pub returns-in-Gone : goal.returns-in-Gone
returns-in-Gone g c =
    subst (λ f. AnswersNow g.K.Kinds.next c.args.desk.now.core c.args.note.now c.args.request.now (Err (Gone f))) (sym c.front-front.ensures)
    (nobody_now g.K.Kinds.next c.args.desk.now.core c.args.note.now c.args.request.now ToGone (sym c.in-Gone.is ∙ c.requires.reached))

pub returns-in-NoObject : goal.returns-in-NoObject
returns-in-NoObject g c =
    subst (λ f. AnswersNow g.K.Kinds.next c.args.desk.now.core c.args.note.now c.args.request.now (Err (NoObject f))) (sym c.front-front.ensures)
    (nobody_now g.K.Kinds.next c.args.desk.now.core c.args.note.now c.args.request.now ToNone (sym c.in-NoObject.is ∙ c.requires.reached))

pub returns-in-Pending : goal.returns-in-Pending
returns-in-Pending g c =
    subst (λ f. AnswersNow g.K.Kinds.next c.args.desk.now.core c.args.note.now c.args.request.now (Err (Pending f))) (sym c.front-front.ensures)
    (nobody_now g.K.Kinds.next c.args.desk.now.core c.args.note.now c.args.request.now ToPending (sym c.in-Pending.is ∙ c.requires.reached))

pub returns-in-Ok : goal.returns-in-Ok
returns-in-Ok g c =
    subst (λ r. AnswersNow g.K.Kinds.next c.args.desk.now.core c.args.note.now c.args.request.now r)
    (sym (c.answer_at.ensures ∙ ap (λ n. answer_at n c.in-Ok.ran.nested c.in-Ok.ran.end) c.front-front.ensures))
    (answers_now g.K.Kinds.next c.args.desk.now.core c.args.note.now c.args.request.now c.in-Live.live c.in-Ok.ran.nested c.in-Ok.ran.end (sym c.in-Live.is ∙ c.requires.reached) c.in-Ok.ensures)
