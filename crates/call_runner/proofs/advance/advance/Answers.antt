use Rattle.std.proofs.Common.{◌≡◌, refl, subst}
use Rattle.call_moves.specs.Evaluations.{Frame}
use Rattle.call_moves.specs.Progress.{next_move}
use Rattle.call_runner.specs.Runs.{IsAt}
use Rattle.call_runner.specs.declared.calls.Paused.{Paused}
use Rattle.call_runner.specs.declared.run.End.TheVariants.{Declined, Said}
use Rattle.kind_trait.specs.Meanings.{Calls as CallsMove}
use Rattle.call_runner.proofs.Moving.{answers_so, fewer_after, own_ended, refuses_so, same_frame}
use Rattle.call_runner.proofs.advance.advance.Goals as goal

pub returns-in-Ok-Answer-clause-step : goal.returns-in-Ok-Answer-clause-step
returns-in-Ok-Answer-clause-step g c = λ outer at.
    let moves = rw c.in-Ok-Answer.field-0-is at c.in-Ok-Answer.ensures in
    answers_so (g.C.Callees.reaching c.args.callees.now) g.K.Kinds.next (g.C.Callees.journal_length c.args.callees.now) g.K.Kinds.stands_for outer c.args.calls.now c.end_call.new.calls c.args.running c.end_call.result
    c.in-Ok-Answer.text moves c.end_call.ensures at

pub returns-in-Ok-Answer-clause-own : goal.returns-in-Ok-Answer-clause-own
returns-in-Ok-Answer-clause-own g c =
    own_ended (g.C.Callees.owns c.args.callees.now) c.args.calls.now c.end_call.new.calls c.args.running.place (Said c.in-Ok-Answer.text) c.end_call.result c.end_call.ensures

pub returns-in-Ok-Answer-clause-fewer : goal.returns-in-Ok-Answer-clause-fewer
returns-in-Ok-Answer-clause-fewer g c =
    fewer_after c.args.calls.now c.end_call.new.calls c.args.running.place (Said c.in-Ok-Answer.text) c.end_call.result c.requires.few c.end_call.ensures

pub returns-in-Ok-Call-clause-step : goal.returns-in-Ok-Call-clause-step
returns-in-Ok-Call-clause-step g c = λ outer at.
    let moves = rw c.in-Ok-Call.field-0-is at c.in-Ok-Call.ensures in
    let paused : Paused g.row.K-Work.Denot = record { service = c.args.running.service; instance = c.args.running.instance; place = c.args.running.place; work = c.in-Ok-Call.work } in
    let same = same_frame g.K.Kinds.stands_for c.args.running paused moves.1 refl refl in
    c.begin_call.ensures.step outer
    (subst (λ (f : Frame). IsAt (g.C.Callees.reaching c.args.callees.now) g.K.Kinds.next (g.C.Callees.journal_length c.args.callees.now) g.K.Kinds.stands_for outer c.args.calls.now f) same at)
    (subst (λ (f : Frame). next_move g.K.Kinds.next f ≡ CallsMove c.in-Ok-Call.reference c.in-Ok-Call.request) same moves.0)

pub returns-in-Err-Refused-clause-step : goal.returns-in-Err-Refused-clause-step
returns-in-Err-Refused-clause-step g c = λ outer at.
    let moves = rw c.in-Err-Refused.field-0-is at c.in-Err-Refused.ensures in
    refuses_so (g.C.Callees.reaching c.args.callees.now) g.K.Kinds.next (g.C.Callees.journal_length c.args.callees.now) g.K.Kinds.stands_for outer c.args.calls.now c.end_call-in-Err-Refused.new.calls c.args.running c.end_call-in-Err-Refused.result
    moves c.end_call-in-Err-Refused.ensures at

pub returns-in-Err-Refused-clause-own : goal.returns-in-Err-Refused-clause-own
returns-in-Err-Refused-clause-own g c =
    own_ended (g.C.Callees.owns c.args.callees.now) c.args.calls.now c.end_call-in-Err-Refused.new.calls c.args.running.place Declined c.end_call-in-Err-Refused.result c.end_call-in-Err-Refused.ensures

pub returns-in-Err-Refused-clause-fewer : goal.returns-in-Err-Refused-clause-fewer
returns-in-Err-Refused-clause-fewer g c =
    fewer_after c.args.calls.now c.end_call-in-Err-Refused.new.calls c.args.running.place Declined c.end_call-in-Err-Refused.result c.requires.few c.end_call-in-Err-Refused.ensures
