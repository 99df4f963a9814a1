use Rattle.std.proofs.Common.{◌≡◌, ◌++◌, ◌∷◌, [], Bool, None, Some, false, subst, sym, true}
use Rattle.call_moves.specs.Evaluations.{nested_call}
use Rattle.call_runner.specs.Reached.{whom_of}
use Rattle.call_runner.specs.Steps.{HasWaited}
use Rattle.call_runner.specs.declared.callees.Callee.{Callee}
use Rattle.call_runner.proofs.Measures.{fewer_taken}
use Rattle.call_runner.proofs.Stepping.{nobody_step, taken_step, too_much_step}
use Rattle.call_runner.proofs.beginning.begin_call.Goals as goal

pub returns-then-not-branch-clause-step : goal.returns-then-not-branch-clause-step
returns-then-not-branch-clause-step g c = λ outer at calls.
    let waited = subst (λ (b : Bool). HasWaited c.args.calls.now.waiting c.args.paused b c.wait.new.calls.waiting) c.if-not-branch.true c.in_ok-wait.ensures.waits in
    too_much_step (g.C.Callees.reaching c.args.callees.now) g.K.Kinds.next (g.C.Callees.journal_length c.args.callees.now) g.K.Kinds.stands_for outer c.args.calls.now c.wait.new.calls c.args.paused
    c.args.reference.now c.args.request at calls c.wait.ensures.nested waited

pub returns-in_ok-running-in-Nobody-clause-step : goal.returns-in_ok-running-in-Nobody-clause-step
returns-in_ok-running-in-Nobody-clause-step g c = λ outer at calls.
    let reaches = g.C.Callees.reaching c.args.callees.now in
    let front = g.C.Callees.journal_length c.args.callees.now in
    let waited = subst (λ (b : Bool). HasWaited c.args.calls.now.waiting c.args.paused b c.wait.new.calls.waiting) c.if-not-branch.false c.in_ok-wait.ensures.waits in
    let reached = sym (subst (λ (x : Callee g.row.K-Object.Denot). whom_of x ≡ reaches front c.args.paused.instance c.args.reference.now) c.in-Nobody.is c.in_ok-service.ensures.reached) in
    let noted = subst (λ k. c.reply_at_once.new.calls.nested.items ≡ c.wait.new.calls.nested.items ++ nested_call k c.in-Nobody.service c.args.request (Some c.in-Nobody.reply) ∷ []) c.front-front.ensures
    c.in_ok-running-in-Nobody.ensures.nested in
    nobody_step reaches g.K.Kinds.next front g.K.Kinds.stands_for outer c.args.calls.now c.wait.new.calls c.args.paused c.args.reference.now c.args.request at calls c.wait.ensures.nested waited
    c.reply_at_once.new.calls c.in_ok-running-in-Nobody.running c.in-Nobody.service c.in-Nobody.reply reached c.in_ok-running-in-Nobody.ensures.resumed noted

pub returns-in_ok-running-in-Instance-clause-step : goal.returns-in_ok-running-in-Instance-clause-step
returns-in_ok-running-in-Instance-clause-step g c = λ outer at calls.
    let reaches = g.C.Callees.reaching c.args.callees.now in
    let front = g.C.Callees.journal_length c.args.callees.now in
    let waited = subst (λ (b : Bool). HasWaited c.args.calls.now.waiting c.args.paused b c.wait.new.calls.waiting) c.if-not-branch.false c.in_ok-wait.ensures.waits in
    let reached = sym (subst (λ (x : Callee g.row.K-Object.Denot). whom_of x ≡ reaches front c.args.paused.instance c.args.reference.now) c.in-Instance.is c.in_ok-service.ensures.reached) in
    let noted = subst (λ k. c.take_up.new.calls.nested.items ≡ c.wait.new.calls.nested.items ++ nested_call k c.in-Instance.service c.args.request None ∷ []) c.front-front.ensures
    c.in_ok-running-in-Instance.ensures.nested in
    taken_step reaches g.K.Kinds.next front g.K.Kinds.stands_for outer c.args.calls.now c.wait.new.calls c.args.paused c.args.reference.now c.args.request at calls c.wait.ensures.nested waited
    c.take_up.new.calls c.in_ok-running-in-Instance.running c.in-Instance.service c.in-Instance.party reached c.take_up.ensures.waiting c.in_ok-running-in-Instance.ensures.taken noted

pub returns-in_ok-running-in-Instance-clause-fewer : goal.returns-in_ok-running-in-Instance-clause-fewer
returns-in_ok-running-in-Instance-clause-fewer g c =
    let waited = subst (λ (b : Bool). HasWaited c.args.calls.now.waiting c.args.paused b c.wait.new.calls.waiting) c.if-not-branch.false c.in_ok-wait.ensures.waits in
    fewer_taken c.args.calls.now.waiting c.wait.new.calls.waiting c.take_up.new.calls.waiting c.args.paused c.in_ok-running-in-Instance.running c.requires.few waited c.take_up.ensures.waiting
