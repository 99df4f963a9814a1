use Rattle.std.proofs.Common.{◌≡◌, ◌∙◌, ap, subst, sym}
use Rattle.std.specs.Prelude.{IfOk}
use Rattle.call_moves.specs.Evaluations.{Whom}
use Rattle.call_runner.specs.Reached.{whom_of}
use Rattle.scr_calls.specs.Evaluates.{whom}
use Rattle.scr_requests.specs.Cores.{CoreView}
use Rattle.scr_readers.specs.Reaching.{inward}
use Rattle.platform_hall.specs.Platforms.{world}
use Rattle.platform_hall.proofs.Objects.{reached_has, reaching_now}
use Rattle.platform_hall.proofs.callees.CoreDeskCallees.reach.Goals as goal

pub callee_of-requires : goal.callee_of-requires
callee_of-requires g c =
    let is = subst (λ (p : CoreView). c.in_ok-reached.reached ≡ inward (world p) c.args.instance c.args.reference.now) c.core.ensures.core c.in_ok-reached.ensures in
    reached_has c.args.self.now.core c.core.ensures.legal c.args.instance c.args.reference.now c.in_ok-reached.reached is

pub returns-clause-reached : goal.returns-clause-reached
returns-clause-reached g c =
    let is = subst (λ (p : CoreView). c.in_ok-reached.reached ≡ inward (world p) c.args.instance c.args.reference.now) c.core.ensures.core c.in_ok-reached.ensures in
    subst (λ (w : Whom). IfOk c.callee_of.result (λ callee. whom_of callee ≡ w))
    (ap whom is ∙ sym (reaching_now c.args.self.now.core.journal c.args.instance c.args.reference.now)) c.callee_of.ensures.reached
