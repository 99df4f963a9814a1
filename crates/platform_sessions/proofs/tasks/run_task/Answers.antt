use Rattle.std.proofs.Common.{subst, ◌≡◌}
use Rattle.std.specs.Prelude.{is_some}
use Rattle.platform_sessions.specs.Works.{IsTask}
use Rattle.platform_sessions.proofs.Handing.{nobody_made}
use Rattle.turn_runner.specs.Outcomes.{IsOutcome, is_refused, makes_object}
use Rattle.turn_work.specs.declared.work.TurnWork.{TurnWork}
use Rattle.platform_sessions.proofs.tasks.run_task.Goals as goal

pub returns-in-Some-clause-told : goal.returns-in-Some-clause-told
returns-in-Some-clause-told g c = λ work task.
    let fits = subst (λ t. IsTask work t) c.in-Some.is task in
    subst (λ (w : TurnWork). IsOutcome (is_refused g.K.Kinds.refuses w) c.run_shared.result.outcome) fits.0 c.run_shared.ensures.refused

pub returns-in-Some-clause-made : goal.returns-in-Some-clause-made
returns-in-Some-clause-made g c = λ work task.
    let fits = subst (λ t. IsTask work t) c.in-Some.is task in
    subst (λ (w : TurnWork). is_some c.run_shared.result.made ≡ makes_object w c.run_shared.result.outcome) fits.0 c.run_shared.ensures.made

pub returns-in-None-clause-made : goal.returns-in-None-clause-made
returns-in-None-clause-made g c = λ work task. nobody_made work
