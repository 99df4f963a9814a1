use Rattle.std.proofs.Common.{ap, ◌∙◌}
use Rattle.hall_locked.specs.Platforms.{running}
use Rattle.platform_sessions.proofs.Handing.{task_is}
use Rattle.hall_locked.specs.Cores.{CoreView}
use Rattle.platform_sessions.proofs.tasks.task_of.Goals as goal

pub returns-in-Ok-clause-task : goal.returns-in-Ok-clause-task
returns-in-Ok-clause-task g c = λ told runs.
    let its = rw c.in-Ok-Some.field-0-is at c.in-Ok-Some.ensures in
    task_is c.args.value.now c.args.turn c.in-Ok-Some.work c.in-Ok.object c.note_kept.ensures.legal c.note_kept.ensures.kept (its ∙ ap (λ (co : CoreView). running co c.args.turn) c.look.ensures.core) c.in-Ok.ensures.has told runs
