use Rattle.std.proofs.Common.{refl}
use Rattle.scr_core.proofs.Commanded.{step_free, step_lacks_too, step_refused}
use Rattle.scr_world.specs.declared.step.Step.TheVariants.{Command as Commanded}
use Rattle.scr_core.proofs.refusals.refusal_of_command.Goals as goal

pub returns-in-Err-clause-answer : goal.returns-in-Err-clause-answer
returns-in-Err-clause-answer c =
    step_refused c.args.journal.now c.args.state.now c.requires.keeps (Commanded c.args.command) c.args.command refl c.in-Err.fault c.in-Err.ensures.judged

pub returns-in-Ok-clause-answer : goal.returns-in-Ok-clause-answer
returns-in-Ok-clause-answer c =
    step_lacks_too c.args.journal.now c.args.state.now c.requires.keeps (Commanded c.args.command) c.args.command refl c.in-Ok.judgement c.in-Ok.ensures.judged

pub returns-in-Ok-clause-free : goal.returns-in-Ok-clause-free
returns-in-Ok-clause-free c =
    step_free c.args.journal.now c.args.state.now c.requires.keeps (Commanded c.args.command) c.args.command refl c.in-Ok.judgement c.in-Ok.ensures.judged
