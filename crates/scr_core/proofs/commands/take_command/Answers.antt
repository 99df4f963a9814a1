use Rattle.std.proofs.Common.{◌∙◌, Ok, refl, subst}
use Rattle.scr_core.proofs.Commanded.{step_refused, step_unchanged}
use Rattle.scr_judgements.specs.Judgements.{JudgesStep}
use Rattle.scr_judgements.specs.declared.judgement.Judgement.{Judgement}
use Rattle.scr_world.specs.declared.step.Step.TheVariants.{Command as Commanded}
use Rattle.scr_core.proofs.commands.take_command.Goals as goal

pub returns-in-Err-clause-answer : goal.returns-in-Err-clause-answer
returns-in-Err-clause-answer c =
    step_refused c.args.journal.now c.args.state.now c.requires.keeps (Commanded c.args.command) c.args.command refl c.in-Err.fault c.in-Err.ensures.judged

pub returns-in-Ok-Unchanged-clause-answer : goal.returns-in-Ok-Unchanged-clause-answer
returns-in-Ok-Unchanged-clause-answer c =
    let it = subst (λ (x : Judgement). JudgesStep c.args.journal.now.limit c.args.state.now (Commanded c.args.command) (Ok x)) c.in-Ok-Unchanged.field-0-is c.in-Ok-Unchanged.ensures.judged in
    step_unchanged c.args.journal.now c.args.state.now c.requires.keeps (Commanded c.args.command) c.args.command refl c.in-Ok-Unchanged.reply c.of.result (c.of.ensures ∙ c.new.ensures.items) it

pub append-requires-clause-command : goal.append-requires-clause-command
append-requires-clause-command c = (c.args.command, refl)

pub append-requires-clause-judged : goal.append-requires-clause-judged
append-requires-clause-judged c = subst (λ (x : Judgement). JudgesStep c.args.journal.now.limit c.args.state.now (Commanded c.args.command) (Ok x)) c.in-Ok-Changes.field-0-is c.in-Ok-Changes.ensures.judged

pub returns-in-Ok-Changes-clause-answer : goal.returns-in-Ok-Changes-clause-answer
returns-in-Ok-Changes-clause-answer c = c.append.ensures.answer c.args.command refl
