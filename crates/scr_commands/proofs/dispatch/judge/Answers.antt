use Rattle.scr_commands.proofs.Unjudged.{no_judge}
use Rattle.scr_judgements.proofs.Judged.{judged_step}
use Rattle.scr_commands.proofs.dispatch.judge.Goals as goal

pub returns-in-Command : goal.returns-in-Command
returns-in-Command c = record { judged = judged_step c.args.journal.now.limit c.args.state.now c.args.step.now _ c.judge_command.result c.in-Command.is c.judge_command.ensures.judged }

pub returns-in_default : goal.returns-in_default
returns-in_default c = record { judged = no_judge c.args.journal.now.limit c.args.state.now c.args.step.now c.in_default.not-Command }
