use Rattle.script_shell.proofs.Refusals.{carries_refused}
use Rattle.script_shell.proofs.asked.run_command.Goals as goal

pub returns-in-Err : goal.returns-in-Err
returns-in-Err g c = carries_refused c.args.command c.args.platform.now c.command.new.self c.in-Err.fault c.refused.result c.in-Err.ensures c.refused.ensures
