use Rattle.std.proofs.Common.{Ok}
use Rattle.session_shell.specs.Items.{Setting}
use Rattle.session_shell.proofs.Lines.{refused_served}
use Rattle.session_shell.proofs.line_serve.serve_command.Goals as goal

pub returns-in-Ok-clause-served : goal.returns-in-Ok-clause-served
returns-in-Ok-clause-served g c = (Ok c.in-Ok.answer, c.in-Ok.ensures.taken, tt, c.reply_item.ensures)

pub returns-in-Err-clause-served : goal.returns-in-Err-clause-served
returns-in-Err-clause-served g c =
    let s : Setting = record { limits = c.args.hall.now.limits; refuses = g.K.Kinds.refuses } in
    refused_served s c.args.command c.args.pass.now.front c.command.new.pass.front c.in-Err.fault c.tell_fault.result c.in-Err.ensures.taken c.tell_fault.ensures
