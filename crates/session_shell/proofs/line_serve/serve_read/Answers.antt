use Rattle.std.proofs.Common.{sym, ◌∙◌}
use Rattle.session_shell.specs.Items.{Setting}
use Rattle.session_shell.proofs.Lines.{look_line, look_stops}
use Rattle.session_shell.proofs.line_serve.serve_read.Goals as goal

pub returns-in-Ok-clause-served : goal.returns-in-Ok-clause-served
returns-in-Ok-clause-served g c =
    let s : Setting = record { limits = c.args.hall.now.limits; refuses = g.K.Kinds.refuses } in
    look_line s c.args.line c.args.pass.now.front c.serve_look.new.pass.front c.in-Ok.item (sym c.is_look.ensures ∙ c.if-is_look.true) c.in-Ok.ensures.served

pub returns-in-Err-clause-served : goal.returns-in-Err-clause-served
returns-in-Err-clause-served g c =
    let s : Setting = record { limits = c.args.hall.now.limits; refuses = g.K.Kinds.refuses } in
    look_stops s c.args.line c.args.pass.now.front c.serve_look.new.pass.front c.in-Err.stop (sym c.is_look.ensures ∙ c.if-is_look.true) c.in-Err.ensures.served
