use Rattle.session_shell.specs.Items.{Setting}
use Rattle.session_shell.proofs.Lines.{look_served}
use Rattle.session_shell.proofs.line_serve.serve_look.Goals as goal

pub returns-in-Some-clause-served : goal.returns-in-Some-clause-served
returns-in-Some-clause-served g c =
    let s : Setting = record { limits = c.args.hall.now.limits; refuses = g.K.Kinds.refuses } in
    let read = c.read-front.ensures.read in
    look_served s c.args.line c.new-asked.result.line c.args.pass.now.front c.read-front.new.pass.front c.read-front.result c.read-front.new.look.told c.in-Some.reply c.line_item.result c.new-asked.ensures read.went read.front_is read.learned c.in-Some.ensures c.line_item.ensures
