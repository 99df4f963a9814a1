use Rattle.std.proofs.Common.{subst, Err}
use Rattle.platform_sessions.specs.Works.{Works}
use Rattle.scr_world.specs.declared.command.Limits.{Limits}
use Rattle.session_shell.specs.Items.{Setting}
use Rattle.session_shell.proofs.Lines.{settle_stopped}
use Rattle.session_shell.proofs.line_serve.serve_settle.Goals as goal

pub returns-in-Err-clause-served : goal.returns-in-Err-clause-served
returns-in-Err-clause-served g c =
    let s : Setting = record { limits = c.args.hall.now.limits; refuses = g.K.Kinds.refuses } in
    let P : Limits → Type 0 = λ l. Works g.K.Kinds.refuses s.limits c.args.pass.now.front c.work.new.pass.front l.turns (Err c.in-Err.fault) in
    settle_stopped s c.args.pass.now.front c.work.new.pass.front c.in-Err.fault c.stop_of.result (subst P c.limits.ensures c.in-Err.ensures.worked) c.stop_of.ensures
