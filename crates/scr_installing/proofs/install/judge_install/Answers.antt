use Rattle.scr_installing.proofs.Installs.{install_known}
use Rattle.scr_installing.proofs.install.judge_install.Goals as goal

pub returns-in-Some : goal.returns-in-Some
returns-in-Some c = record { judged = install_known c.args.journal.now.limit c.args.state.now c.args.doc.now c.in-Some.number c.in-Some.ensures }
