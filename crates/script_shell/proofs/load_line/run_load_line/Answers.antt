use Rattle.std.proofs.Common.{Err, subst, sym}
use Rattle.shell_lang.specs.ShellLines.{Asked}
use Rattle.script_shell.specs.declared.status.Status.{Status}
use Rattle.script_shell.specs.Carries.{RunsAsked}
use Rattle.script_shell.specs.LoadLines.{RunsLoadLine}
use Rattle.script_shell.specs.Loads.{load_setting}
use Rattle.script_shell.proofs.Loading.{cut_load_line}
use Rattle.script_shell.proofs.load_line.run_load_line.Goals as goal

pub returns-in-Err-run_line : goal.returns-in-Err-run_line
returns-in-Err-run_line g c =
    let s = load_setting g.K.Kinds.refuses g.K.Kinds.next in
    let P : Status → Type 0 = λ status. RunsLoadLine s c.args.line.now c.args.platform.now (Err status) c.run_line.new.platform in
    let Q : Asked → Type 0 = λ a. RunsAsked s a c.args.platform.now (Err c.in-Err-run_line.fault) c.run_line.new.platform in
    subst P (sym c.from.ensures) (cut_load_line s c.args.line.now c.in-Err-run_line.fault c.args.platform.now c.run_line.new.platform (subst Q (sym c.in-Ok.ensures) c.in-Err-run_line.ensures))
