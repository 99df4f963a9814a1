use Rattle.std.proofs.Common.{◌∙◌, ap, sym, subst, Err}
use Rattle.script_shell.specs.declared.status.Status.{Status}
use Rattle.script_shell.specs.Answers.{AnswersLine}
use Rattle.script_shell.specs.Asks.{Setting}
use Rattle.script_shell.specs.FormRuns.{script_setting}
use Rattle.script_shell.specs.Statuses.{write_faults_after}
use Rattle.script_shell.proofs.AnswerLemmas.{cut_answer}
use Rattle.script_shell.proofs.EndingLemmas.{no_write_fault_cut}
use Rattle.script_shell.proofs.line_answer.answer_line.Goals as goal

pub returns-in-Err-clause-answered : goal.returns-in-Err-clause-answered
returns-in-Err-clause-answered g c =
    let s : Setting = script_setting g.K.Kinds.refuses g.K.Kinds.next c.args.options in
    let written = g.Out.Sink.written c.args.output.now in
    let P : Status → Type 0 = λ status. AnswersLine s c.args.options.echo c.args.line.now c.args.asked (Err status) c.args.platform.now c.run_line.new.platform written written in
    subst P (sym c.from.ensures) (cut_answer s c.args.options.echo c.args.line.now c.args.asked c.in-Err.fault c.args.platform.now c.run_line.new.platform written c.in-Err.ensures)

pub returns-in-Err-clause-faults : goal.returns-in-Err-clause-faults
returns-in-Err-clause-faults g c =
    let count = g.Out.Sink.fault_count c.args.output.now in sym (ap (write_faults_after count) c.from.ensures ∙ no_write_fault_cut count c.in-Err.fault)
