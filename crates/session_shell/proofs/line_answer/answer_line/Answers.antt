use Rattle.std.proofs.Common.{◌∙◌, ap, sym, subst, Err}
use Rattle.session_shell.specs.Answers.{AnswersLine}
use Rattle.std.specs.declared.option.Option.{Option}
use Rattle.session_shell.specs.Items.{ServesLine, Setting}
use Rattle.session_shell.specs.declared.item.SessionItem.{SessionItem}
use Rattle.session_shell.specs.Sessions.{write_faults_after}
use Rattle.session_shell.specs.declared.session_end.SessionEnd.{SessionEnd}
use Rattle.session_shell.proofs.Endings.{no_write_fault, stops_untold, told_answers}
use Rattle.session_shell.proofs.line_answer.answer_line.Goals as goal

pub returns-in-Err-clause-answered : goal.returns-in-Err-clause-answered
returns-in-Err-clause-answered g c =
    let s : Setting = record { limits = c.args.hall.now.limits; refuses = g.K.Kinds.refuses } in
    let notes = c.args.notes.now.items in
    let written = g.Out.Sink.written c.args.output.now in
    let P : SessionEnd → Type 0 = λ end. AnswersLine s c.args.asked c.args.pass.now.front c.serve_line.new.pass.front notes notes written written (Err end) in
    subst P (sym c.from.ensures) (stops_untold s c.args.asked c.args.pass.now.front c.serve_line.new.pass.front c.in-Err.stop notes written c.in-Err.ensures.served)

pub returns-in-Err-clause-faults : goal.returns-in-Err-clause-faults
returns-in-Err-clause-faults g c =
    let count = g.Out.Sink.fault_count c.args.output.now in sym (ap (write_faults_after count) c.from.ensures ∙ no_write_fault count c.in-Err.stop)

pub returns-in-Ok-Some-clause-answered : goal.returns-in-Ok-Some-clause-answered
returns-in-Ok-Some-clause-answered g c =
    let s : Setting = record { limits = c.args.hall.now.limits; refuses = g.K.Kinds.refuses } in
    let Q : Option SessionItem → Type 0 = λ t. ServesLine s c.args.asked c.args.pass.now.front c.serve_line.new.pass.front t in
    told_answers s c.args.asked c.args.pass.now.front c.serve_line.new.pass.front c.in-Ok-Some.item c.args.notes.now.items c.tell_item.new.notes.items (g.Out.Sink.written c.args.output.now) (g.Out.Sink.written c.tell_item.new.output) c.tell_item.result
    (subst Q c.in-Ok-Some.field-0-is c.in-Ok-Some.ensures.served) c.tell_item.ensures.told
