use Rattle.std.proofs.Common.{◌∙◌, ap, map, subst, sym}
use Rattle.std.specs.Prelude.{string_bytes}
use Rattle.script_shell.specs.declared.status.Status.{Status}
use Rattle.script_shell.specs.Forms.{text_asked}
use Rattle.script_shell.specs.Programs.{AnswersWords, EndView}
use Rattle.script_shell.proofs.Programs.{no_answer, words_same}
use Rattle.script_shell.proofs.program_run.run_words.Goals as goal

pub returns-in-Ok : goal.returns-in-Ok
returns-in-Ok g c =
    let input : EndView = record { bytes = g.In.Source.left c.args.input.now; faults = g.In.Source.fault_count c.args.input.now } in
    let input' : EndView = record { bytes = g.In.Source.left c.answer_words.new.input; faults = g.In.Source.fault_count c.answer_words.new.input } in
    let output : EndView = record { bytes = g.Out.Sink.written c.args.output.now; faults = g.Out.Sink.fault_count c.args.output.now } in
    let output' : EndView = record { bytes = g.Out.Sink.written c.answer_words.new.output; faults = g.Out.Sink.fault_count c.answer_words.new.output } in
    words_same g.K.Kinds.refuses g.K.Kinds.next _ _ input input' output output' c.answer_words.result (ap (map (λ word. word.now)) c.as_slice.ensures.value ∙ c.in-Ok.ensures) c.answer_words.ensures

pub returns-in-Err : goal.returns-in-Err
returns-in-Err g c =
    let input : EndView = record { bytes = g.In.Source.left c.args.input.now; faults = g.In.Source.fault_count c.args.input.now } in
    let output : EndView = record { bytes = g.Out.Sink.written c.args.output.now; faults = g.Out.Sink.fault_count c.args.output.now } in
    let words = map string_bytes c.args.words.now in
    let P : Status → Type 0 = λ status. AnswersWords g.K.Kinds.refuses g.K.Kinds.next words input input output output status in
    subst P (sym c.without_memory.ensures) (no_answer (text_asked words) g.K.Kinds.refuses g.K.Kinds.next words input output)
