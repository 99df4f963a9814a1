use Rattle.std.proofs.Common.{map}
use Rattle.script_shell.specs.Programs.{EndView}
use Rattle.script_shell.proofs.Programs.{gave_text, ran_words}
use Rattle.script_shell.proofs.program_run.answer_words.Goals as goal

pub returns-in-Some : goal.returns-in-Some
returns-in-Some g c =
    let input : EndView = record { bytes = g.In.Source.left c.args.input.now; faults = g.In.Source.fault_count c.args.input.now } in
    let output : EndView = record { bytes = g.Out.Sink.written c.args.output.now; faults = g.Out.Sink.fault_count c.args.output.now } in
    let output' : EndView = record { bytes = g.Out.Sink.written c.write_text-status.new.output; faults = g.Out.Sink.fault_count c.write_text-status.new.output } in
    gave_text g.K.Kinds.refuses g.K.Kinds.next (map (λ word. word.now) c.args.words.now) c.in-Some.asked input output output' c.write_text-status.result c.in-Some.ensures c.write_text-status.ensures.text c.write_text-status.ensures.faults

pub returns-in-None : goal.returns-in-None
returns-in-None g c =
    let input : EndView = record { bytes = g.In.Source.left c.args.input.now; faults = g.In.Source.fault_count c.args.input.now } in
    let input' : EndView = record { bytes = g.In.Source.left c.run_texts.new.input; faults = g.In.Source.fault_count c.run_texts.new.input } in
    let output : EndView = record { bytes = g.Out.Sink.written c.args.output.now; faults = g.Out.Sink.fault_count c.args.output.now } in
    let output' : EndView = record { bytes = g.Out.Sink.written c.run_texts.new.output; faults = g.Out.Sink.fault_count c.run_texts.new.output } in
    ran_words g.K.Kinds.refuses g.K.Kinds.next (map (λ word. word.now) c.args.words.now) input input' output output' c.run_texts.result c.in-None.ensures c.run_texts.ensures
