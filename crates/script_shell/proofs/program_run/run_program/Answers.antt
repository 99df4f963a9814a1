use Rattle.std.proofs.Common.{ap, map}
use Rattle.std.specs.Prelude.{string_bytes}
use Rattle.std.specs.Process.{exit_status}
use Rattle.script_shell.specs.Programs.{EndView}
use Rattle.script_shell.proofs.Programs.{program_ran}
use Rattle.script_shell.proofs.program_run.run_program.Goals as goal

pub returns-in-Ok : goal.returns-in-Ok
returns-in-Ok g c =
    let input : EndView = record { bytes = g.In.Source.left c.args.input.now; faults = g.In.Source.fault_count c.args.input.now } in
    let input' : EndView = record { bytes = g.In.Source.left c.run_words.new.input; faults = g.In.Source.fault_count c.run_words.new.input } in
    let output : EndView = record { bytes = g.Out.Sink.written c.args.output.now; faults = g.Out.Sink.fault_count c.args.output.now } in
    let output' : EndView = record { bytes = g.Out.Sink.written c.run_words.new.output; faults = g.Out.Sink.fault_count c.run_words.new.output } in
    rw c.in-Ok.is
    (program_ran g.K.Kinds.refuses g.K.Kinds.next _ _ input input' output output' c.run_words.result (exit_status c.ended.result) (ap (map string_bytes) c.as_slice.ensures.value) c.ended.ensures c.run_words.ensures)
