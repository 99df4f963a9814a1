use Rattle.std.proofs.Common.{refl}
use Rattle.script_shell.specs.Programs.{EndView}
use Rattle.script_shell.proofs.Programs.{run_new}
use Rattle.script_shell.proofs.program_run.run_texts.Goals as goal

pub returns-in-Ok : goal.returns-in-Ok
returns-in-Ok g c =
    let input : EndView = record { bytes = g.In.Source.left c.args.input.now; faults = g.In.Source.fault_count c.args.input.now } in
    let input' : EndView = record { bytes = g.In.Source.left c.run_told.new.input; faults = g.In.Source.fault_count c.run_told.new.input } in
    let output : EndView = record { bytes = g.Out.Sink.written c.args.output.now; faults = g.Out.Sink.fault_count c.args.output.now } in
    let output' : EndView = record { bytes = g.Out.Sink.written c.run_told.new.output; faults = g.Out.Sink.fault_count c.run_told.new.output } in
    run_new g.K.Kinds.refuses g.K.Kinds.next _ _ c.in-Ok.platform c.run_told.new.platform input input' output output' c.run_told.result refl c.in-Ok.ensures.ok (record {
      run = c.run_told.ensures.run;
      cause = c.run_told.ensures.cause;
      fault = c.run_told.ensures.fault;
      read_faults = c.run_told.ensures.read_faults;
      write_faults = c.run_told.ensures.write_faults;
      complete = c.run_told.ensures.complete;
      legal = c.run_told.ensures.legal;
      limits = c.run_told.ensures.limits;
    })
