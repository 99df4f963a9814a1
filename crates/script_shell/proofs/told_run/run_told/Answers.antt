use Rattle.std.proofs.Common.{sym}
use Rattle.fault_count.specs.Steps.{Rose}
use Rattle.script_shell.specs.declared.form.Form.TheVariants.{Load, Script}
use Rattle.script_shell.specs.FormRuns.{script_setting}
use Rattle.script_shell.proofs.EndingLemmas.{run_ends_script}
use Rattle.script_shell.proofs.Loading.{cause_unread, reads_unread}
use Rattle.script_shell.proofs.told_run.run_told.Goals as goal

pub returns-in-Ok-Script-clause-complete : goal.returns-in-Ok-Script-clause-complete
returns-in-Ok-Script-clause-complete g c =
    let s = script_setting g.K.Kinds.refuses g.K.Kinds.next c.in-Ok-Script.options in
    let reads = Rose (g.In.Source.fault_count c.args.input.now) (g.In.Source.fault_count c.run_lines-status.new.input) in
    let writes = Rose (g.Out.Sink.fault_count c.args.output.now) (g.Out.Sink.fault_count c.run_lines-status.new.output) in
    rw (← c.in-Ok-Script.ensures.form, c.in-Ok-Script.field-0-is)
    (run_ends_script s c.in-Ok-Script.options (g.In.Source.left c.args.input.now) (g.Out.Sink.written c.args.output.now) (g.Out.Sink.written c.run_lines-status.new.output) c.args.platform.now c.run_lines-status.new.platform c.run_lines-status.result
    (Script c.in-Ok-Script.options) reads writes c.run_lines-status.ensures.run c.run_lines-status.ensures.cause)

pub returns-in-Ok-Load-clause-cause : goal.returns-in-Ok-Load-clause-cause
returns-in-Ok-Load-clause-cause g c =
    let reads = Rose (g.In.Source.fault_count c.args.input.now) (g.In.Source.fault_count c.args.input.now) in
    let writes = Rose (g.Out.Sink.fault_count c.args.output.now) (g.Out.Sink.fault_count c.run_load-status.new.output) in
    rw (← c.in-Ok-Load.ensures.form, c.in-Ok-Load.field-0-is) (cause_unread c.run_load-status.result (Load c.in-Ok-Load.load) reads writes c.run_load-status.ensures.cause)

pub returns-in-Ok-Load-clause-read_faults : goal.returns-in-Ok-Load-clause-read_faults
returns-in-Ok-Load-clause-read_faults g c =
    let writes = Rose (g.Out.Sink.fault_count c.args.output.now) (g.Out.Sink.fault_count c.run_load-status.new.output) in
    sym (reads_unread c.run_load-status.result (Load c.in-Ok-Load.load) writes (g.In.Source.fault_count c.args.input.now) c.run_load-status.ensures.cause)
