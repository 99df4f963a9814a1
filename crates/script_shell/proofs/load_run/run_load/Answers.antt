use Rattle.std.proofs.Common.{sym}
use Rattle.fault_count.specs.Steps.{Rose}
use Rattle.script_shell.specs.declared.form.Form.TheVariants.{Load}
use Rattle.script_shell.specs.Loads.{RunsLoad, lines_of_load, load_setting}
use Rattle.script_shell.proofs.Loading.{cause_cut, cause_told, faults_cut, load_cut, load_ends, load_told}
use Rattle.script_shell.proofs.load_run.run_load.Goals as goal

pub returns-in-Ok-clause-run : goal.returns-in-Ok-clause-run
returns-in-Ok-clause-run g c =
    load_told g.K.Kinds.refuses g.K.Kinds.next c.args.load c.args.platform.now c.run_lines_of.new.platform (g.Out.Sink.written c.args.output.now) (g.Out.Sink.written c.tell_counts.new.output) c.tell_counts.result c.in-Ok.answered c.in-Ok.ensures c.tell_counts.ensures.told

pub returns-in-Ok-clause-limits : goal.returns-in-Ok-clause-limits
returns-in-Ok-clause-limits g c =
    let ran : RunsLoad g.K.Kinds.refuses g.K.Kinds.next c.args.load c.args.platform.now c.run_lines_of.new.platform (g.Out.Sink.written c.args.output.now) (g.Out.Sink.written c.tell_counts.new.output) c.tell_counts.result =
    load_told g.K.Kinds.refuses g.K.Kinds.next c.args.load c.args.platform.now c.run_lines_of.new.platform (g.Out.Sink.written c.args.output.now) (g.Out.Sink.written c.tell_counts.new.output) c.tell_counts.result c.in-Ok.answered c.in-Ok.ensures c.tell_counts.ensures.told in
    ran.grew.limits

pub returns-in-Ok-clause-cause : goal.returns-in-Ok-clause-cause
returns-in-Ok-clause-cause g c =
    cause_told c.tell_counts.result c.in-Ok.answered c.run_lines_of.new.platform (g.Out.Sink.written c.args.output.now) (g.Out.Sink.written c.tell_counts.new.output) (Load c.args.load) ⊥
    (g.Out.Sink.fault_count c.args.output.now) (g.Out.Sink.fault_count c.tell_counts.new.output) c.tell_counts.ensures.told c.tell_counts.ensures.faults

pub returns-in-Ok-clause-complete : goal.returns-in-Ok-clause-complete
returns-in-Ok-clause-complete g c = λ still.
    load_ends g.K.Kinds.refuses g.K.Kinds.next c.args.load c.args.platform.now c.run_lines_of.new.platform (g.Out.Sink.written c.args.output.now) (g.Out.Sink.written c.tell_counts.new.output) c.tell_counts.result (Load c.args.load) ⊥
    (Rose (g.Out.Sink.fault_count c.args.output.now) (g.Out.Sink.fault_count c.tell_counts.new.output))
    (load_told g.K.Kinds.refuses g.K.Kinds.next c.args.load c.args.platform.now c.run_lines_of.new.platform (g.Out.Sink.written c.args.output.now) (g.Out.Sink.written c.tell_counts.new.output) c.tell_counts.result c.in-Ok.answered c.in-Ok.ensures c.tell_counts.ensures.told)
    (cause_told c.tell_counts.result c.in-Ok.answered c.run_lines_of.new.platform (g.Out.Sink.written c.args.output.now) (g.Out.Sink.written c.tell_counts.new.output) (Load c.args.load) ⊥
    (g.Out.Sink.fault_count c.args.output.now) (g.Out.Sink.fault_count c.tell_counts.new.output) c.tell_counts.ensures.told c.tell_counts.ensures.faults)
    still

pub returns-in-Err-clause-run : goal.returns-in-Err-clause-run
returns-in-Err-clause-run g c =
    let written = g.Out.Sink.written c.args.output.now in
    load_cut g.K.Kinds.refuses g.K.Kinds.next c.args.load c.args.platform.now c.run_lines_of.new.platform written written c.in-Err.status c.in-Err.ensures

pub returns-in-Err-clause-limits : goal.returns-in-Err-clause-limits
returns-in-Err-clause-limits g c =
    let written = g.Out.Sink.written c.args.output.now in
    let ran : RunsLoad g.K.Kinds.refuses g.K.Kinds.next c.args.load c.args.platform.now c.run_lines_of.new.platform written written c.in-Err.status =
    load_cut g.K.Kinds.refuses g.K.Kinds.next c.args.load c.args.platform.now c.run_lines_of.new.platform written written c.in-Err.status c.in-Err.ensures in
    ran.grew.limits

pub returns-in-Err-clause-cause : goal.returns-in-Err-clause-cause
returns-in-Err-clause-cause g c =
    let count = g.Out.Sink.fault_count c.args.output.now in
    cause_cut c.in-Err.status (load_setting g.K.Kinds.refuses g.K.Kinds.next) (lines_of_load c.args.load) c.args.platform.now c.run_lines_of.new.platform (Load c.args.load) ⊥ (Rose count count) c.in-Err.ensures

pub returns-in-Err-clause-write_faults : goal.returns-in-Err-clause-write_faults
returns-in-Err-clause-write_faults g c =
    sym (faults_cut c.in-Err.status (load_setting g.K.Kinds.refuses g.K.Kinds.next) (lines_of_load c.args.load) c.args.platform.now c.run_lines_of.new.platform (g.Out.Sink.fault_count c.args.output.now) c.in-Err.ensures)

pub returns-in-Err-clause-complete : goal.returns-in-Err-clause-complete
returns-in-Err-clause-complete g c = λ still.
    let written = g.Out.Sink.written c.args.output.now in
    let count = g.Out.Sink.fault_count c.args.output.now in
    load_ends g.K.Kinds.refuses g.K.Kinds.next c.args.load c.args.platform.now c.run_lines_of.new.platform written written c.in-Err.status (Load c.args.load) ⊥ (Rose count count)
    (load_cut g.K.Kinds.refuses g.K.Kinds.next c.args.load c.args.platform.now c.run_lines_of.new.platform written written c.in-Err.status c.in-Err.ensures)
    (cause_cut c.in-Err.status (load_setting g.K.Kinds.refuses g.K.Kinds.next) (lines_of_load c.args.load) c.args.platform.now c.run_lines_of.new.platform (Load c.args.load) ⊥ (Rose count count) c.in-Err.ensures)
    still
