use Rattle.std.proofs.Common.{◌≡◌, ◌∙◌, ap, sym, subst, refl, inl, false, Err, Ok, List, ℕ}
use Rattle.std.specs.declared.option.Option.{Option}
use Rattle.std.specs.Io.KnownBytes.{Appends}
use Rattle.fault_count.specs.Steps.{Rose, next_count}
use Rattle.shell_lang.specs.ShellLines.{Asked, shell_line, is_quit}
use Rattle.script_shell.specs.declared.form.Form.TheVariants.{Script}
use Rattle.script_shell.specs.declared.status.Status.TheVariants.{NoMemory, ReadFault}
use Rattle.script_shell.specs.Answers.{AnswersLine}
use Rattle.script_shell.specs.Asks.{Setting}
use Rattle.script_shell.specs.Carries.{RunsAsked}
use Rattle.script_shell.specs.FormRuns.{script_setting}
use Rattle.script_shell.specs.LineTexts.{answer_text}
use Rattle.script_shell.specs.Reading.{not_yet_read}
use Rattle.script_shell.specs.Statuses.{write_faults_after}
use Rattle.script_shell.proofs.AnswerLemmas.{cause_unanswered, goes_on_unrefused, no_fault_unanswered, reads_unanswered, run_unanswered, stops_refused}
use Rattle.script_shell.proofs.EndingLemmas.{rose_next}
use Rattle.script_shell.proofs.NothingDue.{nothing_due_behind}
use Rattle.script_shell.proofs.Progress.{answer_of, run_ends_here, run_ends_long, run_quits, run_refused, run_stops}
use Rattle.script_shell.proofs.Reached.{reached_fault, reached_line, reached_start}
use Rattle.script_shell.proofs.script_run.run_lines.Goals as goal

pub returns-in-TooLong-clause-run : goal.returns-in-TooLong-clause-run
returns-in-TooLong-clause-run g c =
    run_ends_long c.loop-line.invariant.reached.progress (not_yet_read c.next_line.new.ahead.ended (g.In.Source.left c.next_line.new.input)) c.next_line.new.ahead.bytes.items c.loop-line.invariant.reached.unrefused c.in-TooLong.ensures.step

pub returns-in-End-clause-run : goal.returns-in-End-clause-run
returns-in-End-clause-run g c =
    run_ends_here c.loop-line.invariant.reached.progress (not_yet_read c.next_line.new.ahead.ended (g.In.Source.left c.next_line.new.input)) c.next_line.new.ahead.bytes.items c.loop-line.invariant.reached.unrefused c.in-End.ensures.step

pub returns-in-Failed-clause-run : goal.returns-in-Failed-clause-run
returns-in-Failed-clause-run g c = run_stops c.loop-line.invariant.reached.progress ReadFault (λ e. e) c.loop-line.invariant.reached.unrefused (λ others. ((refl, refl), refl))

pub returns-in-NoMemory-clause-run : goal.returns-in-NoMemory-clause-run
returns-in-NoMemory-clause-run g c = run_stops c.loop-line.invariant.reached.progress NoMemory (λ e. e) c.loop-line.invariant.reached.unrefused (λ others. (inl (refl, refl), refl))

pub returns-in-Quit-clause-run : goal.returns-in-Quit-clause-run
returns-in-Quit-clause-run g c =
    run_quits c.loop-line.invariant.reached.progress (not_yet_read c.next_line.new.ahead.ended (g.In.Source.left c.next_line.new.input)) c.next_line.new.ahead.bytes.items c.in-Line.line c.loop-line.invariant.reached.unrefused c.in-Line.ensures.step (ap (λ w. is_quit (shell_line w)) (sym c.as_slice-text.ensures) ∙ c.in-Quit.ensures)

pub returns-in-NoMemory-read_ask-clause-run : goal.returns-in-NoMemory-read_ask-clause-run
returns-in-NoMemory-read_ask-clause-run g c = run_stops c.loop-line.invariant.reached.progress NoMemory (λ e. e) c.loop-line.invariant.reached.unrefused (λ others. (inl (refl, refl), refl))

pub returns-in-Failed-clause-cause : goal.returns-in-Failed-clause-cause
returns-in-Failed-clause-cause g c =
    rose_next (g.In.Source.fault_count c.args.input.now) (g.In.Source.fault_count c.next_line.new.input) (c.in-Failed.ensures.faults ∙ ap next_count c.loop-line.invariant.reads)

pub returns-in-Failed-clause-read_faults : goal.returns-in-Failed-clause-read_faults
returns-in-Failed-clause-read_faults g c = c.in-Failed.ensures.faults ∙ ap next_count c.loop-line.invariant.reads

pub returns-in-Failed-clause-fault : goal.returns-in-Failed-clause-fault
returns-in-Failed-clause-fault g c =
    reached_fault c.loop-line.invariant.reached (g.In.Source.left c.next_line.new.input) c.next_line.new.ahead.bytes.items (c.in-Failed.ensures.taken (c.next_line.ensures.unended c.in-Failed.is))

pub loop-line-init : goal.loop-line-init
loop-line-init g c =
    let s : Setting = script_setting g.K.Kinds.refuses g.K.Kinds.next c.args.options in
    let left : Option (List ℕ) = g.In.Source.left c.args.input.now in
    let written : Option (List ℕ) = g.Out.Sink.written c.args.output.now in
    record {
      reached = rw (c.new-ahead.ensures.0, c.new-ahead.ensures.1, c.requires) (reached_start s c.args.options left written c.args.platform.now);
      reads = refl;
      writes = refl;
      rested = λ is. absurd cc;
    }

pub returns-in-Err-clause-run : goal.returns-in-Err-clause-run
returns-in-Err-clause-run g c =
    let s : Setting = script_setting g.K.Kinds.refuses g.K.Kinds.next c.args.options in
    let asked : shell_line c.in-Line.line ≡ c.in-Asked.asked = ap shell_line (sym c.as_slice-text.ensures) ∙ c.in-Asked.ensures.0 in
    let other : is_quit (shell_line c.in-Line.line) ≡ false = ap is_quit asked ∙ c.in-Asked.ensures.1 in
    let R : Asked → Type 0 = λ a. AnswersLine s c.args.options.echo c.in-Line.line a (Err c.in-Err.status) c.loop-line.platform c.answer_line.new.platform (g.Out.Sink.written c.loop-line.output) (g.Out.Sink.written c.answer_line.new.output) in
    let Q : List ℕ → Type 0 = λ w. AnswersLine s c.args.options.echo w c.in-Asked.asked (Err c.in-Err.status) c.loop-line.platform c.answer_line.new.platform (g.Out.Sink.written c.loop-line.output) (g.Out.Sink.written c.answer_line.new.output) in
    run_unanswered c.loop-line.invariant.reached.progress (not_yet_read c.next_line.new.ahead.ended (g.In.Source.left c.next_line.new.input)) c.next_line.new.ahead.bytes.items c.answer_line.new.platform (g.Out.Sink.written c.answer_line.new.output)
    c.in-Line.line c.in-Err.status c.loop-line.invariant.reached.unrefused c.in-Line.ensures.step other (subst R (sym asked) (subst Q c.as_slice-text.ensures c.in-Err.ensures.answered))

pub returns-in-Err-clause-cause : goal.returns-in-Err-clause-cause
returns-in-Err-clause-cause g c =
    let s : Setting = script_setting g.K.Kinds.refuses g.K.Kinds.next c.args.options in
    let count = g.Out.Sink.fault_count c.args.output.now in
    cause_unanswered c.in-Err.status s c.args.options c.as_slice-text.result.now c.in-Asked.asked c.loop-line.platform c.answer_line.new.platform (g.Out.Sink.written c.loop-line.output) (g.Out.Sink.written c.answer_line.new.output) (Script c.args.options)
    (Rose (g.In.Source.fault_count c.args.input.now) (g.In.Source.fault_count c.next_line.new.input)) count (g.Out.Sink.fault_count c.answer_line.new.output)
    c.in-Err.ensures.answered (c.in-Err.ensures.faults ∙ ap (λ n. write_faults_after n c.in-Err.status) c.loop-line.invariant.writes)

pub returns-in-Err-clause-fault : goal.returns-in-Err-clause-fault
returns-in-Err-clause-fault g c =
    let s : Setting = script_setting g.K.Kinds.refuses g.K.Kinds.next c.args.options in
    no_fault_unanswered c.in-Err.status s c.args.options c.as_slice-text.result.now c.in-Asked.asked c.loop-line.platform c.answer_line.new.platform c.args.platform.now c.answer_line.new.platform (g.Out.Sink.written c.loop-line.output) (g.Out.Sink.written c.answer_line.new.output)
    (g.In.Source.left c.args.input.now) (g.In.Source.left c.next_line.new.input) (g.Out.Sink.written c.args.output.now) (g.Out.Sink.written c.answer_line.new.output) c.in-Err.ensures.answered

pub returns-in-Err-clause-read_faults : goal.returns-in-Err-clause-read_faults
returns-in-Err-clause-read_faults g c =
    let s : Setting = script_setting g.K.Kinds.refuses g.K.Kinds.next c.args.options in
    c.in-Line.ensures.faults ∙ c.loop-line.invariant.reads
    ∙ sym (reads_unanswered c.in-Err.status s c.args.options c.as_slice-text.result.now c.in-Asked.asked c.loop-line.platform c.answer_line.new.platform (g.Out.Sink.written c.loop-line.output) (g.Out.Sink.written c.answer_line.new.output) (g.In.Source.fault_count c.args.input.now) c.in-Err.ensures.answered)

pub returns-in-Err-clause-write_faults : goal.returns-in-Err-clause-write_faults
returns-in-Err-clause-write_faults g c = c.in-Err.ensures.faults ∙ ap (λ n. write_faults_after n c.in-Err.status) c.loop-line.invariant.writes

pub loop-line-preserved : goal.loop-line-preserved
loop-line-preserved g c =
    let s : Setting = script_setting g.K.Kinds.refuses g.K.Kinds.next c.args.options in
    let asked : shell_line c.in-Line.line ≡ c.in-Asked.asked = ap shell_line (sym c.as_slice-text.ensures) ∙ c.in-Asked.ensures.0 in
    let other : is_quit (shell_line c.in-Line.line) ≡ false = ap is_quit asked ∙ c.in-Asked.ensures.1 in
    let answer = c.in-Ok.ensures.answered in
    let R : Asked → Type 0 = λ a. RunsAsked s a c.loop-line.platform (Ok c.in-Ok.reply) c.answer_line.new.platform in
    let T : List ℕ → Type 0 = λ w. Appends (g.Out.Sink.written c.loop-line.output) (g.Out.Sink.written c.answer_line.new.output) (answer_text c.args.options.echo (answer_of w c.in-Ok.reply)) in
    record {
      reached = rw c.saturating_add.ensures (reached_line c.loop-line.invariant.reached (g.In.Source.left c.next_line.new.input) c.next_line.new.ahead.ended c.next_line.new.ahead.bytes.items c.answer_line.new.platform (g.Out.Sink.written c.answer_line.new.output) c.in-Line.line c.in-Ok.reply
          c.in-Line.ensures.step c.in-Line.ensures.taken other (subst R (sym asked) answer.0) (subst T c.as_slice-text.ensures answer.1) (goes_on_unrefused c.args.options.strict c.in-Ok.reply (sym c.tell_reply.ensures ∙ c.if-tell_reply.false)));
      reads = c.in-Line.ensures.faults ∙ c.loop-line.invariant.reads;
      writes = c.in-Ok.ensures.faults ∙ c.loop-line.invariant.writes;
      rested = λ auto. nothing_due_behind s answer.0.0 c.answer_line.new.platform answer.0.2 auto;
    }

pub returns-then-tell_reply-clause-run : goal.returns-then-tell_reply-clause-run
returns-then-tell_reply-clause-run g c =
    let s : Setting = script_setting g.K.Kinds.refuses g.K.Kinds.next c.args.options in
    let asked : shell_line c.in-Line.line ≡ c.in-Asked.asked = ap shell_line (sym c.as_slice-text.ensures) ∙ c.in-Asked.ensures.0 in
    let other : is_quit (shell_line c.in-Line.line) ≡ false = ap is_quit asked ∙ c.in-Asked.ensures.1 in
    let answer = c.in-Ok.ensures.answered in
    let R : Asked → Type 0 = λ a. RunsAsked s a c.loop-line.platform (Ok c.in-Ok.reply) c.answer_line.new.platform in
    let T : List ℕ → Type 0 = λ w. Appends (g.Out.Sink.written c.loop-line.output) (g.Out.Sink.written c.answer_line.new.output) (answer_text c.args.options.echo (answer_of w c.in-Ok.reply)) in
    let ends = stops_refused c.args.options.strict c.in-Ok.reply (sym c.tell_reply.ensures ∙ c.if-tell_reply.true) in
    run_refused c.loop-line.invariant.reached.progress (not_yet_read c.next_line.new.ahead.ended (g.In.Source.left c.next_line.new.input)) c.next_line.new.ahead.bytes.items c.answer_line.new.platform (g.Out.Sink.written c.answer_line.new.output)
    c.in-Line.line c.in-Ok.reply c.loop-line.invariant.reached.unrefused c.in-Line.ensures.step other (subst R (sym asked) answer.0) (subst T c.as_slice-text.ensures answer.1) ends.0 ends.1
