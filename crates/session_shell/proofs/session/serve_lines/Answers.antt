use Rattle.std.proofs.Common.{◌≡◌, ◌∙◌, ap, sym, subst, refl, inl, false, Err}
use Rattle.fault_count.specs.Steps.{next_count}
use Rattle.platform_sessions.proofs.Stretches.{keeps_itself, keeps_on}
use Rattle.script_shell.specs.Reading.{not_yet_read}
use Rattle.shell_lang.specs.ShellLines.{Asked, is_quit, shell_line}
use Rattle.session_shell.specs.Answers.{AnswersLine}
use Rattle.session_shell.specs.Items.{ServesLine, Setting}
use Rattle.session_shell.specs.Sessions.{write_faults_after}
use Rattle.session_shell.specs.declared.session_end.SessionEnd.TheVariants.{NoMemory, ReadFault}
use Rattle.session_shell.proofs.Endings.{ends_unanswered, no_fault_unanswered, reads_unanswered}
use Rattle.session_shell.proofs.Progress.{ends_between, ends_here, ends_long, ends_quit}
use Rattle.session_shell.proofs.Reached.{reached_fault, reached_line, reached_start}
use Rattle.session_shell.proofs.session.serve_lines.Goals as goal

pub loop-line-init : goal.loop-line-init
loop-line-init g c =
    let s : Setting = record { limits = c.args.hall.now.limits; refuses = g.K.Kinds.refuses } in
    record {
      reached = rw (c.new-ahead.ensures.0, c.new-ahead.ensures.1) (reached_start s (g.In.Source.left c.args.input.now) (g.Out.Sink.written c.args.output.now) c.args.pass.now.front c.args.notes.now.items);
      of = c.requires.of;
      keeps = keeps_itself c.args.pass.now.front;
      closed = refl;
      reads = refl;
      writes = refl;
    }

pub returns-in-TooLong-clause-served : goal.returns-in-TooLong-clause-served
returns-in-TooLong-clause-served g c =
    ends_long c.loop-line.invariant.reached.progress (not_yet_read c.next_line.new.ahead.ended (g.In.Source.left c.next_line.new.input)) c.next_line.new.ahead.bytes.items c.in-TooLong.ensures.step

pub returns-in-End-clause-served : goal.returns-in-End-clause-served
returns-in-End-clause-served g c =
    ends_here c.loop-line.invariant.reached.progress (not_yet_read c.next_line.new.ahead.ended (g.In.Source.left c.next_line.new.input)) c.next_line.new.ahead.bytes.items c.in-End.ensures.step

pub returns-in-Failed-clause-served : goal.returns-in-Failed-clause-served
returns-in-Failed-clause-served g c = ends_between c.loop-line.invariant.reached.progress ReadFault (λ e. e) (λ others. (refl, (refl, refl)))

pub returns-in-Failed-clause-fault : goal.returns-in-Failed-clause-fault
returns-in-Failed-clause-fault g c =
    reached_fault c.loop-line.invariant.reached (g.In.Source.left c.next_line.new.input) c.next_line.new.ahead.bytes.items (c.in-Failed.ensures.taken (c.next_line.ensures.unended c.in-Failed.is))

pub returns-in-Failed-clause-read_faults : goal.returns-in-Failed-clause-read_faults
returns-in-Failed-clause-read_faults g c = c.in-Failed.ensures.faults ∙ ap next_count c.loop-line.invariant.reads

pub returns-in-NoMemory-clause-served : goal.returns-in-NoMemory-clause-served
returns-in-NoMemory-clause-served g c = ends_between c.loop-line.invariant.reached.progress NoMemory (λ e. e) (λ others. (inl refl, (refl, refl)))

pub returns-in-Quit-clause-served : goal.returns-in-Quit-clause-served
returns-in-Quit-clause-served g c =
    ends_quit c.loop-line.invariant.reached.progress (not_yet_read c.next_line.new.ahead.ended (g.In.Source.left c.next_line.new.input)) c.next_line.new.ahead.bytes.items c.in-Line.line c.in-Line.ensures.step (ap (λ w. is_quit (shell_line w)) (sym c.as_slice-text.ensures) ∙ c.in-Quit.ensures)

pub returns-in-NoMemory-read_ask-clause-served : goal.returns-in-NoMemory-read_ask-clause-served
returns-in-NoMemory-read_ask-clause-served g c = ends_between c.loop-line.invariant.reached.progress NoMemory (λ e. e) (λ others. (inl refl, (refl, refl)))

pub returns-in-Err-clause-served : goal.returns-in-Err-clause-served
returns-in-Err-clause-served g c =
    let s : Setting = record { limits = c.args.hall.now.limits; refuses = g.K.Kinds.refuses } in
    let asked : shell_line c.in-Line.line ≡ c.in-Asked.asked = ap shell_line (sym c.as_slice-text.ensures) ∙ c.in-Asked.ensures.0 in
    let other : is_quit (shell_line c.in-Line.line) ≡ false = ap is_quit asked ∙ c.in-Asked.ensures.1 in
    let R : Asked → Type 0 = λ a. AnswersLine s a c.loop-line.pass.front c.answer_line.new.pass.front c.loop-line.notes.items c.answer_line.new.notes.items (g.Out.Sink.written c.loop-line.output) (g.Out.Sink.written c.answer_line.new.output) (Err c.in-Err.end) in
    ends_unanswered c.loop-line.invariant.reached.progress (not_yet_read c.next_line.new.ahead.ended (g.In.Source.left c.next_line.new.input)) c.next_line.new.ahead.bytes.items c.answer_line.new.pass.front c.answer_line.new.notes.items (g.Out.Sink.written c.answer_line.new.output)
    c.in-Line.line c.in-Err.end c.in-Line.ensures.step other (subst R (sym asked) c.in-Err.ensures.answered)

pub returns-in-Err-clause-keeps : goal.returns-in-Err-clause-keeps
returns-in-Err-clause-keeps g c = keeps_on c.args.pass.now.front c.loop-line.pass.front c.answer_line.new.pass.front c.loop-line.invariant.keeps c.answer_line.ensures.keeps

pub returns-in-Err-clause-fault : goal.returns-in-Err-clause-fault
returns-in-Err-clause-fault g c =
    let s : Setting = record { limits = c.args.hall.now.limits; refuses = g.K.Kinds.refuses } in
    no_fault_unanswered c.in-Err.end s c.in-Asked.asked c.loop-line.pass.front c.answer_line.new.pass.front c.loop-line.notes.items c.answer_line.new.notes.items (g.Out.Sink.written c.loop-line.output) (g.Out.Sink.written c.answer_line.new.output) c.in-Err.ensures.answered
    (g.In.Source.left c.args.input.now) (g.In.Source.left c.next_line.new.input) c.args.pass.now.front c.answer_line.new.pass.front c.args.notes.now.items c.answer_line.new.notes.items (g.Out.Sink.written c.args.output.now) (g.Out.Sink.written c.answer_line.new.output)

pub returns-in-Err-clause-read_faults : goal.returns-in-Err-clause-read_faults
returns-in-Err-clause-read_faults g c =
    let s : Setting = record { limits = c.args.hall.now.limits; refuses = g.K.Kinds.refuses } in
    c.in-Line.ensures.faults ∙ c.loop-line.invariant.reads
    ∙ sym (reads_unanswered c.in-Err.end s c.in-Asked.asked c.loop-line.pass.front c.answer_line.new.pass.front c.loop-line.notes.items c.answer_line.new.notes.items (g.Out.Sink.written c.loop-line.output) (g.Out.Sink.written c.answer_line.new.output) (g.In.Source.fault_count c.args.input.now) c.in-Err.ensures.answered)

pub returns-in-Err-clause-write_faults : goal.returns-in-Err-clause-write_faults
returns-in-Err-clause-write_faults g c = c.in-Err.ensures.faults ∙ ap (λ n. write_faults_after n c.in-Err.end) c.loop-line.invariant.writes

pub loop-line-preserved : goal.loop-line-preserved
loop-line-preserved g c =
    let s : Setting = record { limits = c.args.hall.now.limits; refuses = g.K.Kinds.refuses } in
    let asked : shell_line c.in-Line.line ≡ c.in-Asked.asked = ap shell_line (sym c.as_slice-text.ensures) ∙ c.in-Asked.ensures.0 in
    let other : is_quit (shell_line c.in-Line.line) ≡ false = ap is_quit asked ∙ c.in-Asked.ensures.1 in
    let answer = c.in-Ok.ensures.answered in
    let R : Asked → Type 0 = λ a. ServesLine s a c.loop-line.pass.front c.answer_line.new.pass.front answer.0 in
    record {
      reached = rw c.saturating_add-number.ensures (reached_line c.loop-line.invariant.reached (g.In.Source.left c.next_line.new.input) c.next_line.new.ahead.ended c.next_line.new.ahead.bytes.items c.answer_line.new.pass.front c.answer_line.new.notes.items (g.Out.Sink.written c.answer_line.new.output)
          c.in-Line.line answer.0 c.in-Line.ensures.step c.in-Line.ensures.taken other (subst R (sym asked) answer.1) answer.2 answer.3);
      of = c.answer_line.ensures.of;
      keeps = keeps_on c.args.pass.now.front c.loop-line.pass.front c.answer_line.new.pass.front c.loop-line.invariant.keeps c.answer_line.ensures.keeps;
      closed = c.answer_line.ensures.closed ∙ c.loop-line.invariant.closed;
      reads = c.in-Line.ensures.faults ∙ c.loop-line.invariant.reads;
      writes = c.in-Ok.ensures.faults ∙ c.loop-line.invariant.writes;
    }
