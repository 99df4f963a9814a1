-- How far a run has come, and how it goes on.
use Rattle.std.proofs.Common.{◌≡◌, ◌<◌, ◌≤◌, ℕ, List, [], ◌∷◌, ◌++◌, length, take, ap, sym, ◌∙◌, refl, append_assoc, append-nil, Bool, true, false, subst, arith, Ok, Err, inl, inr}
use Rattle.std.specs.Prelude.{◌||◌}
use Rattle.std.proofs.lemmas.Bool.Decides.{nat_tests}
use Rattle.std.proofs.lemmas.List.Folds.{list_any-append}
use Rattle.std.proofs.lemmas.Grind.{flat_map-append}
use Rattle.std.specs.declared.option.Option.{Option}
use Rattle.std.specs.Io.KnownBytes.{Appends}
use Rattle.std.proofs.KnownBytes.{Appends-trans, Appends-nil}
use Rattle.fault_count.specs.Steps.{next_count}
use Rattle.scr_world.specs.declared.command.Command.{Command}
use Rattle.platform_hall.specs.Cores.{CoreView}
use Rattle.turn_runner.specs.declared.settle_fault.SettleFault.{SettleFault}
use Rattle.turn_runner.specs.declared.settle_fault.SettleFault.TheVariants.{Unsettled as StillDue, JournalFull as NoRoom, OutOfMemory}
use Rattle.platform_hall.specs.Platforms.{none_under_way}
use Rattle.shell_lang.specs.declared.shell_reply.ShellReply.{ShellReply}
use Rattle.shell_lang.specs.ShellLines.{shell_line, is_quit}
use Rattle.script_shell.specs.declared.line_input.LineStep.TheVariants.{Line as OfLine, TooLong, End}
use Rattle.script_shell.specs.declared.form.ScriptOptions.{ScriptOptions}
use Rattle.script_shell.specs.declared.status.Status.{Status}
use Rattle.script_shell.specs.declared.status.Status.TheVariants.{Done, WriteFault, NoMemory, LineTooLong, Refused}
use Rattle.script_shell.specs.Asks.{Setting, commands_of}
use Rattle.script_shell.specs.Carries.{RunsAsked}
use Rattle.script_shell.specs.Cuts.{Cuts}
use Rattle.script_shell.specs.LineTexts.{Answer, answer_text, has_refusal, has_text, is_refused, is_told_refusal, number_behind, texts}
use Rattle.script_shell.specs.Lines.{Line, is_too_long, lines_of, longest_line}
use Rattle.script_shell.specs.Reading.{Tells, NextLine}
use Rattle.script_shell.specs.Runs.{EndsRefused, HasRun, HasRunOver, Ran, RunsLine, Stops, ending, script_lines}
use Rattle.script_shell.specs.Statuses.{IsEnding, status_of}
use Rattle.script_shell.proofs.Growth.{grew_trans}
use Rattle.script_shell.proofs.LineGrowth.{grew_ran, grew_stops}
use Rattle.script_shell.proofs.ReadingLemmas.{some_told}
use Rattle.script_shell.proofs.Resting.{quiet_still}

-- what the lines of these bytes are, behind those that ran
abbrev pub GoesOn : Option (List ℕ) → Option (List ℕ) → List ℕ → List (List ℕ) → ℕ → Type 0
GoesOn left left' pending lines number =
    (more : List ℕ) → Tells left' more → (bytes : List ℕ) × Tells left bytes
    × (script_lines (lines_of bytes) ≡ lines ++ script_lines (lines_of (pending ++ more))) × (ending 1 (lines_of bytes) ≡ ending number (lines_of (pending ++ more)))

-- ---- the lines that ran

abbrev pub answer_of : List ℕ → Option ShellReply → Answer
answer_of line told = record { line = line; told = told }

pub texts_more : (echo : Bool) (answers : List Answer) (answer : Answer) → texts echo (answers ++ answer ∷ []) ≡ texts echo answers ++ answer_text echo answer
texts_more echo answers answer = flat_map-append (answer_text echo) answers (answer ∷ []) ∙ ap (λ w. texts echo answers ++ w) (append-nil (answer_text echo answer))

pub behind_more : (number : ℕ) (answers : List Answer) (answer : Answer) → number_behind number (answers ++ answer ∷ []) ≡ next_count (number_behind number answers)
behind_more number [] answer = refl
behind_more number (head ∷ answers) answer = behind_more (next_count number) answers answer

pub unrefused_more : (answers : List Answer) (line : List ℕ) (told : Option ShellReply) → has_refusal answers ≡ false → is_told_refusal told ≡ false → has_refusal (answers ++ answer_of line told ∷ []) ≡ false
unrefused_more answers line told none said = list_any-append is_refused answers (answer_of line told ∷ []) ∙ ap (λ b. b || has_refusal (answer_of line told ∷ [])) none ∙ ap (λ b. b || false) said

-- so far: these lines ran, all their text is written, and whatever comes stands behind them; no turn is under way, where that was so
pub record Progress (s : Setting) (o : ScriptOptions) (left left' : Option (List ℕ)) (pending : List ℕ) (before after : CoreView) (written written' : Option (List ℕ)) (number : ℕ) : Type 0 where
  pub lines : List (List ℕ)
  pub commands : List Command
  pub answers : List Answer
  pub ran : Ran s before lines before after commands answers
  pub wrote : Appends written written' (texts o.echo answers)
  pub reads : GoesOn left left' pending lines number
  pub counted : number ≡ number_behind 1 answers
  pub still : s.is_manual ≡ false → none_under_way before ≡ true → none_under_way after ≡ true

-- one line more
pub Ran_snoc : (s : Setting) (first : CoreView) (lines : List (List ℕ)) (line : List ℕ) (before between after : CoreView) (commands : List Command) (answers : List Answer) (told : Option ShellReply)
    → Ran s first lines before between commands answers → RunsLine s first (shell_line line) between told after
    → Ran s first (lines ++ line ∷ []) before after (commands ++ commands_of between (shell_line line)) (answers ++ answer_of line told ∷ [])
Ran_snoc s first [] line before between after commands answers told (same, none, nothing) runs =
    let P : CoreView → Type 0 = λ p. RunsLine s first (shell_line line) p told after in (
      after,
      told,
      [],
      [],
      subst P same runs,
      (refl, refl, refl),
      ap (λ w. w ++ commands_of between (shell_line line)) none ∙ ap (λ (p : CoreView). commands_of p (shell_line line)) same ∙ sym (append-nil (commands_of before (shell_line line))),
      ap (λ w. w ++ answer_of line told ∷ []) nothing,
    )
Ran_snoc s first (head ∷ lines) line before between after commands answers told (middle, said, later, rest, answer, ran, all, whole) runs = (
  middle,
  said,
  later ++ commands_of between (shell_line line),
  rest ++ answer_of line told ∷ [],
  answer,
  Ran_snoc s first lines line middle between after later rest told ran runs,
  ap (λ w. w ++ commands_of between (shell_line line)) all ∙ append_assoc (commands_of before (shell_line head)) later (commands_of between (shell_line line)),
  ap (λ w. w ++ answer_of line told ∷ []) whole,
)

-- nothing ran yet
unfoldable pub progress_start : (s : Setting) (o : ScriptOptions) (left written : Option (List ℕ)) (before : CoreView) → Progress s o left left [] before before written written 1
progress_start s o left written before = record {
  lines = [];
  commands = [];
  answers = [];
  ran = (refl, refl, refl);
  wrote = Appends-nil written;
  reads = λ more told. (more, told, refl, refl);
  counted = refl;
  still = λ auto none. none;
}

pub short_line : (line : Line) → line.size ≤ longest_line → is_too_long line ≡ false
short_line line short = grind (arith, nat_tests)

pub long_line : (line : Line) → longest_line < line.size → is_too_long line ≡ true
long_line line long = grind (arith, nat_tests)

-- a script that goes on with a line that is run
pub script_line : (number : ℕ) (lines rest : List Line) (line : Line) → lines ≡ line ∷ rest → line.size ≤ longest_line → is_quit (shell_line line.text) ≡ false
    → (script_lines lines ≡ line.text ∷ script_lines rest) × (ending number lines ≡ ending (next_count number) rest)
script_line number lines rest line is short other = (rw (is, short_line line short, other) refl, rw (is, short_line line short, other) refl)

-- a script that ends with `quit`
script_quit : (number : ℕ) (lines rest : List Line) (line : Line) → lines ≡ line ∷ rest → line.size ≤ longest_line → is_quit (shell_line line.text) ≡ true
    → (script_lines lines ≡ []) × (ending number lines ≡ Done)
script_quit number lines rest line is short quits = (rw (is, short_line line short, quits) refl, rw (is, short_line line short, quits) refl)

-- a script that ends with a line that is too long
script_long : (number : ℕ) (lines rest : List Line) (line : Line) → lines ≡ line ∷ rest → longest_line < line.size → (script_lines lines ≡ []) × (ending number lines ≡ LineTooLong number)
script_long number lines rest line is long = (rw (is, long_line line long) refl, rw (is, long_line line long) refl)

-- the reading goes on behind a line
pub goes_on : (left left' left'' : Option (List ℕ)) (pending pending' : List ℕ) (lines : List (List ℕ)) (number : ℕ) (line : List ℕ) → GoesOn left left' pending lines number
    → NextLine left' left'' pending pending' (OfLine line) → is_quit (shell_line line) ≡ false → GoesOn left left'' pending' (lines ++ line ∷ []) (next_count number)
goes_on left left' left'' pending pending' lines number line so_far (size, short, next) other = λ more told.
    let here = next more told in
    let all = so_far here.0 here.1 in
    let step = script_line number (lines_of (pending ++ here.0)) (lines_of (pending' ++ more)) (record { text = line; size = size }) here.2 short other in
    (all.0, all.1, all.2 ∙ ap (λ w. lines ++ w) step.0 ∙ sym (append_assoc lines (line ∷ []) (script_lines (lines_of (pending' ++ more)))), all.3 ∙ step.1)

-- the line runs in a run that began with another platform
pub line_of_run : {s : Setting} {o : ScriptOptions} {left left' : Option (List ℕ)} {pending : List ℕ} {first now : CoreView} {written written' : Option (List ℕ)} {number : ℕ} → Progress s o left left' pending first now written written' number
    → (line : List ℕ) (told : Option ShellReply) (after : CoreView) → RunsAsked s (shell_line line) now (Ok told) after → RunsLine s first (shell_line line) now told after
line_of_run {s} {o} {left} {left'} {pending} {first} {now} {written} {written'} {number} so_far line told after (between, asks, rests, comes) = (between, asks, rests, λ auto none. comes auto (so_far.still auto none))

-- a line ran, and its text is written
unfoldable pub progress_line : {s : Setting} {o : ScriptOptions} {left left' : Option (List ℕ)} {pending : List ℕ} {first now : CoreView} {written written' : Option (List ℕ)} {number : ℕ} → Progress s o left left' pending first now written written' number
    → (left'' : Option (List ℕ)) (pending' : List ℕ) (after : CoreView) (written'' : Option (List ℕ)) (line : List ℕ) (told : Option ShellReply)
    → NextLine left' left'' pending pending' (OfLine line) → is_quit (shell_line line) ≡ false → RunsAsked s (shell_line line) now (Ok told) after
    → Appends written' written'' (answer_text o.echo (answer_of line told)) → Progress s o left left'' pending' first after written written'' (next_count number)
progress_line {s} {o} {left} {left'} {pending} {first} {now} {written} {written'} {number} so_far left'' pending' after written'' line told next other runs wrote =
    let P : List ℕ → Type 0 = λ w. Appends written written'' w in
    record {
      lines = so_far.lines ++ line ∷ [];
      commands = so_far.commands ++ commands_of now (shell_line line);
      answers = so_far.answers ++ answer_of line told ∷ [];
      ran = Ran_snoc s first so_far.lines line first now after so_far.commands so_far.answers told so_far.ran (line_of_run so_far line told after runs);
      wrote = subst P (sym (texts_more o.echo so_far.answers (answer_of line told)))
          (Appends-trans written written' written'' (texts o.echo so_far.answers) (answer_text o.echo (answer_of line told)) so_far.wrote wrote);
      reads = goes_on left left' left'' pending pending' so_far.lines number line so_far.reads next other;
      counted = ap next_count so_far.counted ∙ sym (behind_more 1 so_far.answers (answer_of line told));
      still = λ auto none. quiet_still after (runs.3 auto (so_far.still auto none)).0;
    }

-- how a run has gone, from its parts
has_run : (s : Setting) (o : ScriptOptions) (bytes : List ℕ) (first now after : CoreView) (written written' : Option (List ℕ)) (status : Status) (lines others : List (List ℕ)) (commands later : List Command) (answers : List Answer) (front : List ℕ)
    → script_lines (lines_of bytes) ≡ lines ++ others → Ran s first lines first now commands answers → Stops s o first status now after others later front → EndsRefused o.strict answers status
    → Appends written written' (texts o.echo answers ++ front)
    → (IsEnding status → (status ≡ ending 1 (lines_of bytes)) × (others ≡ [])) → HasRun s o bytes first after written written' status
has_run s o bytes first now after written written' status lines others commands later answers front all ran stops refused wrote ended = record {
  lines = lines;
  others = others;
  between = now;
  commands = commands;
  later = later;
  answers = answers;
  front = front;
  first = all;
  ran = ran;
  stops = stops;
  refused = refused;
  grew = grew_trans first now after commands later (grew_ran s first lines first now commands answers ran) (grew_stops s o first status now after others later front stops);
  wrote = wrote;
  ended = ended;
}

-- all texts are written, and nothing more
just_written : (written written' : Option (List ℕ)) (text : List ℕ) → Appends written written' text → Appends written written' (text ++ [])
just_written written written' text wrote = let P : List ℕ → Type 0 = λ w. Appends written written' w in subst P (sym (append-nil text)) wrote

-- the run stops between two lines
pub run_stops : {s : Setting} {o : ScriptOptions} {left left' : Option (List ℕ)} {pending : List ℕ} {first now : CoreView} {written written' : Option (List ℕ)} {number : ℕ} → (so_far : Progress s o left left' pending first now written written' number)
    → (status : Status) → (IsEnding status → ⊥) → EndsRefused o.strict so_far.answers status → ((others : List (List ℕ)) → Stops s o first status now now others [] []) → HasRunOver s o left first now written written' status
run_stops {s} {o} {left} {left'} {pending} {first} {now} {written} {written'} {number} so_far status other refused stops =
    let more = some_told left' in
    let all = so_far.reads more.0 more.1 in
    let others = script_lines (lines_of (pending ++ more.0)) in (
      all.0,
      all.1,
      has_run s o all.0 first now now written written' status so_far.lines others so_far.commands [] so_far.answers [] all.2 so_far.ran (stops others) refused
          (just_written written written' (texts o.echo so_far.answers) so_far.wrote) (λ e. absurd (other e)),
    )

-- a line was refused, its text is written, and the run stops behind it
pub run_refused : {s : Setting} {o : ScriptOptions} {left left' : Option (List ℕ)} {pending : List ℕ} {first now : CoreView} {written written' : Option (List ℕ)} {number : ℕ} → (so_far : Progress s o left left' pending first now written written' number)
    → (left'' : Option (List ℕ)) (pending' : List ℕ) (after : CoreView) (written'' : Option (List ℕ)) (line : List ℕ) (told : Option ShellReply)
    → (o.strict ≡ true → has_refusal so_far.answers ≡ false) → NextLine left' left'' pending pending' (OfLine line) → is_quit (shell_line line) ≡ false → RunsAsked s (shell_line line) now (Ok told) after
    → Appends written' written'' (answer_text o.echo (answer_of line told)) → o.strict ≡ true → is_told_refusal told ≡ true → HasRunOver s o left first after written written'' (Refused number)
unfolding progress_line
run_refused {s} {o} {left} {left'} {pending} {first} {now} {written} {written'} {number} so_far left'' pending' after written'' line told unrefused next other runs wrote strict refused =
    run_stops (progress_line so_far left'' pending' after written'' line told next other runs wrote) (Refused number) (λ e. e)
    (strict, (so_far.answers, answer_of line told, refl, unrefused strict, refused, so_far.counted)) (λ others. ((refl, refl), refl))

-- the run stops in a line, of which something became by these commands, and a front of its text is written
run_stops_in_line : {s : Setting} {o : ScriptOptions} {left left' : Option (List ℕ)} {pending : List ℕ} {first now : CoreView} {written written' : Option (List ℕ)} {number : ℕ} → (so_far : Progress s o left left' pending first now written written' number)
    → (left'' : Option (List ℕ)) (pending' : List ℕ) (after : CoreView) (written'' : Option (List ℕ)) (line : List ℕ) (status : Status) (later : List Command) (front : List ℕ)
    → (IsEnding status → ⊥) → EndsRefused o.strict so_far.answers status → ((others : List (List ℕ)) → Stops s o first status now after (line ∷ others) later front) → NextLine left' left'' pending pending' (OfLine line)
    → is_quit (shell_line line) ≡ false → Appends written' written'' front → HasRunOver s o left first after written written'' status
run_stops_in_line {s} {o} {left} {left'} {pending} {first} {now} {written} {written'} {number} so_far left'' pending' after written'' line status later front other refused stops (size, short, next) not_quit wrote =
    let more = some_told left'' in
    let here = next more.0 more.1 in
    let all = so_far.reads here.0 here.1 in
    let rest = lines_of (pending' ++ more.0) in
    let step = script_line number (lines_of (pending ++ here.0)) rest (record { text = line; size = size }) here.2 short not_quit in (
      all.0,
      all.1,
      has_run s o all.0 first now after written written'' status so_far.lines (line ∷ script_lines rest) so_far.commands later so_far.answers front
          (all.2 ∙ ap (λ w. so_far.lines ++ w) step.0) so_far.ran (stops (script_lines rest)) refused
          (Appends-trans written written' written'' (texts o.echo so_far.answers) front so_far.wrote wrote) (λ e. absurd (other e)),
    )

-- a line ran, and only a front of its text is written
pub run_writes_front : {s : Setting} {o : ScriptOptions} {left left' : Option (List ℕ)} {pending : List ℕ} {first now : CoreView} {written written' : Option (List ℕ)} {number : ℕ} → (so_far : Progress s o left left' pending first now written written' number)
    → (left'' : Option (List ℕ)) (pending' : List ℕ) (after : CoreView) (written'' : Option (List ℕ)) (line : List ℕ) (told : Option ShellReply) (count : ℕ)
    → (o.strict ≡ true → has_refusal so_far.answers ≡ false) → NextLine left' left'' pending pending' (OfLine line) → is_quit (shell_line line) ≡ false → RunsAsked s (shell_line line) now (Ok told) after
    → count < length (answer_text o.echo (answer_of line told)) → Appends written' written'' (take count (answer_text o.echo (answer_of line told))) → HasRunOver s o left first after written written'' WriteFault
run_writes_front {s} {o} {left} {left'} {pending} {first} {now} {written} {written'} {number} so_far left'' pending' after written'' line told count unrefused next other runs below wrote =
    let run = line_of_run so_far line told after runs in
    run_stops_in_line so_far left'' pending' after written'' line WriteFault (commands_of now (shell_line line)) (take count (answer_text o.echo (answer_of line told))) (λ e. e) unrefused
    (λ others. (answer_of line told, count, (run, refl, refl), below, refl)) next other wrote

-- a line ran, and memory is wanting for its text
pub run_lacks_memory : {s : Setting} {o : ScriptOptions} {left left' : Option (List ℕ)} {pending : List ℕ} {first now : CoreView} {written written' : Option (List ℕ)} {number : ℕ} → (so_far : Progress s o left left' pending first now written written' number)
    → (left'' : Option (List ℕ)) (pending' : List ℕ) (after : CoreView) (line : List ℕ) (told : Option ShellReply)
    → (o.strict ≡ true → has_refusal so_far.answers ≡ false) → NextLine left' left'' pending pending' (OfLine line) → is_quit (shell_line line) ≡ false → RunsAsked s (shell_line line) now (Ok told) after
    → has_text o.echo (answer_of line told) ≡ true → HasRunOver s o left first after written written' NoMemory
run_lacks_memory {s} {o} {left} {left'} {pending} {first} {now} {written} {written'} {number} so_far left'' pending' after line told unrefused next other runs some =
    let run = line_of_run so_far line told after runs in
    run_stops_in_line so_far left'' pending' after written' line NoMemory (commands_of now (shell_line line)) [] (λ e. e) unrefused
    (λ others. (inr (inr (answer_of line told, (run, refl, refl), some)), refl)) next other (Appends-nil written')

no_ending : (fault : SettleFault) → IsEnding (status_of fault) → ⊥
no_ending StillDue ends = ends
no_ending NoRoom ends = ends
no_ending OutOfMemory ends = ends

cut_unrefused : (strict : Bool) (answers : List Answer) (fault : SettleFault) → (strict ≡ true → has_refusal answers ≡ false) → EndsRefused strict answers (status_of fault)
cut_unrefused strict answers StillDue unrefused = unrefused
cut_unrefused strict answers NoRoom unrefused = unrefused
cut_unrefused strict answers OutOfMemory unrefused = unrefused

cut_stops : (s : Setting) (o : ScriptOptions) (first : CoreView) (fault : SettleFault) (now after : CoreView) (line : List ℕ) (others : List (List ℕ)) (cut : List Command) → Cuts s (shell_line line) fault now after cut
    → Stops s o first (status_of fault) now after (line ∷ others) cut []
cut_stops s o first StillDue now after line others cut cuts = (cuts, refl)
cut_stops s o first NoRoom now after line others cut cuts = (cuts, refl)
cut_stops s o first OutOfMemory now after line others cut cuts = (inr (inl cuts), refl)

-- a line is cut off
pub run_cuts : {s : Setting} {o : ScriptOptions} {left left' : Option (List ℕ)} {pending : List ℕ} {first now : CoreView} {written written' : Option (List ℕ)} {number : ℕ} → (so_far : Progress s o left left' pending first now written written' number)
    → (left'' : Option (List ℕ)) (pending' : List ℕ) (after : CoreView) (line : List ℕ) (fault : SettleFault)
    → (o.strict ≡ true → has_refusal so_far.answers ≡ false) → NextLine left' left'' pending pending' (OfLine line) → is_quit (shell_line line) ≡ false → RunsAsked s (shell_line line) now (Err fault) after
    → HasRunOver s o left first after written written' (status_of fault)
run_cuts {s} {o} {left} {left'} {pending} {first} {now} {written} {written'} {number} so_far left'' pending' after line fault unrefused next other (cut, cuts) =
    run_stops_in_line so_far left'' pending' after written' line (status_of fault) cut [] (no_ending fault) (cut_unrefused o.strict so_far.answers fault unrefused)
    (λ others. cut_stops s o first fault now after line others cut cuts) next other (Appends-nil written')

-- the run comes to the end of the script
run_ends : {s : Setting} {o : ScriptOptions} {left left' : Option (List ℕ)} {pending : List ℕ} {first now : CoreView} {written written' : Option (List ℕ)} {number : ℕ} → (so_far : Progress s o left left' pending first now written written' number)
    → (status : Status) (more : List ℕ) → Stops s o first status now now [] [] [] → EndsRefused o.strict so_far.answers status → Tells left' more
    → (script_lines (lines_of (pending ++ more)) ≡ []) × (ending number (lines_of (pending ++ more)) ≡ status) → HasRunOver s o left first now written written' status
run_ends {s} {o} {left} {left'} {pending} {first} {now} {written} {written'} {number} so_far status more stops refused told (ends, is) =
    let all = so_far.reads more told in (
      all.0,
      all.1,
      has_run s o all.0 first now now written written' status so_far.lines [] so_far.commands [] so_far.answers []
          (all.2 ∙ ap (λ w. so_far.lines ++ w) ends) so_far.ran stops refused (just_written written written' (texts o.echo so_far.answers) so_far.wrote) (λ e. (sym (all.3 ∙ is), refl)),
    )

-- at a line that is too long
pub run_ends_long : {s : Setting} {o : ScriptOptions} {left left' : Option (List ℕ)} {pending : List ℕ} {first now : CoreView} {written written' : Option (List ℕ)} {number : ℕ} → (so_far : Progress s o left left' pending first now written written' number)
    → (left'' : Option (List ℕ)) (pending' : List ℕ) → (o.strict ≡ true → has_refusal so_far.answers ≡ false) → NextLine left' left'' pending pending' TooLong
    → HasRunOver s o left first now written written' (LineTooLong number)
run_ends_long {s} {o} {left} {left'} {pending} {first} {now} {written} {written'} {number} so_far left'' pending' unrefused (more, line, lines, told, long, is) =
    run_ends so_far (LineTooLong number) more ((refl, refl), refl) unrefused told (script_long number (lines_of (pending ++ more)) lines line is long)

-- behind the last line
pub run_ends_here : {s : Setting} {o : ScriptOptions} {left left' : Option (List ℕ)} {pending : List ℕ} {first now : CoreView} {written written' : Option (List ℕ)} {number : ℕ} → (so_far : Progress s o left left' pending first now written written' number)
    → (left'' : Option (List ℕ)) (pending' : List ℕ) → (o.strict ≡ true → has_refusal so_far.answers ≡ false) → NextLine left' left'' pending pending' End → HasRunOver s o left first now written written' Done
run_ends_here {s} {o} {left} {left'} {pending} {first} {now} {written} {written'} {number} so_far left'' pending' unrefused (more, told, none) =
    run_ends so_far Done more ((refl, refl), refl) unrefused told (ap script_lines none, ap (ending number) none)

-- at `quit`
pub run_quits : {s : Setting} {o : ScriptOptions} {left left' : Option (List ℕ)} {pending : List ℕ} {first now : CoreView} {written written' : Option (List ℕ)} {number : ℕ} → (so_far : Progress s o left left' pending first now written written' number)
    → (left'' : Option (List ℕ)) (pending' line : List ℕ) → (o.strict ≡ true → has_refusal so_far.answers ≡ false) → NextLine left' left'' pending pending' (OfLine line)
    → is_quit (shell_line line) ≡ true → HasRunOver s o left first now written written' Done
run_quits {s} {o} {left} {left'} {pending} {first} {now} {written} {written'} {number} so_far left'' pending' line unrefused (size, short, next) quits =
    let more = some_told left'' in
    let here = next more.0 more.1 in
    run_ends so_far Done here.0 ((refl, refl), refl) unrefused here.1
    (script_quit number (lines_of (pending ++ here.0)) (lines_of (pending' ++ more.0)) (record { text = line; size = size }) here.2 short quits)
