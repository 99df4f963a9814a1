-- How far a run has come with what was read, where the end of the input wasn't seen.
use Rattle.std.proofs.Common.{◌≡◌, ℕ, List, [], ◌∷◌, ◌++◌, ap, sym, ◌∙◌, refl, append_assoc, Bool, true, false, Ok}
use Rattle.std.specs.declared.option.Option.{Option}
use Rattle.std.specs.Io.KnownBytes.{Appends, Consumes}
use Rattle.std.proofs.KnownBytes.{Consumes-nil, Consumes-trans}
use Rattle.fault_count.specs.Steps.{next_count}
use Rattle.platform_hall.specs.Cores.{CoreView}
use Rattle.shell_lang.specs.declared.shell_reply.ShellReply.{ShellReply}
use Rattle.shell_lang.specs.ShellLines.{shell_line, is_quit}
use Rattle.script_shell.specs.declared.line_input.LineStep.TheVariants.{Line as OfLine, Failed}
use Rattle.script_shell.specs.declared.form.ScriptOptions.{ScriptOptions}
use Rattle.script_shell.specs.Asks.{Setting}
use Rattle.script_shell.specs.Carries.{RunsAsked}
use Rattle.script_shell.specs.LineTexts.{answer_text, has_refusal, is_told_refusal}
use Rattle.script_shell.specs.Lines.{lines_of}
use Rattle.script_shell.specs.Reading.{LineRead, NextLine, not_yet_read}
use Rattle.script_shell.specs.Runs.{Faulted, script_lines}
use Rattle.script_shell.proofs.Progress.{Progress, answer_of, progress_line, progress_start, script_line, unrefused_more}

-- what was read is the lines that ran and the pending bytes, whatever comes behind
pub record ReadSoFar (left now : Option (List ℕ)) (pending : List ℕ) (lines : List (List ℕ)) : Type 0 where
  pub taken : List ℕ
  pub read : Consumes left now taken
  pub first : (more : List ℕ) → script_lines (lines_of (taken ++ more)) ≡ lines ++ script_lines (lines_of (pending ++ more))

-- so far: the run has come here, and until the end of the input is seen this is what was read; with `--strict` no line was refused
pub record Reached (s : Setting) (o : ScriptOptions) (left now : Option (List ℕ)) (ended : Bool) (pending : List ℕ) (before after : CoreView) (written written' : Option (List ℕ)) (number : ℕ) : Type 0 where
  pub progress : Progress s o left (not_yet_read ended now) pending before after written written' number
  pub read : ended ≡ false → ReadSoFar left now pending progress.lines
  pub unrefused : o.strict ≡ true → has_refusal progress.answers ≡ false

-- nothing was read yet
pub reached_start : (s : Setting) (o : ScriptOptions) (left written : Option (List ℕ)) (before : CoreView) → Reached s o left left false [] before before written written 1
unfolding progress_start
reached_start s o left written before = record {
  progress = progress_start s o left written before;
  read = λ unended. record { taken = []; read = Consumes-nil left; first = λ more. refl };
  unrefused = λ strict. refl;
}

-- one line more was read
pub line_more : (left now now' : Option (List ℕ)) (pending pending' : List ℕ) (lines : List (List ℕ)) (line : List ℕ) → ReadSoFar left now pending lines → LineRead now now' pending pending' (OfLine line)
    → is_quit (shell_line line) ≡ false → ReadSoFar left now' pending' (lines ++ line ∷ [])
line_more left now now' pending pending' lines line so_far (piece, size, got, short, is) other = record {
  taken = so_far.taken ++ piece;
  read = Consumes-trans left now now' so_far.taken piece so_far.read got;
  first = λ more.
      let step = script_line 0 (lines_of ((pending ++ piece) ++ more)) (lines_of (pending' ++ more)) (record { text = line; size = size }) (is more) short other in
      ap (λ w. script_lines (lines_of w)) (append_assoc so_far.taken piece more) ∙ so_far.first (piece ++ more)
      ∙ ap (λ w. lines ++ w) (ap (λ w. script_lines (lines_of w)) (sym (append_assoc pending piece more)) ∙ step.0) ∙ sym (append_assoc lines (line ∷ []) (script_lines (lines_of (pending' ++ more))));
}

-- a line ran, and its reply is written
pub reached_line : {s : Setting} {o : ScriptOptions} {left now : Option (List ℕ)} {ended : Bool} {pending : List ℕ} {first at : CoreView} {written written' : Option (List ℕ)} {number : ℕ} → Reached s o left now ended pending first at written written' number
    → (now' : Option (List ℕ)) (ended' : Bool) (pending' : List ℕ) (after : CoreView) (written'' : Option (List ℕ)) (line : List ℕ) (told : Option ShellReply)
    → NextLine (not_yet_read ended now) (not_yet_read ended' now') pending pending' (OfLine line) → (ended' ≡ false → (ended ≡ false) × LineRead now now' pending pending' (OfLine line))
    → is_quit (shell_line line) ≡ false → RunsAsked s (shell_line line) at (Ok told) after → Appends written' written'' (answer_text o.echo (answer_of line told))
    → (o.strict ≡ true → is_told_refusal told ≡ false) → Reached s o left now' ended' pending' first after written written'' (next_count number)
unfolding progress_line
reached_line {s} {o} {left} {now} {ended} {pending} {first} {at} {written} {written'} {number} so_far now' ended' pending' after written'' line told next taken other runs wrote unrefused = record {
  progress = progress_line so_far.progress (not_yet_read ended' now') pending' after written'' line told next other runs wrote;
  read = λ unended. let here = taken unended in line_more left now now' pending pending' so_far.progress.lines line (so_far.read here.0) here.1 other;
  unrefused = λ strict. unrefused_more so_far.progress.answers line told (so_far.unrefused strict) (unrefused strict);
}

-- the source failed
pub reached_fault : {s : Setting} {o : ScriptOptions} {left now : Option (List ℕ)} {ended : Bool} {pending : List ℕ} {first at : CoreView} {written written' : Option (List ℕ)} {number : ℕ} → Reached s o left now ended pending first at written written' number
    → (now' : Option (List ℕ)) (pending' : List ℕ) → (ended ≡ false) × LineRead now now' pending pending' Failed → Faulted s o left now' first at written written'
reached_fault {s} {o} {left} {now} {ended} {pending} {first} {at} {written} {written'} {number} so_far now' pending' (unended, ((piece, got, is), none, short)) =
    let before = so_far.read unended in
    record {
      taken = before.taken ++ piece;
      pending = pending';
      lines = so_far.progress.lines;
      commands = so_far.progress.commands;
      answers = so_far.progress.answers;
      read = Consumes-trans left now now' before.taken piece before.read got;
      first = λ more.
          ap (λ w. script_lines (lines_of w)) (append_assoc before.taken piece more) ∙ before.first (piece ++ more)
          ∙ ap (λ w. so_far.progress.lines ++ script_lines (lines_of w)) (sym (append_assoc pending piece more) ∙ ap (λ w. w ++ more) (sym is));
      unended = none;
      short = short;
      ran = so_far.progress.ran;
      unrefused = so_far.unrefused;
      wrote = so_far.progress.wrote;
    }
