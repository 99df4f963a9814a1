-- How far a session has come with what was read, where the end of the input wasn't seen.
use Rattle.std.proofs.Common.{◌≡◌, ℕ, List, [], ◌++◌, ap, sym, ◌∙◌, refl, append_assoc, Bool, false}
use Rattle.std.specs.declared.option.Option.{Option}
use Rattle.std.specs.Io.KnownBytes.{Appends}
use Rattle.std.proofs.KnownBytes.{Consumes-nil, Consumes-trans}
use Rattle.fault_count.specs.Steps.{next_count}
use Rattle.platform_sessions.specs.Halls.{View}
use Rattle.script_shell.specs.Lines.{lines_of}
use Rattle.script_shell.specs.Reading.{LineRead, NextLine, not_yet_read}
use Rattle.script_shell.specs.Runs.{script_lines}
use Rattle.script_shell.specs.declared.line_input.LineStep.TheVariants.{Line as OfLine, Failed}
use Rattle.script_shell.proofs.Reached.{ReadSoFar, line_more}
use Rattle.shell_lang.specs.ShellLines.{is_quit, shell_line}
use Rattle.session_shell.specs.Items.{ServesLine, Setting, noted}
use Rattle.session_shell.specs.Sessions.{Faulted, texts}
use Rattle.session_shell.specs.declared.item.SessionItem.{SessionItem}
use Rattle.session_shell.proofs.Progress.{Progress, progress_line, progress_start}

-- so far: the session has come here, and until the end of the input is seen this is what was read
pub record Reached (s : Setting) (left now : Option (List ℕ)) (ended : Bool) (pending : List ℕ) (before after : View) (notes notes' : List SessionItem) (written written' : Option (List ℕ)) (number : ℕ) : Type 0 where
  pub progress : Progress s left (not_yet_read ended now) pending before after notes notes' written written' number
  pub read : ended ≡ false → ReadSoFar left now pending progress.lines

-- nothing was read yet
pub reached_start : (s : Setting) (left written : Option (List ℕ)) (before : View) (notes : List SessionItem) → Reached s left left false [] before before notes notes written written 1
unfolding progress_start
reached_start s left written before notes = record {
  progress = progress_start s left written before notes;
  read = λ unended. record { taken = []; read = Consumes-nil left; first = λ more. refl };
}

module _ {s : Setting} {left now : Option (List ℕ)} {ended : Bool} {pending : List ℕ} {first at : View} {notes notes' : List SessionItem} {written written' : Option (List ℕ)} {number : ℕ} where
  -- a line was served, noted, and its text is written
  pub reached_line : Reached s left now ended pending first at notes notes' written written' number
      → (now' : Option (List ℕ)) (ended' : Bool) (pending' : List ℕ) (after : View) (notes'' : List SessionItem) (written'' : Option (List ℕ)) (line : List ℕ) (told : Option SessionItem)
      → NextLine (not_yet_read ended now) (not_yet_read ended' now') pending pending' (OfLine line) → (ended' ≡ false → (ended ≡ false) × LineRead now now' pending pending' (OfLine line))
      → is_quit (shell_line line) ≡ false → ServesLine s (shell_line line) at after told → notes'' ≡ notes' ++ noted told → Appends written' written'' (texts (noted told))
      → Reached s left now' ended' pending' first after notes notes'' written written'' (next_count number)
  unfolding progress_line
  reached_line so_far now' ended' pending' after notes'' written'' line told next taken other serves is wrote = record {
    progress = progress_line so_far.progress (not_yet_read ended' now') pending' after notes'' written'' line told next other serves is wrote;
    read = λ unended. let here = taken unended in line_more left now now' pending pending' so_far.progress.lines line (so_far.read here.0) here.1 other;
  }

  -- the source failed
  pub reached_fault : Reached s left now ended pending first at notes notes' written written' number → (now' : Option (List ℕ)) (pending' : List ℕ) → (ended ≡ false) × LineRead now now' pending pending' Failed
      → Faulted s left now' first at notes notes' written written'
  reached_fault so_far now' pending' (unended, ((piece, got, is), none, short)) =
      let before = so_far.read unended in
      record {
        taken = before.taken ++ piece;
        pending = pending';
        lines = so_far.progress.lines;
        items = so_far.progress.items;
        read = Consumes-trans left now now' before.taken piece before.read got;
        first = λ more.
            ap (λ w. script_lines (lines_of w)) (append_assoc before.taken piece more) ∙ before.first (piece ++ more)
            ∙ ap (λ w. so_far.progress.lines ++ script_lines (lines_of w)) (sym (append_assoc pending piece more) ∙ ap (λ w. w ++ more) (sym is));
        unended = none;
        short = short;
        served = so_far.progress.served;
        noted_all = so_far.progress.noted_all;
        wrote = so_far.progress.wrote;
      }
