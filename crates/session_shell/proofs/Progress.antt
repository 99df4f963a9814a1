-- How far a session has come, and how it goes on.
use Rattle.std.proofs.Common.{◌≡◌, ◌<◌, ◌≤◌, ℕ, List, [], ◌∷◌, ◌++◌, ap, sym, ◌∙◌, refl, subst, append_assoc, append-nil, true, false}
use Rattle.std.specs.declared.option.Option.{Option}
use Rattle.std.specs.Io.KnownBytes.{Appends}
use Rattle.std.proofs.KnownBytes.{Appends-trans, Appends-nil}
use Rattle.fault_count.specs.Steps.{next_count}
use Rattle.platform_sessions.specs.Halls.{View}
use Rattle.script_shell.specs.Lines.{Line, lines_of, longest_line}
use Rattle.script_shell.specs.Reading.{NextLine, Tells}
use Rattle.script_shell.specs.Runs.{script_lines}
use Rattle.script_shell.specs.declared.line_input.LineStep.TheVariants.{Line as OfLine, TooLong, End}
use Rattle.script_shell.proofs.Progress.{long_line, short_line}
use Rattle.script_shell.proofs.ReadingLemmas.{some_told}
use Rattle.shell_lang.specs.ShellLines.{is_quit, shell_line}
use Rattle.session_shell.specs.Items.{ServesLine, Setting, noted}
use Rattle.session_shell.specs.Sessions.{HasServed, HasServedOver, IsLinesEnd, ServedLines, Stops, lines_end, texts}
use Rattle.session_shell.specs.declared.item.SessionItem.{SessionItem}
use Rattle.session_shell.specs.declared.session_end.SessionEnd.{SessionEnd}
use Rattle.session_shell.specs.declared.session_end.SessionEnd.TheVariants.{EndOfInput, LineTooLong, Quit}
use Rattle.session_shell.proofs.Serving.{served_more, texts_more}

-- what the lines of these bytes are, behind those that were served
abbrev pub GoesOn : Option (List ℕ) → Option (List ℕ) → List ℕ → List (List ℕ) → ℕ → Type 0
GoesOn left left' pending lines number =
    (more : List ℕ) → Tells left' more → (bytes : List ℕ) × Tells left bytes
    × (script_lines (lines_of bytes) ≡ lines ++ script_lines (lines_of (pending ++ more))) × (lines_end 1 (lines_of bytes) ≡ lines_end number (lines_of (pending ++ more)))

-- so far: these lines were served, their items are noted, all their text is written, and whatever comes stands behind them
pub record Progress (s : Setting) (left left' : Option (List ℕ)) (pending : List ℕ) (before now : View) (notes notes' : List SessionItem) (written written' : Option (List ℕ)) (number : ℕ) : Type 0 where
  pub lines : List (List ℕ)
  pub items : List SessionItem
  pub served : ServedLines s lines before now items
  pub noted_all : notes' ≡ notes ++ items
  pub wrote : Appends written written' (texts items)
  pub reads : GoesOn left left' pending lines number

-- nothing was served yet
unfoldable pub progress_start : (s : Setting) (left written : Option (List ℕ)) (before : View) (notes : List SessionItem) → Progress s left left [] before before notes notes written written 1
progress_start s left written before notes = record {
  lines = [];
  items = [];
  served = (refl, refl);
  noted_all = sym (append-nil notes);
  wrote = Appends-nil written;
  reads = λ more told. (more, told, refl, refl);
}

-- lines that go on with one that is served
pub next_served : (number : ℕ) (lines rest : List Line) (line : Line) → lines ≡ line ∷ rest → line.size ≤ longest_line → is_quit (shell_line line.text) ≡ false
    → (script_lines lines ≡ line.text ∷ script_lines rest) × (lines_end number lines ≡ lines_end (next_count number) rest)
next_served number lines rest line is short other = (rw (is, short_line line short, other) refl, rw (is, short_line line short, other) refl)

-- lines that end with `quit`
next_quits : (number : ℕ) (lines rest : List Line) (line : Line) → lines ≡ line ∷ rest → line.size ≤ longest_line → is_quit (shell_line line.text) ≡ true
    → (script_lines lines ≡ []) × (lines_end number lines ≡ Quit)
next_quits number lines rest line is short quits = (rw (is, short_line line short, quits) refl, rw (is, short_line line short, quits) refl)

-- lines that end with one that is too long
next_long : (number : ℕ) (lines rest : List Line) (line : Line) → lines ≡ line ∷ rest → longest_line < line.size → (script_lines lines ≡ []) × (lines_end number lines ≡ LineTooLong number)
next_long number lines rest line is long = (rw (is, long_line line long) refl, rw (is, long_line line long) refl)

-- the reading goes on behind a line
pub goes_on : (left left' left'' : Option (List ℕ)) (pending pending' : List ℕ) (lines : List (List ℕ)) (number : ℕ) (line : List ℕ) → GoesOn left left' pending lines number
    → NextLine left' left'' pending pending' (OfLine line) → is_quit (shell_line line) ≡ false → GoesOn left left'' pending' (lines ++ line ∷ []) (next_count number)
goes_on left left' left'' pending pending' lines number line so_far (size, short, next) other = λ more told.
    let here = next more told in
    let all = so_far here.0 here.1 in
    let step = next_served number (lines_of (pending ++ here.0)) (lines_of (pending' ++ more)) (record { text = line; size = size }) here.2 short other in
    (all.0, all.1, all.2 ∙ ap (λ w. lines ++ w) step.0 ∙ sym (append_assoc lines (line ∷ []) (script_lines (lines_of (pending' ++ more)))), all.3 ∙ step.1)

module _ {s : Setting} {left left' : Option (List ℕ)} {pending : List ℕ} {first now : View} {notes notes' : List SessionItem} {written written' : Option (List ℕ)} {number : ℕ} where
  -- a line was served, noted, and its text is written
  unfoldable pub progress_line : Progress s left left' pending first now notes notes' written written' number
      → (left'' : Option (List ℕ)) (pending' : List ℕ) (after : View) (notes'' : List SessionItem) (written'' : Option (List ℕ)) (line : List ℕ) (told : Option SessionItem)
      → NextLine left' left'' pending pending' (OfLine line) → is_quit (shell_line line) ≡ false → ServesLine s (shell_line line) now after told → notes'' ≡ notes' ++ noted told
      → Appends written' written'' (texts (noted told)) → Progress s left left'' pending' first after notes notes'' written written'' (next_count number)
  progress_line so_far left'' pending' after notes'' written'' line told next other serves is wrote =
      let P : List ℕ → Type 0 = λ w. Appends written written'' w in
      record {
        lines = so_far.lines ++ line ∷ [];
        items = so_far.items ++ noted told;
        served = served_more s so_far.lines line first now after so_far.items told so_far.served serves;
        noted_all = is ∙ ap (λ w. w ++ noted told) so_far.noted_all ∙ append_assoc notes so_far.items (noted told);
        wrote = subst P (sym (texts_more so_far.items (noted told))) (Appends-trans written written' written'' (texts so_far.items) (texts (noted told)) so_far.wrote wrote);
        reads = goes_on left left' left'' pending pending' so_far.lines number line so_far.reads next other;
      }

  -- the session ends, with this that happened behind the lines
  has_ended : (so_far : Progress s left left' pending first now notes notes' written written' number) (bytes : List ℕ) (end : SessionEnd) (others : List (List ℕ)) (after : View) (last : List SessionItem) (front : List ℕ)
      → (notes'' : List SessionItem) (written'' : Option (List ℕ)) → script_lines (lines_of bytes) ≡ so_far.lines ++ others → Stops s end others now after last front → notes'' ≡ notes' ++ last
      → Appends written' written'' front → (IsLinesEnd end → (end ≡ lines_end 1 (lines_of bytes)) × (others ≡ [])) → HasServed s bytes first after notes notes'' written written'' end
  has_ended so_far bytes end others after last front notes'' written'' all stops is wrote ended = record {
    lines = so_far.lines;
    others = others;
    between = now;
    items = so_far.items;
    last = last;
    front = front;
    first = all;
    served = so_far.served;
    stops = stops;
    noted_all = is ∙ ap (λ w. w ++ last) so_far.noted_all ∙ append_assoc notes so_far.items last;
    wrote = Appends-trans written written' written'' (texts so_far.items) front so_far.wrote wrote;
    ended = ended;
  }

  -- between two lines
  pub ends_between : Progress s left left' pending first now notes notes' written written' number → (end : SessionEnd) → (IsLinesEnd end → ⊥) → ((others : List (List ℕ)) → Stops s end others now now [] [])
      → HasServedOver s left first now notes notes' written written' end
  ends_between so_far end other stops =
      let more = some_told left' in
      let all = so_far.reads more.0 more.1 in
      let others = script_lines (lines_of (pending ++ more.0)) in
      (all.0, all.1, has_ended so_far all.0 end others now [] [] notes' written' all.2 (stops others) (sym (append-nil notes')) (Appends-nil written') (λ e. absurd (other e)))

  -- in a line, of which this happened
  pub ends_in_line : Progress s left left' pending first now notes notes' written written' number → (left'' : Option (List ℕ)) (pending' : List ℕ) (after : View) (notes'' : List SessionItem) (written'' : Option (List ℕ))
      → (line : List ℕ) (end : SessionEnd) (last : List SessionItem) (front : List ℕ) → (IsLinesEnd end → ⊥) → ((others : List (List ℕ)) → Stops s end (line ∷ others) now after last front)
      → NextLine left' left'' pending pending' (OfLine line) → is_quit (shell_line line) ≡ false → notes'' ≡ notes' ++ last → Appends written' written'' front
      → HasServedOver s left first after notes notes'' written written'' end
  ends_in_line so_far left'' pending' after notes'' written'' line end last front other stops (size, short, next) not_quit is wrote =
      let more = some_told left'' in
      let here = next more.0 more.1 in
      let all = so_far.reads here.0 here.1 in
      let rest = lines_of (pending' ++ more.0) in
      let step = next_served number (lines_of (pending ++ here.0)) rest (record { text = line; size = size }) here.2 short not_quit in (
        all.0,
        all.1,
        has_ended so_far all.0 end (line ∷ script_lines rest) after last front notes'' written'' (all.2 ∙ ap (λ w. so_far.lines ++ w) step.0) (stops (script_lines rest)) is wrote (λ e. absurd (other e)),
      )

  -- at an end of the lines
  ends_lines : Progress s left left' pending first now notes notes' written written' number → (end : SessionEnd) (more : List ℕ) → Stops s end [] now now [] [] → Tells left' more
      → (script_lines (lines_of (pending ++ more)) ≡ []) × (lines_end number (lines_of (pending ++ more)) ≡ end) → HasServedOver s left first now notes notes' written written' end
  ends_lines so_far end more stops told (ends, is) =
      let all = so_far.reads more told in
      (all.0, all.1, has_ended so_far all.0 end [] now [] [] notes' written' (all.2 ∙ ap (λ w. so_far.lines ++ w) ends) stops (sym (append-nil notes')) (Appends-nil written') (λ e. (sym (all.3 ∙ is), refl)))

  -- at a line that is too long
  pub ends_long : Progress s left left' pending first now notes notes' written written' number → (left'' : Option (List ℕ)) (pending' : List ℕ) → NextLine left' left'' pending pending' TooLong
      → HasServedOver s left first now notes notes' written written' (LineTooLong number)
  ends_long so_far left'' pending' (more, line, lines, told, long, is) = ends_lines so_far (LineTooLong number) more (refl, (refl, refl)) told (next_long number (lines_of (pending ++ more)) lines line is long)

  -- behind the last line
  pub ends_here : Progress s left left' pending first now notes notes' written written' number → (left'' : Option (List ℕ)) (pending' : List ℕ) → NextLine left' left'' pending pending' End
      → HasServedOver s left first now notes notes' written written' EndOfInput
  ends_here so_far left'' pending' (more, told, none) = ends_lines so_far EndOfInput more (refl, (refl, refl)) told (ap script_lines none, ap (lines_end number) none)

  -- at `quit`
  pub ends_quit : Progress s left left' pending first now notes notes' written written' number → (left'' : Option (List ℕ)) (pending' line : List ℕ) → NextLine left' left'' pending pending' (OfLine line)
      → is_quit (shell_line line) ≡ true → HasServedOver s left first now notes notes' written written' Quit
  ends_quit so_far left'' pending' line (size, short, next) quits =
      let more = some_told left'' in
      let here = next more.0 more.1 in
      ends_lines so_far Quit here.0 (refl, (refl, refl)) here.1 (next_quits number (lines_of (pending ++ here.0)) (lines_of (pending' ++ more.0)) (record { text = line; size = size }) here.2 short quits)
