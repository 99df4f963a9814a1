-- A line that ends a session.
use Rattle.std.proofs.Common.{◌≡◌, ℕ, List, [], ◌∷◌, ◌++◌, refl, sym, subst, append-nil, false, Ok, Err, Some, inl, inr, take}
use Rattle.std.specs.Prelude.{Result}
use Rattle.std.specs.declared.option.Option.{Option}
use Rattle.std.specs.Io.KnownBytes.{Appends}
use Rattle.std.proofs.KnownBytes.{Appends-nil}
use Rattle.platform_sessions.specs.Halls.{View}
use Rattle.script_shell.specs.Reading.{NextLine}
use Rattle.script_shell.specs.declared.line_input.LineStep.TheVariants.{Line as OfLine}
use Rattle.shell_lang.specs.ShellLines.{Asked, is_quit, shell_line}
use Rattle.session_shell.specs.Answers.{AnswersLine, Serves, TellsItem, end_of}
use Rattle.session_shell.specs.Items.{ServesLine, Setting}
use Rattle.session_shell.specs.Sessions.{FaultsAt, HasServedOver, item_text, read_faults_after, write_faults_after}
use Rattle.session_shell.specs.declared.item.SessionItem.{SessionItem}
use Rattle.session_shell.specs.declared.line_stop.LineStop.{LineStop}
use Rattle.session_shell.specs.declared.line_stop.LineStop.TheVariants.{JournalFull as NoRoom, NoMemory as NoMemoryLeft}
use Rattle.session_shell.specs.declared.session_end.SessionEnd.{SessionEnd}
use Rattle.session_shell.specs.declared.session_end.SessionEnd.TheVariants.{EndOfInput, Quit, ReadFault, WriteFault, JournalFull, LineTooLong, NoMemory}
use Rattle.session_shell.proofs.Progress.{Progress, ends_in_line}
use Rattle.session_shell.proofs.Serving.{text_of_one}

module _ {s : Setting} {left left' : Option (List ℕ)} {pending : List ℕ} {first now : View} {notes notes' : List SessionItem} {written written' : Option (List ℕ)} {number : ℕ} where
  -- a line that isn't answered ends the session
  pub ends_unanswered : Progress s left left' pending first now notes notes' written written' number → (left'' : Option (List ℕ)) (pending' : List ℕ) (after : View) (notes'' : List SessionItem) (written'' : Option (List ℕ))
      → (line : List ℕ) (end : SessionEnd) → NextLine left' left'' pending pending' (OfLine line) → is_quit (shell_line line) ≡ false → AnswersLine s (shell_line line) now after notes' notes'' written' written'' (Err end)
      → HasServedOver s left first after notes notes'' written written'' end
  ends_unanswered so_far left'' pending' after notes'' written'' line EndOfInput next other answer = absurd answer
  ends_unanswered so_far left'' pending' after notes'' written'' line Quit next other answer = absurd answer
  ends_unanswered so_far left'' pending' after notes'' written'' line ReadFault next other answer = absurd answer
  ends_unanswered so_far left'' pending' after notes'' written'' line (LineTooLong at) next other answer = absurd answer
  ends_unanswered so_far left'' pending' after notes'' written'' line WriteFault next other (last, front, writes, is, wrote) =
      ends_in_line so_far left'' pending' after notes'' written'' line WriteFault last front (λ e. e) (λ others. writes) next other is wrote
  ends_unanswered so_far left'' pending' after notes'' written'' line JournalFull next other (fills, (is, same)) =
      let P : Option (List ℕ) → Type 0 = λ w. Appends written' w [] in
      ends_in_line so_far left'' pending' after notes'' written'' line JournalFull [] [] (λ e. e) (λ others. (fills, (refl, refl))) next other (subst (λ w. w ≡ notes' ++ []) (sym is) (sym (append-nil notes'))) (subst P (sym same) (Appends-nil written'))
  ends_unanswered so_far left'' pending' after notes'' written'' line NoMemory next other (wants, (is, same)) =
      let P : Option (List ℕ) → Type 0 = λ w. Appends written' w [] in
      ends_in_line so_far left'' pending' after notes'' written'' line NoMemory [] [] (λ e. e) (λ others. (inr wants, (refl, refl))) next other (subst (λ w. w ≡ notes' ++ []) (sym is) (sym (append-nil notes'))) (subst P (sym same) (Appends-nil written'))

-- such a line is no failure of the source
pub no_fault_unanswered : (end : SessionEnd) (s : Setting) (asked : Asked) (now after : View) (notes notes' : List SessionItem) (written written' : Option (List ℕ)) → AnswersLine s asked now after notes notes' written written' (Err end)
    → (left left' : Option (List ℕ)) (before last : View) (n n' : List SessionItem) (w w' : Option (List ℕ)) → FaultsAt end s left left' before last n n' w w'
no_fault_unanswered EndOfInput s asked now after notes notes' written written' answer left left' before last n n' w w' = tt
no_fault_unanswered Quit s asked now after notes notes' written written' answer left left' before last n n' w w' = tt
no_fault_unanswered ReadFault s asked now after notes notes' written written' answer left left' before last n n' w w' = absurd answer
no_fault_unanswered WriteFault s asked now after notes notes' written written' answer left left' before last n n' w w' = tt
no_fault_unanswered JournalFull s asked now after notes notes' written written' answer left left' before last n n' w w' = tt
no_fault_unanswered (LineTooLong at) s asked now after notes notes' written written' answer left left' before last n n' w w' = tt
no_fault_unanswered NoMemory s asked now after notes notes' written written' answer left left' before last n n' w w' = tt

pub reads_unanswered : (end : SessionEnd) (s : Setting) (asked : Asked) (now after : View) (notes notes' : List SessionItem) (written written' : Option (List ℕ)) (count : ℕ) → AnswersLine s asked now after notes notes' written written' (Err end)
    → read_faults_after count end ≡ count
reads_unanswered EndOfInput s asked now after notes notes' written written' count answer = refl
reads_unanswered Quit s asked now after notes notes' written written' count answer = refl
reads_unanswered ReadFault s asked now after notes notes' written written' count answer = absurd answer
reads_unanswered WriteFault s asked now after notes notes' written written' count answer = refl
reads_unanswered JournalFull s asked now after notes notes' written written' count answer = refl
reads_unanswered (LineTooLong at) s asked now after notes notes' written written' count answer = refl
reads_unanswered NoMemory s asked now after notes notes' written written' count answer = refl

-- ---- a line that stops its session

pub stops_untold : (s : Setting) (asked : Asked) (before after : View) (stop : LineStop) (notes : List SessionItem) (written : Option (List ℕ)) → Serves s asked before after (Err stop)
    → AnswersLine s asked before after notes notes written written (Err (end_of stop))
stops_untold s asked before after NoRoom notes written fills = (fills, (refl, refl))
stops_untold s asked before after NoMemoryLeft notes written starves = (inl starves, (refl, refl))

pub no_write_fault : (count : ℕ) (stop : LineStop) → write_faults_after count (end_of stop) ≡ count
no_write_fault count NoRoom = refl
no_write_fault count NoMemoryLeft = refl

-- ---- a line with a reply, once it is noted and its text written, or not

pub told_answers : (s : Setting) (asked : Asked) (before after : View) (item : SessionItem) (notes notes' : List SessionItem) (written written' : Option (List ℕ)) (answer : Result (Unit {0}) SessionEnd)
    → ServesLine s asked before after (Some item) → TellsItem item notes notes' written written' answer → AnswersLine s asked before after notes notes' written written' answer
told_answers s asked before after item notes notes' written written' (Ok done) serves (is, wrote) =
    let P : List ℕ → Type 0 = λ w. Appends written written' w in (Some item, serves, is, subst P (sym (text_of_one item)) wrote)
told_answers s asked before after item notes notes' written written' (Err WriteFault) serves (is, (count, below, wrote)) =
    (item ∷ [], take count (item_text item), (item, count, serves, refl, below, refl), is, wrote)
told_answers s asked before after item notes notes' written written' (Err NoMemory) serves (is, same) = (inr (item, serves), (is, same))
told_answers s asked before after item notes notes' written written' (Err EndOfInput) serves tells = absurd tells
told_answers s asked before after item notes notes' written written' (Err Quit) serves tells = absurd tells
told_answers s asked before after item notes notes' written written' (Err ReadFault) serves tells = absurd tells
told_answers s asked before after item notes notes' written written' (Err JournalFull) serves tells = absurd tells
told_answers s asked before after item notes notes' written written' (Err (LineTooLong at)) serves tells = absurd tells
