-- Lemmas on a line that ends the run.
use Rattle.std.proofs.Common.{◌≡◌, ℕ, List, Bool, subst, sym, refl, true, false, Ok, Err, inl, inr}
use Rattle.std.specs.Prelude.{◌&&◌}
use Rattle.std.specs.declared.option.Option.{Option}
use Rattle.fault_count.specs.Steps.{Rose}
use Rattle.platform_hall.specs.Cores.{CoreView}
use Rattle.shell_lang.specs.declared.shell_reply.ShellReply.{ShellReply}
use Rattle.shell_lang.specs.ShellLines.{Asked, shell_line, is_quit}
use Rattle.turn_runner.specs.declared.settle_fault.SettleFault.{SettleFault}
use Rattle.turn_runner.specs.declared.settle_fault.SettleFault.TheVariants.{Unsettled as StillDue, JournalFull as NoRoom, OutOfMemory}
use Rattle.script_shell.specs.declared.line_input.LineStep.TheVariants.{Line as OfLine}
use Rattle.script_shell.specs.declared.form.Form.{Form}
use Rattle.script_shell.specs.declared.form.ScriptOptions.{ScriptOptions}
use Rattle.script_shell.specs.declared.status.Status.{Status}
use Rattle.script_shell.specs.declared.status.Status.TheVariants.{Done, Usage, ReadFault, WriteFault, NoMemory, JournalFull, LineTooLong, Unsettled, Refused}
use Rattle.script_shell.specs.Answers.{AnswersLine}
use Rattle.script_shell.specs.Asks.{Setting}
use Rattle.script_shell.specs.Carries.{RunsAsked}
use Rattle.script_shell.specs.Reading.{NextLine}
use Rattle.script_shell.specs.LineTexts.{has_refusal, is_told_refusal}
use Rattle.script_shell.specs.Runs.{FaultsAt, HasRunOver}
use Rattle.script_shell.specs.Statuses.{HasCause, read_faults_after, status_of, write_faults_after}
use Rattle.script_shell.proofs.EndingLemmas.{rose_next}
use Rattle.script_shell.proofs.Progress.{Progress, run_cuts, run_lacks_memory, run_writes_front}

-- a line that is cut off
pub cut_answer : (s : Setting) (echo : Bool) (line : List ℕ) (asked : Asked) (fault : SettleFault) (before after : CoreView) (written : Option (List ℕ)) → RunsAsked s asked before (Err fault) after
    → AnswersLine s echo line asked (Err (status_of fault)) before after written written
cut_answer s echo line asked StillDue before after written cut = (cut, refl)
cut_answer s echo line asked NoRoom before after written cut = (cut, refl)
cut_answer s echo line asked OutOfMemory before after written cut = (inl cut, refl)

-- a line that isn't answered ends the run
pub run_unanswered : {s : Setting} {o : ScriptOptions} {left left' : Option (List ℕ)} {pending : List ℕ} {first now : CoreView} {written written' : Option (List ℕ)} {number : ℕ} → (so_far : Progress s o left left' pending first now written written' number)
    → (left'' : Option (List ℕ)) (pending' : List ℕ) (after : CoreView) (written'' : Option (List ℕ)) (line : List ℕ) (status : Status) → (o.strict ≡ true → has_refusal so_far.answers ≡ false)
    → NextLine left' left'' pending pending' (OfLine line) → is_quit (shell_line line) ≡ false → AnswersLine s o.echo line (shell_line line) (Err status) now after written' written'' → HasRunOver s o left first after written written'' status
run_unanswered {s} {o} {left} {left'} {pending} {first} {now} {written} {written'} {number} so_far left'' pending' after written'' line Done unrefused next other answer = absurd answer
run_unanswered {s} {o} {left} {left'} {pending} {first} {now} {written} {written'} {number} so_far left'' pending' after written'' line (Usage at) unrefused next other answer = absurd answer
run_unanswered {s} {o} {left} {left'} {pending} {first} {now} {written} {written'} {number} so_far left'' pending' after written'' line ReadFault unrefused next other answer = absurd answer
run_unanswered {s} {o} {left} {left'} {pending} {first} {now} {written} {written'} {number} so_far left'' pending' after written'' line WriteFault unrefused next other (told, count, runs, below, wrote) =
    run_writes_front so_far left'' pending' after written'' line told count unrefused next other runs below wrote
run_unanswered {s} {o} {left} {left'} {pending} {first} {now} {written} {written'} {number} so_far left'' pending' after written'' line NoMemory unrefused next other (inl cut, same) =
    let P : Option (List ℕ) → Type 0 = λ w. HasRunOver s o left first after written w NoMemory in subst P (sym same) (run_cuts so_far left'' pending' after line OutOfMemory unrefused next other cut)
run_unanswered {s} {o} {left} {left'} {pending} {first} {now} {written} {written'} {number} so_far left'' pending' after written'' line NoMemory unrefused next other (inr (told, runs, some), same) =
    let P : Option (List ℕ) → Type 0 = λ w. HasRunOver s o left first after written w NoMemory in subst P (sym same) (run_lacks_memory so_far left'' pending' after line told unrefused next other runs some)
run_unanswered {s} {o} {left} {left'} {pending} {first} {now} {written} {written'} {number} so_far left'' pending' after written'' line JournalFull unrefused next other (cut, same) =
    let P : Option (List ℕ) → Type 0 = λ w. HasRunOver s o left first after written w JournalFull in subst P (sym same) (run_cuts so_far left'' pending' after line NoRoom unrefused next other cut)
run_unanswered {s} {o} {left} {left'} {pending} {first} {now} {written} {written'} {number} so_far left'' pending' after written'' line (LineTooLong at) unrefused next other answer = absurd answer
run_unanswered {s} {o} {left} {left'} {pending} {first} {now} {written} {written'} {number} so_far left'' pending' after written'' line Unsettled unrefused next other (cut, same) =
    let P : Option (List ℕ) → Type 0 = λ w. HasRunOver s o left first after written w Unsettled in subst P (sym same) (run_cuts so_far left'' pending' after line StillDue unrefused next other cut)
run_unanswered {s} {o} {left} {left'} {pending} {first} {now} {written} {written'} {number} so_far left'' pending' after written'' line (Refused at) unrefused next other answer = absurd answer

-- such a line is no failure of the source
pub no_fault_unanswered : (status : Status) (s : Setting) (o : ScriptOptions) (line : List ℕ) (asked : Asked) (now later before after : CoreView) (w w' left left' written written' : Option (List ℕ)) → AnswersLine s o.echo line asked (Err status) now later w w'
    → FaultsAt status s o left left' before after written written'
no_fault_unanswered Done s o line asked now later before after w w' left left' written written' answer = tt
no_fault_unanswered (Usage at) s o line asked now later before after w w' left left' written written' answer = tt
no_fault_unanswered ReadFault s o line asked now later before after w w' left left' written written' answer = absurd answer
no_fault_unanswered WriteFault s o line asked now later before after w w' left left' written written' answer = tt
no_fault_unanswered NoMemory s o line asked now later before after w w' left left' written written' answer = tt
no_fault_unanswered JournalFull s o line asked now later before after w w' left left' written written' answer = tt
no_fault_unanswered (LineTooLong at) s o line asked now later before after w w' left left' written written' answer = tt
no_fault_unanswered Unsettled s o line asked now later before after w w' left left' written written' answer = tt
no_fault_unanswered (Refused at) s o line asked now later before after w w' left left' written written' answer = tt

pub reads_unanswered : (status : Status) (s : Setting) (o : ScriptOptions) (line : List ℕ) (asked : Asked) (now later : CoreView) (w w' : Option (List ℕ)) (count : ℕ) → AnswersLine s o.echo line asked (Err status) now later w w' → read_faults_after count status ≡ count
reads_unanswered Done s o line asked now later w w' count answer = refl
reads_unanswered (Usage at) s o line asked now later w w' count answer = refl
reads_unanswered ReadFault s o line asked now later w w' count answer = absurd answer
reads_unanswered WriteFault s o line asked now later w w' count answer = refl
reads_unanswered NoMemory s o line asked now later w w' count answer = refl
reads_unanswered JournalFull s o line asked now later w w' count answer = refl
reads_unanswered (LineTooLong at) s o line asked now later w w' count answer = refl
reads_unanswered Unsettled s o line asked now later w w' count answer = refl
reads_unanswered (Refused at) s o line asked now later w w' count answer = refl

-- the cause of the end is the sink's failure, or stands with what ran
pub cause_unanswered : (status : Status) (s : Setting) (o : ScriptOptions) (line : List ℕ) (asked : Asked) (now later : CoreView) (w w' : Option (List ℕ)) (form : Form) (reads : Type 0) (count count' : ℕ) → AnswersLine s o.echo line asked (Err status) now later w w'
    → count' ≡ write_faults_after count status → HasCause status (Ok form) reads (Rose count count')
cause_unanswered Done s o line asked now later w w' form reads count count' answer is = tt
cause_unanswered (Usage at) s o line asked now later w w' form reads count count' answer is = absurd answer
cause_unanswered ReadFault s o line asked now later w w' form reads count count' answer is = absurd answer
cause_unanswered WriteFault s o line asked now later w w' form reads count count' answer is = rose_next count count' is
cause_unanswered NoMemory s o line asked now later w w' form reads count count' answer is = tt
cause_unanswered JournalFull s o line asked now later w w' form reads count count' answer is = tt
cause_unanswered (LineTooLong at) s o line asked now later w w' form reads count count' answer is = tt
cause_unanswered Unsettled s o line asked now later w w' form reads count count' answer is = tt
cause_unanswered (Refused at) s o line asked now later w w' form reads count count' answer is = tt

-- where the run doesn't end behind a line, it isn't refused, or the run isn't strict
pub goes_on_unrefused : (strict : Bool) (told : Option ShellReply) → (strict && is_told_refusal told) ≡ false → strict ≡ true → is_told_refusal told ≡ false
goes_on_unrefused true told ends auto = ends
goes_on_unrefused false told ends auto = absurd cc

pub stops_refused : (strict : Bool) (told : Option ShellReply) → (strict && is_told_refusal told) ≡ true → (strict ≡ true) × (is_told_refusal told ≡ true)
stops_refused true told ends = (refl, ends)
stops_refused false told ends = absurd cc
