-- Lemmas on how a run ends.
use Rattle.std.proofs.Common.{◌≡◌, ℕ, List, [], ◌∷◌, ◌++◌, Bool, true, false, cond, refl, ap, sym, ◌∙◌, Ok, inl, inr}
use Rattle.std.specs.Prelude.{◌⊎◌, ◌||◌}
use Rattle.std.proofs.lemmas.List.Folds.{list_any-append}
use Rattle.std.proofs.Math.Nat.{le_refl}
use Rattle.std.specs.declared.option.Option.{Option}
use Rattle.fault_count.specs.Steps.{Rose, next_count}
use Rattle.turn_runner.specs.declared.settle_fault.SettleFault.{SettleFault}
use Rattle.turn_runner.specs.declared.settle_fault.SettleFault.TheVariants.{Unsettled as StillDue, JournalFull as NoRoom, OutOfMemory}
use Rattle.script_shell.specs.declared.form.Form.{Form}
use Rattle.script_shell.specs.declared.form.ScriptOptions.{ScriptOptions}
use Rattle.script_shell.specs.declared.status.Status.{Status}
use Rattle.script_shell.specs.declared.status.Status.TheVariants.{Done, Usage, ReadFault, WriteFault, NoMemory, JournalFull, LineTooLong, Unsettled, Refused}
use Rattle.script_shell.specs.LineTexts.{Answer, IsRefusedLast, has_refusal, is_refused}
use Rattle.script_shell.specs.Lines.{Line, is_too_long, lines_of}
use Rattle.platform_hall.specs.Cores.{CoreView}
use Rattle.shell_lang.specs.ShellLines.{shell_line, is_quit}
use Rattle.script_shell.specs.Asks.{Setting}
use Rattle.script_shell.specs.Cuts.{CutsFirst}
use Rattle.script_shell.specs.Runs.{Ends, EndsScript, HasRun, HasRunOver, IsCutOff, IsRefusedIn, are_short, ending, script_lines}
use Rattle.script_shell.specs.Statuses.{HasCause, IsEnding, status_of, write_faults_after}

quits_or : (q : Bool) (status : Status) → status ≡ Done → cond q Done status ≡ Done
quits_or true status done = refl
quits_or false status done = done

short_step : (number : ℕ) (line : Line) (lines : List Line) → (are_short lines ≡ true → ending (next_count number) lines ≡ Done) → (long : Bool) → long ≡ is_too_long line
    → are_short (line ∷ lines) ≡ true → ending number (line ∷ lines) ≡ Done
short_step number line lines rest true is short = let no = rw (← is) at short in cc
short_step number line lines rest false is short =
    let later = rw (← is) at short in rw (← is) (quits_or (is_quit (shell_line line.text)) (ending (next_count number) lines) (rest later))

-- where no line is too long the run is done
pub ending_short : (number : ℕ) (lines : List Line) → are_short lines ≡ true → ending number lines ≡ Done
ending_short number [] short = refl
ending_short number (line ∷ lines) short = short_step number line lines (ending_short (next_count number) lines) (is_too_long line) refl short

at_end : (s : Setting) (o : ScriptOptions) (bytes : List ℕ) (before after : CoreView) (written written' : Option (List ℕ)) (status : Status) → HasRun s o bytes before after written written' status → IsEnding status → Ends bytes status
at_end s o bytes before after written written' status ran ending_there =
    let ended = ran.ended ending_there in record { at_end = ending_there; which = ended.0; short = λ short. ended.0 ∙ ending_short 1 (lines_of bytes) short }

-- the line behind those that ran is cut off
cut_off : (s : Setting) (o : ScriptOptions) (bytes : List ℕ) (before after : CoreView) (written written' : Option (List ℕ)) (status : Status) (fault : SettleFault) → (ran : HasRun s o bytes before after written written' status)
    → CutsFirst s ran.others fault ran.between after ran.later → IsCutOff s before (script_lines (lines_of bytes)) fault
cut_off s o bytes before after written written' status fault ran cut = (ran.lines, ran.others, ran.between, after, ran.commands, ran.later, ran.answers, ran.first, ran.ran, cut)

-- the last of these lines is refused
last_refused : (number : ℕ) (answers : List Answer) → IsRefusedLast number answers → has_refusal answers ≡ true
last_refused number answers (earlier, last, is, none, refused, counted) =
    ap has_refusal is ∙ list_any-append is_refused earlier (last ∷ []) ∙ ap (λ b. b || has_refusal (last ∷ [])) none ∙ ap (λ b. b || false) refused

-- a line that ran is refused
refused_in : (s : Setting) (o : ScriptOptions) (bytes : List ℕ) (before after : CoreView) (written written' : Option (List ℕ)) (status : Status) (number : ℕ) → (ran : HasRun s o bytes before after written written' status)
    → IsRefusedLast number ran.answers → IsRefusedIn s before (script_lines (lines_of bytes))
refused_in s o bytes before after written written' status number ran last = (ran.lines, ran.others, ran.between, ran.commands, ran.answers, ran.first, ran.ran, last_refused number ran.answers last)

-- a run without another cause came to its end
ends_or_lacks : (s : Setting) (o : ScriptOptions) (bytes : List ℕ) (before after : CoreView) (written written' : Option (List ℕ)) (status : Status) (form : Form) (R W : Type 0)
    → HasRun s o bytes before after written written' status → HasCause status (Ok form) R W → (R → ⊥) → (W → ⊥)
    → (IsCutOff s before (script_lines (lines_of bytes)) NoRoom → ⊥) → (IsCutOff s before (script_lines (lines_of bytes)) StillDue → ⊥)
    → (o.strict ≡ true → IsRefusedIn s before (script_lines (lines_of bytes)) → ⊥) → (status ≡ NoMemory) ⊎ Ends bytes status
ends_or_lacks s o bytes before after written written' Done form R W ran cause reads writes room turns accepted = inr (at_end s o bytes before after written written' Done ran tt)
ends_or_lacks s o bytes before after written written' (Usage at) form R W ran cause reads writes room turns accepted = absurd cc
ends_or_lacks s o bytes before after written written' ReadFault form R W ran cause reads writes room turns accepted = absurd (reads cause)
ends_or_lacks s o bytes before after written written' WriteFault form R W ran cause reads writes room turns accepted = absurd (writes cause)
ends_or_lacks s o bytes before after written written' NoMemory form R W ran cause reads writes room turns accepted = inl refl
ends_or_lacks s o bytes before after written written' JournalFull form R W ran cause reads writes room turns accepted =
    absurd (room (cut_off s o bytes before after written written' JournalFull NoRoom ran ran.stops.0))
ends_or_lacks s o bytes before after written written' (LineTooLong line) form R W ran cause reads writes room turns accepted = inr (at_end s o bytes before after written written' (LineTooLong line) ran tt)
ends_or_lacks s o bytes before after written written' Unsettled form R W ran cause reads writes room turns accepted =
    absurd (turns (cut_off s o bytes before after written written' Unsettled StillDue ran ran.stops.0))
ends_or_lacks s o bytes before after written written' (Refused line) form R W ran cause reads writes room turns accepted =
    absurd (accepted ran.refused.0 (refused_in s o bytes before after written written' (Refused line) line ran ran.refused.1))

-- where neither end fails
pub run_ends_script : (s : Setting) (o : ScriptOptions) (left written written' : Option (List ℕ)) (before after : CoreView) (status : Status) (form : Form) (R W : Type 0) → HasRunOver s o left before after written written' status
    → HasCause status (Ok form) R W → (R → ⊥) → (W → ⊥) → EndsScript s o left before status
run_ends_script s o left written written' before after status form R W (bytes, told, ran) cause reads writes =
    (bytes, told, λ room turns accepted. ends_or_lacks s o bytes before after written written' status form R W ran cause reads writes room turns accepted)

-- a line that is cut off is no failure of the sink
pub no_write_fault_cut : (count : ℕ) (fault : SettleFault) → write_faults_after count (status_of fault) ≡ count
no_write_fault_cut count StillDue = refl
no_write_fault_cut count NoRoom = refl
no_write_fault_cut count OutOfMemory = refl

-- the next count has risen
pub rose_next : (before now : ℕ) → now ≡ next_count before → Rose before now
rose_next before now is = rw is (le_refl (next_count before))
