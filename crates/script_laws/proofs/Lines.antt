-- A line is told one thing and leaves one platform, and where one run carries it out none is cut off at it, but for want of memory.
use Rattle.std.proofs.Common.{◌≡◌, ℕ, List, length, Bool, true, false, ap, sym, ◌∙◌, refl, subst, Option, Some, None, Ok, Err, inl, inr}
use Rattle.std.specs.Prelude.{Result, nat_le}
use Rattle.std.proofs.lemmas.Bool.{false≢true}
use Rattle.callback_orders.specs.declared.callback.Outcome.{Outcome}
use Rattle.callback_orders.specs.declared.callback.Outcome.TheVariants.{Done as IsDone, Refused as IsRefused, NoMemory}
use Rattle.call_moves.specs.Evaluations.{Meaning}
use Rattle.kind_trait.specs.Meanings.{Told}
use Rattle.platform_hall.proofs.Settlings.{HasLegal}
use Rattle.platform_hall.specs.Calls.{CallsOnOne}
use Rattle.platform_hall.specs.Cores.{CoreView}
use Rattle.platform_hall.specs.Platforms.{BeginsTurn, TakesCommand, world}
use Rattle.platform_hall.specs.declared.finish_fault.FinishFault.{FinishFault}
use Rattle.platform_hall.specs.declared.finish_fault.FinishFault.TheVariants.{NoTurn as NoSuchTurn, OutOfMemory as NoMemoryLeft}
use Rattle.prop_map.specs.declared.properties.Property.{Property}
use Rattle.scr_calls.specs.declared.call_fault.CallFault.{CallFault}
use Rattle.scr_calls.specs.declared.call_fault.CallFault.TheVariants.{CallTooLong, Core, Gone, NoObject, OutOfMemory as CallNoMemory, Pending, Refused as Declined, Settle as OfSettling}
use Rattle.scr_world.specs.declared.command.Command.{Command}
use Rattle.scr_world.specs.declared.reply.CoreFault.{CoreFault}
use Rattle.scr_world.specs.declared.reply.CoreFault.TheVariants.{JournalFull as InCore, OutOfMemory as CoreNoMemory}
use Rattle.scr_world.specs.declared.reply.Reply.{Reply}
use Rattle.script_shell.proofs.LineGrowth.{grew_asks}
use Rattle.script_shell.specs.Asks.{Asks, AsksBegin, AsksFinish, Manually, Setting, TellsBegun, TellsFinished, command_reply, held_reply, line_for}
use Rattle.script_shell.specs.Calling.{AsksCall, CutsCall, TellsCall}
use Rattle.script_shell.specs.Cuts.{Cuts, CutsAsked, CutsBegin, CutsCommand, CutsFinish, CutsSettle}
use Rattle.script_shell.specs.Refusals.{IsAnswer}
use Rattle.script_shell.specs.Requests.{AnswersFound, AnswersSized, AnswersTarget, FindsPath, greatest_body, request_of, told_answer}
use Rattle.script_shell.specs.Rests.{RestsBy}
use Rattle.script_shell.specs.Runs.{RunsLine}
use Rattle.script_shell.specs.Wiring.{bundle_reply}
use Rattle.shell_lang.specs.ShellLines.{Asked}
use Rattle.shell_lang.specs.declared.shell_line.ShellLine.TheVariants.{Begin, BundleWiring as AskBundleWiring, Call, Command as Commanded, Finish, Held as AskHeld, Http, Settle, Wiring as AskWiring}
use Rattle.shell_lang.specs.declared.shell_reply.ShellReply.{ShellReply}
use Rattle.shell_lang.specs.declared.shell_reply.ShellReply.TheVariants.{Begun, Turns, Wiring}
use Rattle.turn_runner.specs.declared.settle_fault.SettleFault.{SettleFault}
use Rattle.turn_runner.specs.declared.settle_fault.SettleFault.TheVariants.{JournalFull, OutOfMemory, Unsettled}
use Rattle.turn_work.specs.declared.work.TurnWork.{TurnWork}
use Rattle.wiring_reader.proofs.OneTelling.{one_bundle_wiring, one_wiring}
use Rattle.wiring_reader.specs.declared.wiring_line.WiringLine.{WiringLine}
use Rattle.script_laws.proofs.Calls.{calls_once}
use Rattle.script_laws.proofs.Commands.{takes_once}
use Rattle.script_laws.proofs.Held.{held_once}
use Rattle.script_laws.proofs.Parts.{err_same, never_some, ok_or_err, ok_same, some_same}
use Rattle.script_laws.proofs.Requests.{http_once, path_once}
use Rattle.script_laws.proofs.Settlings.{settled_once}
use Rattle.script_laws.proofs.Turns.{begun_once, finished_once}

-- ---- what a line asks

-- what is told is no want of memory
answered : {T : Type 0} (answer : Result T CoreFault) → IsAnswer answer → answer ≡ Err CoreNoMemory → ⊥
answered {T} answer told is = let P : Result T CoreFault → Type 0 = IsAnswer in let no : false ≡ true = subst P is told in false≢true no

replied : (told told' : Option ShellReply) (reply reply' : ShellReply) → told ≡ Some reply → told' ≡ Some reply' → reply ≡ reply' → told ≡ told'
replied told told' reply reply' is is' same = is ∙ ap (λ (r : ShellReply). Some r) same ∙ sym is'

-- ---- `begin` and `finish`

told_begun : (p : CoreView) (taken : Option ℕ) (reply reply' : ShellReply) → TellsBegun p taken reply → TellsBegun p taken reply' → reply ≡ reply'
told_begun p None reply reply' is is' = is ∙ sym is'
told_begun p (Some turn) reply reply' (work, runs, is) (work', runs', is') =
    let same : work ≡ work' = some_same work work' (sym runs ∙ runs') in is ∙ ap (λ (w : TurnWork). Begun (line_for w)) same ∙ sym is'

begin_once : (before one other : CoreView) (reply reply' : ShellReply) → HasLegal before → AsksBegin before reply one → AsksBegin before reply' other → (reply ≡ reply') × (one ≡ other)
begin_once before one other reply reply' legal (taken, begins, tells) (taken', begins', tells') =
    let all = begun_once before one other (Ok taken) (Ok taken') legal (ok_or_err taken CoreNoMemory) (ok_or_err taken' CoreNoMemory) begins begins' in
    let same : taken ≡ taken' = ok_same taken taken' all.0 in
    let there : TellsBegun other taken reply = subst (λ (p : CoreView). TellsBegun p taken reply) all.1 tells in
    (told_begun other taken' reply reply' (subst (λ (t : Option ℕ). TellsBegun other t reply) same there) tells', all.1)

told_finished : (turn : ℕ) (answer : Result Outcome FinishFault) (reply reply' : ShellReply) → TellsFinished turn answer reply → TellsFinished turn answer reply' → reply ≡ reply'
told_finished turn (Ok IsDone) reply reply' is is' = is ∙ sym is'
told_finished turn (Ok IsRefused) reply reply' is is' = is ∙ sym is'
told_finished turn (Ok NoMemory) reply reply' is is' = absurd is
told_finished turn (Err NoSuchTurn) reply reply' is is' = is ∙ sym is'
told_finished turn (Err NoMemoryLeft) reply reply' is is' = absurd is

finish_once : (refuses : List ℕ → List Property → Told → Bool) (turn : ℕ) (before one other : CoreView) (reply reply' : ShellReply) → HasLegal before
    → AsksFinish refuses turn before reply one → AsksFinish refuses turn before reply' other → (reply ≡ reply') × (one ≡ other)
finish_once refuses turn before one other reply reply' legal (answer, finishes, tells) (answer', finishes', tells') =
    let P : Result Outcome FinishFault → Type 0 = λ a. TellsFinished turn a reply in
    let Q : Result Outcome FinishFault → Type 0 = λ a. TellsFinished turn a reply' in
    let all = finished_once refuses before one other turn answer answer' legal (λ is. subst P is tells) (λ is. subst P is tells) (λ is. subst Q is tells') (λ is. subst Q is tells') finishes finishes' in
    (told_finished turn answer' reply reply' (subst P all.0 tells) tells', all.1)

manually_once : (manual : Bool) (asks : CoreView → ShellReply → CoreView → Type 0) (before one other : CoreView) (reply reply' : ShellReply)
    → (asks before reply one → asks before reply' other → (reply ≡ reply') × (one ≡ other)) → Manually manual asks before reply one → Manually manual asks before reply' other → (reply ≡ reply') × (one ≡ other)
manually_once true asks before one other reply reply' once asked asked' = once asked asked'
manually_once false asks before one other reply reply' once (is, same) (is', same') = (is ∙ sym is', same ∙ sym same')

-- ---- `call`

told_call : (answer : Result (List ℕ) CallFault) (reply reply' : ShellReply) → TellsCall answer reply → TellsCall answer reply' → reply ≡ reply'
told_call (Ok text) reply reply' is is' = is ∙ sym is'
told_call (Err (Gone front)) reply reply' is is' = is ∙ sym is'
told_call (Err (NoObject front)) reply reply' is is' = is ∙ sym is'
told_call (Err (Pending front)) reply reply' is is' = is ∙ sym is'
told_call (Err (Declined front nested)) reply reply' is is' = is ∙ sym is'
told_call (Err (CallTooLong front nested)) reply reply' is is' = is ∙ sym is'
told_call (Err (Core fault)) reply reply' (told, is) (told', is') = is ∙ sym is'
told_call (Err (OfSettling fault)) reply reply' is is' = absurd is
told_call (Err CallNoMemory) reply reply' is is' = absurd is

call_once : (s : Setting) (bundle service : ℕ) (request : List ℕ) (before one other : CoreView) (reply reply' : ShellReply) → HasLegal before
    → AsksCall s.refuses s.next bundle service request before reply one → AsksCall s.refuses s.next bundle service request before reply' other → (reply ≡ reply') × (one ≡ other)
call_once s bundle service request before one other reply reply' legal (answer, calls, tells) (answer', calls', tells') =
    let P : Result (List ℕ) CallFault → Type 0 = λ a. TellsCall a reply in
    let Q : Result (List ℕ) CallFault → Type 0 = λ a. TellsCall a reply' in
    let all = calls_once s.refuses s.next before bundle service request legal answer answer' one other (λ is. subst P is tells) (λ is. subst Q is tells') calls calls' in
    (told_call answer' reply reply' (subst P all.0 tells) tells', all.1)

-- ---- `http`

module _ (next : Meaning) (method target body : List ℕ) where
  sized_once : (fits : Bool) (before : CoreView) (path : List ℕ) (reply reply' : ShellReply) → AnswersSized next method target body fits before path reply → AnswersSized next method target body fits before path reply' → reply ≡ reply'
  sized_once true before path reply reply' (answer, answers, is) (answer', answers', is') =
      is ∙ ap told_answer (http_once next before (request_of method target body path) answer answer' answers answers') ∙ sym is'
  sized_once false before path reply reply' is is' = is ∙ sym is'

  found_once : (before : CoreView) (found found' : Option (List ℕ)) (reply reply' : ShellReply) → FindsPath target found → FindsPath target found'
      → AnswersFound next method target body before found reply → AnswersFound next method target body before found' reply' → reply ≡ reply'
  found_once before None None reply reply' none none' is is' = is ∙ sym is'
  found_once before None (Some path) reply reply' none finds is answers = absurd (none path finds)
  found_once before (Some path) None reply reply' finds none answers is = absurd (none path finds)
  found_once before (Some path) (Some path') reply reply' finds finds' answers answers' =
      let P : List ℕ → Type 0 = λ q. AnswersSized next method target body (nat_le (length body) greatest_body) before q reply in
      sized_once (nat_le (length body) greatest_body) before path' reply reply' (subst P (path_once target path path' finds finds') answers) answers'

  target_once : (before : CoreView) (reply reply' : ShellReply) → AnswersTarget next method target body before reply → AnswersTarget next method target body before reply' → reply ≡ reply'
  target_once before reply reply' (found, finds, answers) (found', finds', answers') = found_once before found found' reply reply' finds finds' answers answers'

-- ---- any line

pub asks_once : (s : Setting) (asked : Asked) (before one other : CoreView) (told told' : Option ShellReply) → HasLegal before → Asks s asked before told one → Asks s asked before told' other → (told ≡ told') × (one ≡ other)
asks_once s (Ok (Commanded command)) before one other told told' legal (reply, is, (answer, takes, fine, said)) (reply', is', (answer', takes', fine', said')) =
    let all = takes_once before one other command answer answer' legal (answered answer fine) (answered answer' fine') takes takes' in
    (replied told told' reply reply' is is' (said ∙ ap command_reply all.0 ∙ sym said'), all.1)
asks_once s (Ok (AskHeld configuration)) before one other told told' legal (reply, is, (answer, tells, fine, said, same)) (reply', is', (answer', tells', fine', said', same')) =
    let both = held_once (world before) configuration answer answer' (answered answer fine) (answered answer' fine') tells tells' in
    (replied told told' reply reply' is is' (said ∙ ap held_reply both ∙ sym said'), same ∙ sym same')
asks_once s (Ok AskWiring) before one other told told' legal (reply, is, (lines, tells, said, same)) (reply', is', (lines', tells', said', same')) =
    (replied told told' reply reply' is is' (said ∙ ap (λ (l : List WiringLine). Wiring l) (one_wiring (world before).documents lines lines' tells tells') ∙ sym said'), same ∙ sym same')
asks_once s (Ok (AskBundleWiring bundle)) before one other told told' legal (reply, is, (lines, tells, said, same)) (reply', is', (lines', tells', said', same')) =
    (replied told told' reply reply' is is' (said ∙ ap (bundle_reply bundle) (one_bundle_wiring (world before).documents bundle lines lines' tells tells') ∙ sym said'), same ∙ sym same')
asks_once s (Ok Settle) before one other told told' legal (reply, is, (count, settles, said)) (reply', is', (count', settles', said')) =
    let all = settled_once s.refuses before.limits.turns before one other (Ok count) (Ok count') legal (ok_or_err count OutOfMemory) (ok_or_err count' OutOfMemory) settles.0 settles'.0 in
    let same : count ≡ count' = ok_same count count' all.0 in
    (replied told told' reply reply' is is' (said ∙ ap (λ n. Turns n) same ∙ sym said'), all.1)
asks_once s (Ok Begin) before one other told told' legal (reply, is, asked) (reply', is', asked') =
    let all = manually_once s.is_manual AsksBegin before one other reply reply' (begin_once before one other reply reply' legal) asked asked' in (replied told told' reply reply' is is' all.0, all.1)
asks_once s (Ok (Finish turn)) before one other told told' legal (reply, is, asked) (reply', is', asked') =
    let all = manually_once s.is_manual (AsksFinish s.refuses turn) before one other reply reply' (finish_once s.refuses turn before one other reply reply' legal) asked asked' in
    (replied told told' reply reply' is is' all.0, all.1)
asks_once s (Ok (Call bundle service request)) before one other told told' legal (reply, is, asked) (reply', is', asked') =
    let all = call_once s bundle service request before one other reply reply' legal asked asked' in (replied told told' reply reply' is is' all.0, all.1)
asks_once s (Ok (Http method target body)) before one other told told' legal (reply, is, (same, answers)) (reply', is', (same', answers')) =
    (replied told told' reply reply' is is' (target_once s.next method target body before reply reply' answers answers'), same ∙ sym same')
asks_once s _ before one other told told' legal asked asked' = (asked.0 ∙ sym asked'.0, asked.1 ∙ sym asked'.1)

-- ---- lines that are cut off

-- want of room is no want of memory
full_or_short : {T : Type 0} → (let r : Result T CoreFault = Err InCore in r ≡ Err CoreNoMemory) → ⊥
full_or_short same = cc

-- a command is cut off where it finds no room
cut_command : (command : Command) (fault : SettleFault) (before after : CoreView) (commands : List Command) → (fault ≡ OutOfMemory → ⊥) → CutsCommand command fault before after commands
    → (fault ≡ JournalFull) × TakesCommand before command (Err InCore) after
cut_command command Unsettled before after commands fits cut = absurd cut
cut_command command JournalFull before after commands fits (takes, none) = (refl, takes)
cut_command command OutOfMemory before after commands fits cut = absurd (fits refl)

cut_begin : (fault : SettleFault) (before after : CoreView) → (fault ≡ OutOfMemory → ⊥) → CutsBegin fault before after → (fault ≡ JournalFull) × BeginsTurn before (Err InCore) after
cut_begin Unsettled before after fits cut = absurd cut
cut_begin JournalFull before after fits cut = (refl, cut)
cut_begin OutOfMemory before after fits cut = absurd (fits refl)

cut_finish : (refuses : List ℕ → List Property → Told → Bool) (turn : ℕ) (fault : SettleFault) (before after : CoreView) → (fault ≡ OutOfMemory → ⊥) → CutsFinish refuses turn fault before after → ⊥
cut_finish refuses turn Unsettled before after fits cut = cut
cut_finish refuses turn JournalFull before after fits cut = cut
cut_finish refuses turn OutOfMemory before after fits cut = fits refl

-- the fault with which an answer of a call ends the run
abbrev ended_with : Result (List ℕ) CallFault → Option SettleFault
ended_with (Err (OfSettling fault)) = Some fault
ended_with (Err (Core InCore)) = Some JournalFull
ended_with _ = None

-- such an answer is no want of memory
ends_otherwise : (answer : Result (List ℕ) CallFault) (fault : SettleFault) → ended_with answer ≡ Some fault → answer ≡ Err CallNoMemory → ⊥
ends_otherwise answer fault is same = never_some fault (ap ended_with (sym same) ∙ is)

-- and is told to nobody
untold : (answer : Result (List ℕ) CallFault) (fault : SettleFault) (reply : ShellReply) → ended_with answer ≡ Some fault → TellsCall answer reply → ⊥
untold (Err (OfSettling other)) fault reply is tells = tells
untold (Err (Core InCore)) fault reply is (told, said) = false≢true told
untold (Err (Core _)) fault reply is tells = never_some fault is
untold _ fault reply is tells = never_some fault is

module _ (s : Setting) (bundle service : ℕ) (request : List ℕ) (before : CoreView) where
  abbrev EndsCall : SettleFault → CoreView → Type 0
  EndsCall fault after = (answer : Result (List ℕ) CallFault) × CallsOnOne s.refuses s.next before bundle service request answer after × (answer ≡ Err CallNoMemory → ⊥) × (ended_with answer ≡ Some fault)

  cut_call : (fault : SettleFault) (after : CoreView) → (fault ≡ OutOfMemory → ⊥) → CutsCall s.refuses s.next bundle service request fault before after → EndsCall fault after
  cut_call Unsettled after fits cut = (Err (OfSettling Unsettled), cut, ends_otherwise (Err (OfSettling Unsettled)) Unsettled refl, refl)
  cut_call JournalFull after fits (inl cut) = (Err (Core InCore), cut, ends_otherwise (Err (Core InCore)) JournalFull refl, refl)
  cut_call JournalFull after fits (inr cut) = (Err (OfSettling JournalFull), cut, ends_otherwise (Err (OfSettling JournalFull)) JournalFull refl, refl)
  cut_call OutOfMemory after fits cut = absurd (fits refl)

manual_asks : (manual : Bool) (asks : CoreView → ShellReply → CoreView → Type 0) (before after : CoreView) (reply : ShellReply) → manual ≡ true → Manually manual asks before reply after → asks before reply after
manual_asks true asks before after reply is asked = asked
manual_asks false asks before after reply is asked = absurd (false≢true is)

-- what one run carries out, none is cut off at
not_both : (s : Setting) (asked : Asked) (before one other : CoreView) (told : Option ShellReply) (fault : SettleFault) (commands : List Command) → HasLegal before → (fault ≡ OutOfMemory → ⊥)
    → Asks s asked before told one → CutsAsked s asked fault before other commands → ⊥
not_both s (Ok (Commanded command)) before one other told fault commands legal fits (reply, is, (answer, takes, fine, said)) cut =
    let full = cut_command command fault before other commands fits cut in
    let same = (takes_once before one other command answer (Err InCore) legal (answered answer fine) full_or_short takes full.1).0 in
    let P : Result Reply CoreFault → Type 0 = IsAnswer in let no : false ≡ true = subst P same fine in false≢true no
not_both s (Ok Settle) before one other told fault commands legal fits (reply, is, (count, settles, said)) (cut, none) =
    let all = settled_once s.refuses before.limits.turns before one other (Ok count) (Err fault) legal (ok_or_err count OutOfMemory) (λ same. fits (err_same fault OutOfMemory same)) settles.0 cut.0 in ok_or_err count fault all.0
not_both s (Ok Begin) before one other told fault commands legal fits (reply, is, asked) (manual, cut, none) =
    let begins = manual_asks s.is_manual AsksBegin before one reply manual asked in
    let full = cut_begin fault before other fits cut in
    let all = begun_once before one other (Ok begins.0) (Err InCore) legal (ok_or_err begins.0 CoreNoMemory) full_or_short begins.1 full.1 in ok_or_err begins.0 InCore all.0
not_both s (Ok (Finish turn)) before one other told fault commands legal fits asked (manual, cut, none) = cut_finish s.refuses turn fault before other fits cut
not_both s (Ok (Call bundle service request)) before one other told fault commands legal fits (reply, is, (answer, calls, tells)) (cut, none) =
    let ends = cut_call s bundle service request before fault other fits cut in
    let P : Result (List ℕ) CallFault → Type 0 = λ a. TellsCall a reply in
    let all = calls_once s.refuses s.next before bundle service request legal answer ends.0 one other (λ same. subst P same tells) ends.2 calls ends.1 in
    untold ends.0 fault reply ends.3 (subst P all.0 tells)
not_both s _ before one other told fault commands legal fits asked cut = fits cut.0

-- two runs that are cut off there find the same fault and leave the same
cut_once : (s : Setting) (asked : Asked) (before one other : CoreView) (fault fault' : SettleFault) (commands commands' : List Command) → HasLegal before → (fault ≡ OutOfMemory → ⊥) → (fault' ≡ OutOfMemory → ⊥)
    → CutsAsked s asked fault before one commands → CutsAsked s asked fault' before other commands' → (fault ≡ fault') × (one ≡ other)
cut_once s (Ok (Commanded command)) before one other fault fault' commands commands' legal fits fits' cut cut' =
    let full = cut_command command fault before one commands fits cut in
    let full' = cut_command command fault' before other commands' fits' cut' in
    (full.0 ∙ sym full'.0, (takes_once before one other command (Err InCore) (Err InCore) legal full_or_short full_or_short full.1 full'.1).1)
cut_once s (Ok Settle) before one other fault fault' commands commands' legal fits fits' (cut, none) (cut', none') =
    let all = settled_once s.refuses before.limits.turns before one other (Err fault) (Err fault') legal (λ same. fits (err_same fault OutOfMemory same)) (λ same. fits' (err_same fault' OutOfMemory same)) cut.0 cut'.0 in
    let same : fault ≡ fault' = err_same fault fault' all.0 in (same, all.1)
cut_once s (Ok Begin) before one other fault fault' commands commands' legal fits fits' (manual, cut, none) (manual', cut', none') =
    let full = cut_begin fault before one fits cut in
    let full' = cut_begin fault' before other fits' cut' in
    (full.0 ∙ sym full'.0, (begun_once before one other (Err InCore) (Err InCore) legal full_or_short full_or_short full.1 full'.1).1)
cut_once s (Ok (Finish turn)) before one other fault fault' commands commands' legal fits fits' (manual, cut, none) cut' = absurd (cut_finish s.refuses turn fault before one fits cut)
cut_once s (Ok (Call bundle service request)) before one other fault fault' commands commands' legal fits fits' (cut, none) (cut', none') =
    let ends = cut_call s bundle service request before fault one fits cut in
    let ends' = cut_call s bundle service request before fault' other fits' cut' in
    let all = calls_once s.refuses s.next before bundle service request legal ends.0 ends'.0 one other ends.2 ends'.2 ends.1 ends'.1 in
    (some_same fault fault' (sym ends.3 ∙ ap ended_with all.0 ∙ ends'.3), all.1)
cut_once s _ before one other fault fault' commands commands' legal fits fits' cut cut' = absurd (fits cut.0)

-- ---- with the rest behind it

asks_legal : (s : Setting) (asked : Asked) (before between : CoreView) (told : Option ShellReply) → HasLegal before → Asks s asked before told between → HasLegal between
asks_legal s asked before between told legal asks = (grew_asks s asked before between told asks).legal legal

rests_once : (manual : Bool) (s : Setting) (between one other : CoreView) → HasLegal between → RestsBy manual s between one → RestsBy manual s between other → one ≡ other
rests_once true s between one other legal same same' = same ∙ sym same'
rests_once false s between one other legal (count, settles) (count', settles') =
    (settled_once s.refuses between.limits.turns between one other (Ok count) (Ok count') legal (ok_or_err count OutOfMemory) (ok_or_err count' OutOfMemory) settles.0 settles'.0).1

-- a line that runs
pub runs_once : (s : Setting) (first start : CoreView) (asked : Asked) (before one other : CoreView) (told told' : Option ShellReply) → HasLegal before
    → RunsLine s first asked before told one → RunsLine s start asked before told' other → (told ≡ told') × (one ≡ other)
runs_once s first start asked before one other told told' legal (between, asks, rests, good) (between', asks', rests', good') =
    let all = asks_once s asked before between between' told told' legal asks asks' in
    let P : CoreView → Type 0 = λ p. RestsBy s.is_manual s p one in
    (all.0, rests_once s.is_manual s between' one other (asks_legal s asked before between' told' legal asks') (subst P all.1 rests) rests')

-- one that runs and one that is cut off
pub runs_or_cut : (s : Setting) (first : CoreView) (asked : Asked) (before one other : CoreView) (told : Option ShellReply) (fault : SettleFault) (commands : List Command) → HasLegal before → (fault ≡ OutOfMemory → ⊥)
    → RunsLine s first asked before told one → Cuts s asked fault before other commands → ⊥
runs_or_cut s first asked before one other told fault commands legal fits (between, asks, rests, good) (inl cut) = not_both s asked before between other told fault commands legal fits asks cut
runs_or_cut s first asked before one other told fault commands legal fits (between, asks, rests, good) (inr (manual, (between', told', asks', cut), is)) =
    let all = asks_once s asked before between between' told told' legal asks asks' in
    let P : CoreView → Type 0 = λ p. RestsBy s.is_manual s p one in
    let Q : Bool → Type 0 = λ b. RestsBy b s between' one in
    let settles : RestsBy false s between' one = subst Q manual (subst P all.1 rests) in
    let ends = settled_once s.refuses between'.limits.turns between' one other (Ok settles.0) (Err fault) (asks_legal s asked before between' told' legal asks') (ok_or_err settles.0 OutOfMemory) (λ same. fits (err_same fault OutOfMemory same)) settles.1.0 cut.0 in
    ok_or_err settles.0 fault ends.0

-- two that are cut off
pub cuts_once : (s : Setting) (asked : Asked) (before one other : CoreView) (fault fault' : SettleFault) (commands commands' : List Command) → HasLegal before → (fault ≡ OutOfMemory → ⊥) → (fault' ≡ OutOfMemory → ⊥)
    → Cuts s asked fault before one commands → Cuts s asked fault' before other commands' → (fault ≡ fault') × (one ≡ other)
cuts_once s asked before one other fault fault' commands commands' legal fits fits' (inl cut) (inl cut') = cut_once s asked before one other fault fault' commands commands' legal fits fits' cut cut'
cuts_once s asked before one other fault fault' commands commands' legal fits fits' (inl cut) (inr (manual, (between, told, asks, rest), is)) =
    absurd (not_both s asked before between one told fault commands legal fits asks cut)
cuts_once s asked before one other fault fault' commands commands' legal fits fits' (inr (manual, (between, told, asks, rest), is)) (inl cut) =
    absurd (not_both s asked before between other told fault' commands' legal fits' asks cut)
cuts_once s asked before one other fault fault' commands commands' legal fits fits' (inr (manual, (between, told, asks, rest), is)) (inr (manual', (between', told', asks', rest'), is')) =
    let all = asks_once s asked before between between' told told' legal asks asks' in
    let P : CoreView → Type 0 = λ p. CutsSettle s.refuses fault p one in
    let there = subst P all.1 rest in
    let ends = settled_once s.refuses between'.limits.turns between' one other (Err fault) (Err fault') (asks_legal s asked before between' told' legal asks') (λ same. fits (err_same fault OutOfMemory same)) (λ same. fits' (err_same fault' OutOfMemory same)) there.0 rest'.0 in
    let same : fault ≡ fault' = err_same fault fault' ends.0 in (same, ends.1)
