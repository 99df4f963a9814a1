-- How the lines of a run make the journal grow.
use Rattle.std.proofs.Common.{◌≡◌, ℕ, List, [], ◌∷◌, ◌++◌, Bool, true, false, sym, ap, ◌∙◌, subst, append-nil, None, Some, Ok, Err, inl, inr}
use Rattle.std.specs.Prelude.{Result}
use Rattle.std.specs.declared.option.Option.{Option}
use Rattle.callback_orders.specs.declared.callback.Outcome.{Outcome}
use Rattle.callback_orders.specs.declared.callback.Outcome.TheVariants.{NoMemory as Wanting}
use Rattle.kind_trait.specs.Meanings.{Told}
use Rattle.prop_map.specs.declared.properties.Property.{Property}
use Rattle.scr_world.specs.declared.command.Command.{Command}
use Rattle.scr_world.specs.declared.reply.CoreFault.{CoreFault}
use Rattle.scr_world.specs.declared.reply.CoreFault.TheVariants.{OutOfMemory as NoMemory}
use Rattle.scr_world.specs.declared.reply.Reply.{Reply}
use Rattle.platform_hall.specs.Cores.{CoreView}
use Rattle.turn_runner.specs.declared.settle_fault.SettleFault.{SettleFault}
use Rattle.turn_runner.specs.declared.settle_fault.SettleFault.TheVariants.{Unsettled as StillDue, JournalFull as NoRoom, OutOfMemory}
use Rattle.platform_hall.specs.declared.finish_fault.FinishFault.{FinishFault}
use Rattle.platform_hall.specs.declared.finish_fault.FinishFault.TheVariants.{NoTurn as NoSuchTurn, OutOfMemory as NoMemoryLeft}
use Rattle.platform_hall.specs.Platforms.{BeginsTurn, Finishes, FinishesTurn}
use Rattle.shell_lang.specs.declared.shell_line.ShellLine.TheVariants.{Silent, Quit, Help, Command as Commanded, Bundles, Services, Components, Report, Held, ListComponents, Graph, Details, AboutService, Descriptions, Find, Events, BundleEvents, Trace, Wiring, BundleWiring, Routes, Configurations, Configuration, Listeners, Journal, Settle, Begin, Finish, Call, Http}
use Rattle.shell_lang.specs.declared.shell_reply.ShellReply.{ShellReply}
use Rattle.shell_lang.specs.ShellLines.{Asked, shell_line}
use Rattle.script_shell.specs.declared.status.Status.{Status}
use Rattle.script_shell.specs.declared.status.Status.TheVariants.{Done, Usage, ReadFault, WriteFault, NoMemory as Short, JournalFull, LineTooLong, Unsettled, Refused as AtRefusal}
use Rattle.script_shell.specs.Asks.{Asks, AsksBegin, AsksFinish, Manually, Setting, changed, commands_of}
use Rattle.script_shell.specs.Cuts.{Cuts, CutsAsked, CutsBegin, CutsCommand, CutsFinish, CutsFirst, Stays}
use Rattle.script_shell.specs.Refusals.{IsAnswer}
use Rattle.script_shell.specs.Rests.{Rests, RestsBy}
use Rattle.script_shell.specs.declared.form.ScriptOptions.{ScriptOptions}
use Rattle.script_shell.specs.LineTexts.{Answer}
use Rattle.script_shell.specs.Runs.{Grew, LacksMemory, Ran, RunsFirst, RunsLine, Stops}
use Rattle.script_shell.proofs.CallGrowth.{grew_calls, grew_cut_call}
use Rattle.script_shell.proofs.Growth.{grew_accepts, grew_begins, grew_ends, grew_not, grew_posts, grew_same, grew_settled, grew_takes, grew_trans}

grew_finishes : (refuses : List ℕ → List Property → Told → Bool) (before after : CoreView) (turn : ℕ) (outcome : Outcome) → Finishes refuses before turn outcome after → Grew before after []
grew_finishes refuses before after turn outcome (work, over, runs, is, ends, posts) = grew_trans before over after [] [] (grew_ends before over turn outcome ends) (grew_posts over after posts)

grew_finished : (refuses : List ℕ → List Property → Told → Bool) (before after : CoreView) (turn : ℕ) (said : Result Outcome FinishFault) → FinishesTurn refuses before turn said after → Grew before after []
grew_finished refuses before after turn (Ok outcome) (finishes, none) = grew_finishes refuses before after turn outcome finishes
grew_finished refuses before after turn (Err NoSuchTurn) (none, same) = grew_not before after same
grew_finished refuses before after turn (Err NoMemoryLeft) (inl same) = grew_not before after same
grew_finished refuses before after turn (Err NoMemoryLeft) (inr (outcome, finishes)) = grew_finishes refuses before after turn outcome finishes

grew_begun : (before after : CoreView) (taken : Option ℕ) → BeginsTurn before (Ok taken) after → Grew before after []
grew_begun before after None (due, same) = grew_not before after same
grew_begun before after (Some turn) (work, is, begins, runs) = grew_begins before after work begins

answered : (said : Result Reply CoreFault) → IsAnswer said → said ≡ Err NoMemory → ⊥
answered (Ok said) told is = cc
answered (Err fault) told is = let P : Result Reply CoreFault → Type 0 = IsAnswer in let no = subst P is told in cc

grew_manually : (manual : Bool) (asks : CoreView → ShellReply → CoreView → Type 0) (before after : CoreView) (said : ShellReply) → ((asks before said after) → Grew before after []) → Manually manual asks before said after → Grew before after []
grew_manually true asks before after said grows asked = grows asked
grew_manually false asks before after said grows (is, same) = grew_not before after same

-- a line that is carried out
pub grew_asks : (s : Setting) (asked : Asked) (before after : CoreView) (told : Option ShellReply) → Asks s asked before told after → Grew before after (commands_of before asked)
grew_asks s (Ok Silent) before after told (none, same) = grew_not before after same
grew_asks s (Ok Quit) before after told (none, same) = grew_not before after same
grew_asks s (Ok (Help rows)) before after told (is, same) = grew_not before after same
grew_asks s (Ok (Commanded command)) before after told (said, is, (answer, takes, tells, replied)) = grew_takes before after command answer takes (answered answer tells)
grew_asks s (Ok Bundles) before after told (is, same) = grew_not before after same
grew_asks s (Ok Services) before after told (is, same) = grew_not before after same
grew_asks s (Ok Components) before after told (is, same) = grew_not before after same
grew_asks s (Ok (Report configuration)) before after told (is, same) = grew_not before after same
grew_asks s (Ok (Held configuration)) before after told (said, is, (answer, held, tells, replied, same)) = grew_not before after same
grew_asks s (Ok (Find tree)) before after told (is, same) = grew_not before after same
grew_asks s (Ok (Events listener number)) before after told (is, same) = grew_not before after same
grew_asks s (Ok (BundleEvents number)) before after told (is, same) = grew_not before after same
grew_asks s (Ok (Trace number)) before after told (is, same) = grew_not before after same
grew_asks s (Ok Wiring) before after told (said, is, (lines, tells, replied, same)) = grew_not before after same
grew_asks s (Ok (BundleWiring bundle)) before after told (said, is, (lines, tells, replied, same)) = grew_not before after same
grew_asks s (Ok Routes) before after told (is, same) = grew_not before after same
grew_asks s (Ok ListComponents) before after told (is, same) = grew_not before after same
grew_asks s (Ok Graph) before after told (is, same) = grew_not before after same
grew_asks s (Ok (Details configuration)) before after told (is, same) = grew_not before after same
grew_asks s (Ok (AboutService service)) before after told (is, same) = grew_not before after same
grew_asks s (Ok (Descriptions bundle)) before after told (is, same) = grew_not before after same
grew_asks s (Ok Configurations) before after told (is, same) = grew_not before after same
grew_asks s (Ok (Configuration pid)) before after told (is, same) = grew_not before after same
grew_asks s (Ok Listeners) before after told (is, same) = grew_not before after same
grew_asks s (Ok Journal) before after told (is, same) = grew_not before after same
grew_asks s (Ok Settle) before after told (said, is, (count, settles, replied)) = grew_settled s.refuses before.limits.turns before after (Ok count) settles.0
grew_asks s (Ok Begin) before after told (said, is, asked) =
    grew_manually s.is_manual AsksBegin before after said (λ asks. grew_begun before after asks.0 asks.1) asked
grew_asks s (Ok (Finish turn)) before after told (said, is, asked) =
    grew_manually s.is_manual (AsksFinish s.refuses turn) before after said (λ asks. grew_finished s.refuses before after turn asks.0 asks.1) asked
grew_asks s (Ok (Call bundle service request)) before after told (said, is, (answer, calls, tells)) = grew_calls s.refuses s.next before after bundle service request answer calls
grew_asks s (Ok (Http method target body)) before after told (said, is, asked) = grew_not before after asked.0
grew_asks s (Err fault) before after told (is, same) = grew_not before after same

grew_rests_by : (manual : Bool) (s : Setting) (between after : CoreView) → RestsBy manual s between after → Grew between after []
grew_rests_by true s between after same = grew_not between after same
grew_rests_by false s between after (count, settles) = grew_settled s.refuses between.limits.turns between after (Ok count) settles.0

-- the rest behind it
pub grew_rests : (s : Setting) (between after : CoreView) → Rests s between after → Grew between after []
grew_rests s between after rests = grew_rests_by s.is_manual s between after rests

grew_none : (before after : CoreView) (commands : List Command) → commands ≡ [] → Grew before after [] → Grew before after commands
grew_none before after commands none grew = grew_same before after [] commands (sym none) grew

grew_cut_command : (command : Command) (fault : SettleFault) (before after : CoreView) (commands : List Command) → CutsCommand command fault before after commands → Grew before after commands
grew_cut_command command StillDue before after commands cut = absurd cut
grew_cut_command command NoRoom before after commands ((same, (is, still)), none) = grew_none before after commands none (grew_not before after (ap (λ (l : _). record { limits = l; journal = after.journal }) same ∙ ap (λ (j : _). record { limits = before.limits; journal = j }) still))
grew_cut_command command OutOfMemory before after commands (inl (lacks, (same, none))) = grew_none before after commands none (grew_not before after same)
grew_cut_command command OutOfMemory before after commands (inr (said, accepts, is)) = grew_same before after (changed before command) commands (sym is) (grew_accepts before after command said accepts)

grew_cut_begin : (fault : SettleFault) (before after : CoreView) → CutsBegin fault before after → Grew before after []
grew_cut_begin StillDue before after cut = absurd cut
grew_cut_begin NoRoom before after (due, room, same) = grew_not before after same
grew_cut_begin OutOfMemory before after (inl same) = grew_not before after same
grew_cut_begin OutOfMemory before after (inr (turn, begins)) = grew_begun before after (Some turn) begins

grew_cut_finish : (refuses : List ℕ → List Property → Told → Bool) (turn : ℕ) (fault : SettleFault) (before after : CoreView) → CutsFinish refuses turn fault before after → Grew before after []
grew_cut_finish refuses turn StillDue before after cut = absurd cut
grew_cut_finish refuses turn NoRoom before after cut = absurd cut
grew_cut_finish refuses turn OutOfMemory before after (inl finishes) = grew_finished refuses before after turn (Err NoMemoryLeft) finishes
grew_cut_finish refuses turn OutOfMemory before after (inr finishes) = grew_finished refuses before after turn (Ok Wanting) finishes

grew_cut_asked : (s : Setting) (asked : Asked) (fault : SettleFault) (before after : CoreView) (commands : List Command) → CutsAsked s asked fault before after commands → Grew before after commands
grew_cut_asked s (Ok Silent) fault before after commands (is, (same, none)) = grew_none before after commands none (grew_not before after same)
grew_cut_asked s (Ok Quit) fault before after commands (is, (same, none)) = grew_none before after commands none (grew_not before after same)
grew_cut_asked s (Ok (Help rows)) fault before after commands (is, (same, none)) = grew_none before after commands none (grew_not before after same)
grew_cut_asked s (Ok (Commanded command)) fault before after commands cut = grew_cut_command command fault before after commands cut
grew_cut_asked s (Ok Bundles) fault before after commands (is, (same, none)) = grew_none before after commands none (grew_not before after same)
grew_cut_asked s (Ok Services) fault before after commands (is, (same, none)) = grew_none before after commands none (grew_not before after same)
grew_cut_asked s (Ok Components) fault before after commands (is, (same, none)) = grew_none before after commands none (grew_not before after same)
grew_cut_asked s (Ok (Report configuration)) fault before after commands (is, (same, none)) = grew_none before after commands none (grew_not before after same)
grew_cut_asked s (Ok (Held configuration)) fault before after commands (is, (same, none)) = grew_none before after commands none (grew_not before after same)
grew_cut_asked s (Ok (Find tree)) fault before after commands (is, (same, none)) = grew_none before after commands none (grew_not before after same)
grew_cut_asked s (Ok (Events listener number)) fault before after commands (is, (same, none)) = grew_none before after commands none (grew_not before after same)
grew_cut_asked s (Ok (BundleEvents number)) fault before after commands (is, (same, none)) = grew_none before after commands none (grew_not before after same)
grew_cut_asked s (Ok (Trace number)) fault before after commands (is, (same, none)) = grew_none before after commands none (grew_not before after same)
grew_cut_asked s (Ok Wiring) fault before after commands (is, (same, none)) = grew_none before after commands none (grew_not before after same)
grew_cut_asked s (Ok (BundleWiring bundle)) fault before after commands (is, (same, none)) = grew_none before after commands none (grew_not before after same)
grew_cut_asked s (Ok Routes) fault before after commands (is, (same, none)) = grew_none before after commands none (grew_not before after same)
grew_cut_asked s (Ok ListComponents) fault before after commands (is, (same, none)) = grew_none before after commands none (grew_not before after same)
grew_cut_asked s (Ok Graph) fault before after commands (is, (same, none)) = grew_none before after commands none (grew_not before after same)
grew_cut_asked s (Ok (Details configuration)) fault before after commands (is, (same, none)) = grew_none before after commands none (grew_not before after same)
grew_cut_asked s (Ok (AboutService service)) fault before after commands (is, (same, none)) = grew_none before after commands none (grew_not before after same)
grew_cut_asked s (Ok (Descriptions bundle)) fault before after commands (is, (same, none)) = grew_none before after commands none (grew_not before after same)
grew_cut_asked s (Ok Configurations) fault before after commands (is, (same, none)) = grew_none before after commands none (grew_not before after same)
grew_cut_asked s (Ok (Configuration pid)) fault before after commands (is, (same, none)) = grew_none before after commands none (grew_not before after same)
grew_cut_asked s (Ok Listeners) fault before after commands (is, (same, none)) = grew_none before after commands none (grew_not before after same)
grew_cut_asked s (Ok Journal) fault before after commands (is, (same, none)) = grew_none before after commands none (grew_not before after same)
grew_cut_asked s (Ok Settle) fault before after commands (cut, none) = grew_none before after commands none (grew_settled s.refuses before.limits.turns before after (Err fault) cut.0)
grew_cut_asked s (Ok Begin) fault before after commands (manual, cut, none) = grew_none before after commands none (grew_cut_begin fault before after cut)
grew_cut_asked s (Ok (Finish turn)) fault before after commands (manual, cut, none) = grew_none before after commands none (grew_cut_finish s.refuses turn fault before after cut)
grew_cut_asked s (Ok (Call bundle service request)) fault before after commands (cut, none) = grew_none before after commands none (grew_cut_call s.refuses s.next before after bundle service request fault cut)
grew_cut_asked s (Ok (Http method target body)) fault before after commands (is, (same, none)) = grew_none before after commands none (grew_not before after same)
grew_cut_asked s (Err why) fault before after commands (is, (same, none)) = grew_none before after commands none (grew_not before after same)

-- a line that is cut off
pub grew_cuts : (s : Setting) (asked : Asked) (fault : SettleFault) (before after : CoreView) (commands : List Command) → Cuts s asked fault before after commands → Grew before after commands
grew_cuts s asked fault before after commands (inl cut) = grew_cut_asked s asked fault before after commands cut
grew_cuts s asked fault before after commands (inr (manual, (between, told, asks, cut), is)) =
    grew_same before after (commands_of before asked ++ []) commands (append-nil (commands_of before asked) ∙ sym is)
    (grew_trans before between after (commands_of before asked) [] (grew_asks s asked before between told asks) (grew_settled s.refuses between.limits.turns between after (Err fault) cut.0))

-- a line that is carried out, and the rest behind it
pub grew_carried : (s : Setting) (asked : Asked) (before between after : CoreView) (told : Option ShellReply) → Asks s asked before told between → Rests s between after → Grew before after (commands_of before asked)
grew_carried s asked before between after told asks rests =
    grew_same before after (commands_of before asked ++ []) (commands_of before asked) (append-nil (commands_of before asked))
    (grew_trans before between after (commands_of before asked) [] (grew_asks s asked before between told asks) (grew_rests s between after rests))

grew_line : (s : Setting) (first : CoreView) (asked : Asked) (before after : CoreView) (told : Option ShellReply) → RunsLine s first asked before told after → Grew before after (commands_of before asked)
grew_line s first asked before after told (between, asks, rests, good) = grew_carried s asked before between after told asks rests

-- lines that ran
pub grew_ran : (s : Setting) (first : CoreView) (lines : List (List ℕ)) (before after : CoreView) (commands : List Command) (answers : List Answer) → Ran s first lines before after commands answers → Grew before after commands
grew_ran s first [] before after commands answers (same, none, nothing) = grew_none before after commands none (grew_not before after same)
grew_ran s first (line ∷ lines) before after commands answers (between, told, later, rest, runs, ran, all, whole) =
    grew_same before after (commands_of before (shell_line line) ++ later) commands (sym all)
    (grew_trans before between after (commands_of before (shell_line line)) later (grew_line s first (shell_line line) before between told runs) (grew_ran s first lines between after later rest ran))

pub grew_stays : (before after : CoreView) (commands : List Command) → Stays before after commands → Grew before after commands
grew_stays before after commands (same, none) = grew_none before after commands none (grew_not before after same)

pub grew_cuts_first : (s : Setting) (others : List (List ℕ)) (fault : SettleFault) (before after : CoreView) (commands : List Command) → CutsFirst s others fault before after commands → Grew before after commands
grew_cuts_first s [] fault before after commands cut = absurd cut
grew_cuts_first s (line ∷ lines) fault before after commands cut = grew_cuts s (shell_line line) fault before after commands cut

grew_runs_first : (s : Setting) (first : CoreView) (others : List (List ℕ)) (before after : CoreView) (answer : Answer) (commands : List Command) → RunsFirst s first others before answer after commands → Grew before after commands
grew_runs_first s first [] before after answer commands runs = absurd runs
grew_runs_first s first (line ∷ lines) before after answer commands (runs, same, is) =
    grew_same before after (commands_of before (shell_line line)) commands (sym is) (grew_line s first (shell_line line) before after answer.told runs)

grew_lacks : (s : Setting) (o : ScriptOptions) (first : CoreView) (others : List (List ℕ)) (before after : CoreView) (commands : List Command) → LacksMemory s o first others before after commands → Grew before after commands
grew_lacks s o first others before after commands (inl stays) = grew_stays before after commands stays
grew_lacks s o first others before after commands (inr (inl cut)) = grew_cuts_first s others OutOfMemory before after commands cut
grew_lacks s o first others before after commands (inr (inr (answer, runs, some))) = grew_runs_first s first others before after answer commands runs

-- how a run ended
pub grew_stops : (s : Setting) (o : ScriptOptions) (first : CoreView) (status : Status) (before after : CoreView) (others : List (List ℕ)) (commands : List Command) (front : List ℕ) → Stops s o first status before after others commands front → Grew before after commands
grew_stops s o first Done before after others commands front (stays, none) = grew_stays before after commands stays
grew_stops s o first (Usage at) before after others commands front stops = absurd stops
grew_stops s o first ReadFault before after others commands front (stays, none) = grew_stays before after commands stays
grew_stops s o first WriteFault before after others commands front (answer, count, runs, below, is) = grew_runs_first s first others before after answer commands runs
grew_stops s o first Short before after others commands front (lacks, none) = grew_lacks s o first others before after commands lacks
grew_stops s o first JournalFull before after others commands front (cut, none) = grew_cuts_first s others NoRoom before after commands cut
grew_stops s o first (LineTooLong line) before after others commands front (stays, none) = grew_stays before after commands stays
grew_stops s o first Unsettled before after others commands front (cut, none) = grew_cuts_first s others StillDue before after commands cut
grew_stops s o first (AtRefusal line) before after others commands front (stays, none) = grew_stays before after commands stays
