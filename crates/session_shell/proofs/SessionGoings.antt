-- Over a session a pass goes on in the one history.
use Rattle.std.proofs.Common.{◌≡◌, ◌++◌, ℕ, List, [], ◌∷◌, sym, subst, Ok, Err, Some, inl, inr}
use Rattle.std.specs.declared.option.Option.{Option}
use Rattle.hall_goings.specs.Went.{Went}
use Rattle.hall_goings.proofs.Chains.{went_nowhere, went_on}
use Rattle.platform_sessions.specs.Halls.{Own, View}
use Rattle.shell_lang.specs.ShellLines.{Asked, shell_line}
use Rattle.shell_lang.specs.declared.shell_line.ShellLine.TheVariants.{Silent, Quit as AskQuit, Help as AskHelp, Command as Commanded, Bundles as AskBundles, Services as AskServices, Components as AskComponents, Report as AskReport, Held as AskHeld, ListComponents as AskListComponents, Graph as AskGraph, Details as AskDetails, AboutService as AskAboutService, Descriptions as AskDescriptions, Find as AskFind, Events as AskEvents, BundleEvents as AskBundleEvents, Trace as AskTrace, Wiring as AskWiring, BundleWiring as AskBundleWiring, Routes as AskRoutes, Configurations as AskConfigurations, Configuration as AskConfiguration, Listeners as AskListeners, Journal as AskJournal, Settle, Begin, Finish, Call, Http}
use Rattle.session_shell.specs.Items.{Setting}
use Rattle.session_shell.specs.Sessions.{FillsUp, HasServedOver, Starves, Stops, WantsMemory}
use Rattle.session_shell.specs.declared.item.SessionItem.{SessionItem}
use Rattle.session_shell.specs.declared.session_end.SessionEnd.{SessionEnd}
use Rattle.session_shell.specs.declared.session_end.SessionEnd.TheVariants.{EndOfInput, Quit, ReadFault, WriteFault, JournalFull, LineTooLong, NoMemory}
use Rattle.session_shell.proofs.Goings.{line_comes, lines_come}

-- a pass went on, with some entries of its own
abbrev Goes : View → View → Type 0
Goes before after = (own : Own) × Went before after own

stays : (before after : View) → after ≡ before → Goes before after
stays before after same = ([], subst (λ (v : View). Went before v []) (sym same) (went_nowhere before))

-- ---- the line in which a session ends

fills_goes : (s : Setting) (asked : Asked) (before after : View) → FillsUp s asked before after → Goes before after
fills_goes s (Err fault) before after fills = absurd fills
fills_goes s (Ok (Commanded command)) before after fills = ([], fills.went)
fills_goes s (Ok Settle) before after fills = (fills.0.2.own, fills.0.2.ran.went)
fills_goes s (Ok Silent) before after fills = absurd fills
fills_goes s (Ok AskQuit) before after fills = absurd fills
fills_goes s (Ok Begin) before after fills = absurd fills
fills_goes s (Ok (Finish turn)) before after fills = absurd fills
fills_goes s (Ok (Call bundle service request)) before after fills = absurd fills
fills_goes s (Ok (Http method target body)) before after fills = absurd fills
fills_goes s (Ok (AskHelp rows)) before after fills = absurd fills
fills_goes s (Ok AskBundles) before after fills = absurd fills
fills_goes s (Ok AskServices) before after fills = absurd fills
fills_goes s (Ok AskComponents) before after fills = absurd fills
fills_goes s (Ok (AskReport configuration)) before after fills = absurd fills
fills_goes s (Ok (AskHeld configuration)) before after fills = absurd fills
fills_goes s (Ok (AskFind tree)) before after fills = absurd fills
fills_goes s (Ok (AskEvents listener number)) before after fills = absurd fills
fills_goes s (Ok (AskBundleEvents number)) before after fills = absurd fills
fills_goes s (Ok (AskTrace number)) before after fills = absurd fills
fills_goes s (Ok AskWiring) before after fills = absurd fills
fills_goes s (Ok (AskBundleWiring bundle)) before after fills = absurd fills
fills_goes s (Ok AskRoutes) before after fills = absurd fills
fills_goes s (Ok AskListComponents) before after fills = absurd fills
fills_goes s (Ok AskGraph) before after fills = absurd fills
fills_goes s (Ok (AskDetails configuration)) before after fills = absurd fills
fills_goes s (Ok (AskAboutService service)) before after fills = absurd fills
fills_goes s (Ok (AskDescriptions bundle)) before after fills = absurd fills
fills_goes s (Ok AskConfigurations) before after fills = absurd fills
fills_goes s (Ok (AskConfiguration pid)) before after fills = absurd fills
fills_goes s (Ok AskListeners) before after fills = absurd fills
fills_goes s (Ok AskJournal) before after fills = absurd fills

starves_goes : (s : Setting) (asked : Asked) (before after : View) → Starves s asked before after → Goes before after
starves_goes s (Err fault) before after starves = ([], starves)
starves_goes s (Ok (Commanded command)) before after starves = ([], starves.0)
starves_goes s (Ok Settle) before after starves = (starves.0.2.own, starves.0.2.ran.went)
starves_goes s (Ok Silent) before after starves = ([], starves)
starves_goes s (Ok AskQuit) before after starves = ([], starves)
starves_goes s (Ok Begin) before after starves = ([], starves)
starves_goes s (Ok (Finish turn)) before after starves = ([], starves)
starves_goes s (Ok (Call bundle service request)) before after starves = ([], starves)
starves_goes s (Ok (Http method target body)) before after starves = ([], starves)
starves_goes s (Ok (AskHelp rows)) before after starves = ([], starves)
starves_goes s (Ok AskBundles) before after starves = ([], starves)
starves_goes s (Ok AskServices) before after starves = ([], starves)
starves_goes s (Ok AskComponents) before after starves = ([], starves)
starves_goes s (Ok (AskReport configuration)) before after starves = ([], starves)
starves_goes s (Ok (AskHeld configuration)) before after starves = ([], starves)
starves_goes s (Ok (AskFind tree)) before after starves = ([], starves)
starves_goes s (Ok (AskEvents listener number)) before after starves = ([], starves)
starves_goes s (Ok (AskBundleEvents number)) before after starves = ([], starves)
starves_goes s (Ok (AskTrace number)) before after starves = ([], starves)
starves_goes s (Ok AskWiring) before after starves = ([], starves)
starves_goes s (Ok (AskBundleWiring bundle)) before after starves = ([], starves)
starves_goes s (Ok AskRoutes) before after starves = ([], starves)
starves_goes s (Ok AskListComponents) before after starves = ([], starves)
starves_goes s (Ok AskGraph) before after starves = ([], starves)
starves_goes s (Ok (AskDetails configuration)) before after starves = ([], starves)
starves_goes s (Ok (AskAboutService service)) before after starves = ([], starves)
starves_goes s (Ok (AskDescriptions bundle)) before after starves = ([], starves)
starves_goes s (Ok AskConfigurations) before after starves = ([], starves)
starves_goes s (Ok (AskConfiguration pid)) before after starves = ([], starves)
starves_goes s (Ok AskListeners) before after starves = ([], starves)
starves_goes s (Ok AskJournal) before after starves = ([], starves)

wants_goes : (s : Setting) (asked : Asked) (before after : View) → WantsMemory s asked before after → Goes before after
wants_goes s asked before after (inl starves) = starves_goes s asked before after starves
wants_goes s asked before after (inr (item, serves)) = (line_comes s asked before after (Some item) serves).0

stops_goes : (s : Setting) (end : SessionEnd) (others : List (List ℕ)) (before after : View) (last : List SessionItem) (front : List ℕ) → Stops s end others before after last front → Goes before after
stops_goes s EndOfInput others before after last front stops = stays before after stops.0
stops_goes s Quit others before after last front stops = stays before after stops.0
stops_goes s ReadFault others before after last front stops = stays before after stops.0
stops_goes s (LineTooLong line) others before after last front stops = stays before after stops.0
stops_goes s WriteFault [] before after last front stops = absurd stops
stops_goes s WriteFault (line ∷ lines) before after last front (item, count, serves, more, fewer, is) = (line_comes s (shell_line line) before after (Some item) serves).0
stops_goes s JournalFull [] before after last front stops = absurd stops.0
stops_goes s JournalFull (line ∷ lines) before after last front stops = fills_goes s (shell_line line) before after stops.0
stops_goes s NoMemory others before after last front (inl same, silent) = stays before after same
stops_goes s NoMemory [] before after last front (inr wants, silent) = absurd wants
stops_goes s NoMemory (line ∷ lines) before after last front (inr wants, silent) = wants_goes s (shell_line line) before after wants

-- ---- sessions

pub session_goes : (s : Setting) (left : Option (List ℕ)) (before after : View) (notes notes' : List SessionItem) (written written' : Option (List ℕ)) (end : SessionEnd)
    → HasServedOver s left before after notes notes' written written' end → Goes before after
session_goes s left before after notes notes' written written' end (bytes, tells, served) =
    let first = (lines_come s served.lines before served.between served.items served.served).0 in
    let then = stops_goes s end served.others served.between after served.last served.front served.stops in
    (first.0 ++ then.0, went_on before served.between after first.0 then.0 first.1 then.1)
