-- What a line asks, carried out: the platform before and after, and what is told. Our own form.
use Rattle.std.specs.Prelude.{◌≡◌, ℕ, List, [], ◌∷◌, Bool, true, false, Option, Some, None, Result, Ok, Err, if◌then◌else◌}
use Rattle.std.specs.Fmt.{decimal}
use Rattle.std.specs.Option.{option_map_or}
use Rattle.callback_orders.specs.declared.callback.Outcome.{Outcome}
use Rattle.callback_orders.specs.declared.callback.Outcome.TheVariants.{Done as IsDone, Refused as IsRefused, NoMemory}
use Rattle.call_moves.specs.Evaluations.{Meaning}
use Rattle.kind_trait.specs.Meanings.{Told}
use Rattle.prop_map.specs.declared.properties.Property.{Property}
use Rattle.scr_world.specs.declared.command.Command.{Command}
use Rattle.scr_world.specs.declared.reply.CoreFault.{CoreFault}
use Rattle.scr_world.specs.declared.reply.CoreFault.TheVariants.{NoComponent, NoListener}
use Rattle.scr_world.specs.declared.reply.Reply.{Reply}
use Rattle.scr_world.specs.declared.reply.Reply.TheVariants.{Done as InCore, Bundle as OfBundle, Service as OfService, Uses as OfUses, Listener as OfListener}
use Rattle.scr_world.specs.declared.lines.HeldLine.{HeldLine}
use Rattle.scr_world.specs.declared.lines.TurnLine.{TurnLine}
use Rattle.platform_hall.specs.Cores.{CoreView}
use Rattle.scr_readers.specs.Events.{events_told, has_listener}
use Rattle.scr_calls.specs.Servlets.{routing_in}
use Rattle.scr_report.specs.Reports.{report_in}
use Rattle.scr_world.specs.declared.world.World.{World}
use Rattle.scr_world.specs.Readers.{TellsHeld, bundle_events_after, bundle_lines, component_lines, found, service_lines}
use Rattle.scr_world.specs.Replies.{changes}
use Rattle.scr_world.specs.Steps.{history_of}
use Rattle.scr_world.specs.TurnLines.{turns_above}
use Rattle.serde_json.specs.Written.{compact_text}
use Rattle.turn_work.specs.declared.work.TurnWork.{TurnWork}
use Rattle.platform_hall.specs.declared.finish_fault.FinishFault.{FinishFault}
use Rattle.platform_hall.specs.declared.finish_fault.FinishFault.TheVariants.{NoTurn as NoSuchTurn, OutOfMemory as NoMemoryLeft}
use Rattle.platform_hall.specs.Platforms.{BeginsTurn, FinishesTurn, TakesCommand, running, world}
use Rattle.platform_hall.specs.SettleBounds.{SettlesWithin}
use Rattle.shell_lang.specs.declared.shell_line.ShellLine.TheVariants.{Silent, Quit, Help as AskHelp, Command as Commanded, Bundles as AskBundles, Services as AskServices, Components as AskComponents, Report as AskReport, Held as AskHeld, ListComponents as AskListComponents, Graph as AskGraph, Details as AskDetails, AboutService as AskAboutService, Descriptions as AskDescriptions, Find as AskFind, Events as AskEvents, BundleEvents as AskBundleEvents, Trace as AskTrace, Wiring as AskWiring, BundleWiring as AskBundleWiring, Routes as AskRoutes, Configurations as AskConfigurations, Configuration as AskConfiguration, Listeners as AskListeners, Journal as AskJournal, Settle, Begin, Finish, Call, Http}
use Rattle.shell_lang.specs.declared.shell_reply.Refusal.TheVariants.{Line as InLine, Core as OfCore, NotManual, NoTurn}
use Rattle.shell_lang.specs.declared.shell_reply.ShellReply.{ShellReply}
use Rattle.shell_lang.specs.declared.shell_reply.ShellReply.TheVariants.{Done, Help, Bundle, Service, Uses, Listener, Bundles, Services, Components, Report, Held, Listed, Graph, Found, Events, BundleEvents, Trace, Routes, Configurations, Listeners, Turns, Begun, Idle, Finished, Refused}
use Rattle.shell_lang.specs.ShellLines.{Asked}
use Rattle.script_shell.specs.Calling.{AsksCall}
use Rattle.script_shell.specs.ComponentListings.{descriptions_reply, details_reply, listed_lines}
use Rattle.script_shell.specs.Graphs.{graph_lines}
use Rattle.script_shell.specs.Listings.{configuration_lines, configuration_reply, journal_reply, listener_lines}
use Rattle.script_shell.specs.Refusals.{IsAnswer}
use Rattle.script_shell.specs.Requests.{AsksHttp}
use Rattle.script_shell.specs.Routes.{route_lines}
use Rattle.script_shell.specs.ServiceFacts.{service_reply}
use Rattle.script_shell.specs.Wiring.{AsksBundleWiring, AsksWiring}

-- how a run goes: whether turns run where a line asks for it alone, which callbacks the component code refuses, and what a request to it comes to
pub record Setting : Type 0 where
  pub is_manual : Bool
  pub refuses : List ℕ → List Property → Told → Bool
  pub next : Meaning

-- the command, where it changes something
abbrev pub changed : CoreView → Command → List Command
changed before command = if changes before.limits.journal (world before) command then command ∷ [] else []

-- the command of a line, where it changes something
abbrev pub commands_of : CoreView → Asked → List Command
commands_of before (Ok (Commanded command)) = changed before command
commands_of before _ = []

abbrev pub command_reply : Result Reply CoreFault → ShellReply
command_reply (Ok InCore) = Done
command_reply (Ok (OfBundle bundle)) = Bundle bundle
command_reply (Ok (OfService service)) = Service service
command_reply (Ok (OfUses uses)) = Uses uses
command_reply (Ok (OfListener listener)) = Listener listener
command_reply (Err fault) = Refused (OfCore fault)

abbrev pub held_reply : Result (List HeldLine) CoreFault → ShellReply
held_reply (Ok rows) = Held rows
held_reply (Err fault) = Refused (OfCore fault)

-- a command's answer is told
abbrev pub AsksCommand : Command → CoreView → ShellReply → CoreView → Type 0
AsksCommand command before reply after = (answer : Result Reply CoreFault) × TakesCommand before command answer after × IsAnswer answer × (reply ≡ command_reply answer)

-- what a component configuration's instances hold is told
abbrev pub AsksHeld : ℕ → CoreView → ShellReply → CoreView → Type 0
AsksHeld configuration before reply after =
    (answer : Result (List HeldLine) CoreFault) × TellsHeld (world before) configuration answer × IsAnswer answer × (reply ≡ held_reply answer) × (after ≡ before)

-- the report of the component configuration of a number, where there is one
abbrev pub report_reply : World → ℕ → ShellReply
report_reply w configuration = option_map_or (λ d. Report (compact_text d)) (report_in w configuration) (Refused (OfCore (NoComponent (decimal configuration))))

-- what a listener was told behind the first so many events, where there is one
abbrev pub events_reply : World → ℕ → ℕ → ShellReply
events_reply w listener before = if has_listener w listener then Events before (events_told w listener before) else Refused (OfCore (NoListener listener))

-- the turns that are due run, and their number is told
abbrev pub AsksSettle : (List ℕ → List Property → Told → Bool) → CoreView → ShellReply → CoreView → Type 0
AsksSettle refuses before reply after = (count : ℕ) × SettlesWithin refuses before (Ok count) after × (reply ≡ Turns count)

-- the line of a turn that begins with this work
abbrev pub line_for : TurnWork → TurnLine
line_for work = record { turn = work.number; callback = work.callback; instance = work.instance; name = work.name; outcome = None }

-- the turn of this number, which is under way now, is told
abbrev pub TellsBegun : CoreView → Option ℕ → ShellReply → Type 0
TellsBegun after None reply = reply ≡ Idle
TellsBegun after (Some turn) reply = (work : TurnWork) × (running after turn ≡ Some work) × (reply ≡ Begun (line_for work))

-- the first due turn begins and is told
abbrev pub AsksBegin : CoreView → ShellReply → CoreView → Type 0
AsksBegin before reply after = (taken : Option ℕ) × BeginsTurn before (Ok taken) after × TellsBegun after taken reply

-- how a turn ended is told; want of memory ends the run
abbrev pub TellsFinished : ℕ → Result Outcome FinishFault → ShellReply → Type 0
TellsFinished turn (Ok IsDone) reply = reply ≡ Finished IsDone
TellsFinished turn (Ok IsRefused) reply = reply ≡ Finished IsRefused
TellsFinished turn (Ok NoMemory) reply = ⊥
TellsFinished turn (Err NoSuchTurn) reply = reply ≡ Refused (NoTurn turn)
TellsFinished turn (Err NoMemoryLeft) reply = ⊥

-- a turn that is under way runs and ends
abbrev pub AsksFinish : (List ℕ → List Property → Told → Bool) → ℕ → CoreView → ShellReply → CoreView → Type 0
AsksFinish refuses turn before reply after = (answer : Result Outcome FinishFault) × FinishesTurn refuses before turn answer after × TellsFinished turn answer reply

-- a line of `script --manual` alone does this there
abbrev pub Manually : Bool → (CoreView → ShellReply → CoreView → Type 0) → CoreView → ShellReply → CoreView → Type 0
Manually true asks before reply after = asks before reply after
Manually false asks before reply after = (reply ≡ Refused NotManual) × (after ≡ before)

-- nothing changes, and this is told
abbrev pub Says : ShellReply → CoreView → Option ShellReply → CoreView → Type 0
Says reply before told after = (told ≡ Some reply) × (after ≡ before)

-- nothing changes, and nothing is told
abbrev pub IsStill : CoreView → Option ShellReply → CoreView → Type 0
IsStill before told after = (told ≡ None) × (after ≡ before)

-- this is done, and its reply told
abbrev pub Does : (CoreView → ShellReply → CoreView → Type 0) → CoreView → Option ShellReply → CoreView → Type 0
Does asks before told after = (reply : ShellReply) × (told ≡ Some reply) × asks before reply after

-- what a line asks is carried out, and this is told
abbrev pub Asks : Setting → Asked → CoreView → Option ShellReply → CoreView → Type 0
Asks s (Ok Silent) before told after = IsStill before told after
Asks s (Ok Quit) before told after = IsStill before told after
Asks s (Ok (AskHelp rows)) before told after = Says (Help rows) before told after
Asks s (Ok (Commanded command)) before told after = Does (AsksCommand command) before told after
Asks s (Ok AskBundles) before told after = Says (Bundles (bundle_lines (world before))) before told after
Asks s (Ok AskServices) before told after = Says (Services (service_lines (world before))) before told after
Asks s (Ok AskComponents) before told after = Says (Components (component_lines (world before))) before told after
Asks s (Ok (AskReport configuration)) before told after = Says (report_reply (world before) configuration) before told after
Asks s (Ok (AskHeld configuration)) before told after = Does (AsksHeld configuration) before told after
Asks s (Ok AskListComponents) before told after = Says (Listed (listed_lines (world before))) before told after
Asks s (Ok AskGraph) before told after = Says (Graph (graph_lines (world before))) before told after
Asks s (Ok (AskDetails configuration)) before told after = Says (details_reply (world before) configuration) before told after
Asks s (Ok (AskAboutService service)) before told after = Says (service_reply (world before) service) before told after
Asks s (Ok (AskDescriptions bundle)) before told after = Says (descriptions_reply (world before) bundle) before told after
Asks s (Ok (AskFind tree)) before told after = Says (Found (found (world before) tree)) before told after
Asks s (Ok (AskEvents listener number)) before told after = Says (events_reply (world before) listener number) before told after
Asks s (Ok (AskBundleEvents number)) before told after = Says (BundleEvents number (bundle_events_after number (world before))) before told after
Asks s (Ok (AskTrace number)) before told after = Says (Trace (turns_above number (history_of before.journal))) before told after
Asks s (Ok AskWiring) before told after = Does AsksWiring before told after
Asks s (Ok (AskBundleWiring bundle)) before told after = Does (AsksBundleWiring bundle) before told after
Asks s (Ok AskRoutes) before told after = Says (Routes (route_lines (routing_in (world before)))) before told after
Asks s (Ok AskConfigurations) before told after = Says (Configurations (configuration_lines (world before))) before told after
Asks s (Ok (AskConfiguration pid)) before told after = Says (configuration_reply (world before) pid) before told after
Asks s (Ok AskListeners) before told after = Says (Listeners (listener_lines (world before))) before told after
Asks s (Ok AskJournal) before told after = Says (journal_reply before) before told after
Asks s (Ok Settle) before told after = Does (AsksSettle s.refuses) before told after
Asks s (Ok Begin) before told after = Does (Manually s.is_manual AsksBegin) before told after
Asks s (Ok (Finish turn)) before told after = Does (Manually s.is_manual (AsksFinish s.refuses turn)) before told after
Asks s (Ok (Call bundle service request)) before told after = Does (AsksCall s.refuses s.next bundle service request) before told after
Asks s (Ok (Http method target body)) before told after = Does (AsksHttp s.next method target body) before told after
Asks s (Err fault) before told after = Says (Refused (InLine fault)) before told after
