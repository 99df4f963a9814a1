-- The pass goes on over what it serves, and the fronts of the items never fall.
use Rattle.std.proofs.Common.{◌≡◌, ◌≤◌, ◌+◌, ℕ, List, [], ◌∷◌, ◌++◌, length, ap, sym, subst, arith, Ok, Err, Some, None, inl, inr}
use Rattle.std.specs.Prelude.{Result}
use Rattle.std.specs.declared.option.Option.{Option}
use Rattle.hall_goings.specs.Went.{Went}
use Rattle.hall_goings.proofs.Chains.{longer, went_nowhere, went_on}
use Rattle.platform_sessions.specs.Commands.{Refused, TakesCommand}
use Rattle.platform_sessions.specs.Halls.{Own, View}
use Rattle.scr_world.specs.declared.command.Command.{Command}
use Rattle.scr_world.specs.declared.command.Limits.{Limits}
use Rattle.scr_world.specs.declared.reply.CoreFault.{CoreFault}
use Rattle.scr_world.specs.declared.reply.CoreFault.TheVariants.{NoBundle, NoComponent, WrongState, Stopping, SameName, Cycle, BundlesFull, ComponentsFull, ServicesFull, ConfigurationsFull, ListenersFull, NoService, NotOwner, NotUsing, NoListener, NoConfiguration, BadPid, FactoryClash, ActivationFailed, ActivationNoMemory, JournalFull, OutOfMemory}
use Rattle.scr_world.specs.declared.reply.Reply.{Reply}
use Rattle.shell_lang.specs.ShellLines.{Asked, shell_line}
use Rattle.shell_lang.specs.declared.shell_line.ShellLine.{ShellLine}
use Rattle.shell_lang.specs.declared.shell_line.ShellLine.TheVariants.{Silent, Quit, Help as AskHelp, Command as Commanded, Bundles as AskBundles, Services as AskServices, Components as AskComponents, Report as AskReport, Held as AskHeld, ListComponents as AskListComponents, Graph as AskGraph, Details as AskDetails, AboutService as AskAboutService, Descriptions as AskDescriptions, Find as AskFind, Events as AskEvents, BundleEvents as AskBundleEvents, Trace as AskTrace, Wiring as AskWiring, BundleWiring as AskBundleWiring, Routes as AskRoutes, Configurations as AskConfigurations, Configuration as AskConfiguration, Listeners as AskListeners, Journal as AskJournal, Settle, Begin, Finish, Call, Http}
use Rattle.shell_lang.specs.declared.shell_reply.Refusal.{Refusal}
use Rattle.shell_lang.specs.declared.shell_reply.Refusal.TheVariants.{Line as InLine, NotBuilt, NotManual}
use Rattle.session_shell.specs.Fronts.{Rising, front_in}
use Rattle.session_shell.specs.Items.{Notes, Refuses, ServesCommand, ServesLine, ServesLook, ServesSettle, Setting, command_item, noted}
use Rattle.session_shell.specs.Sessions.{ServedLines}
use Rattle.session_shell.specs.declared.item.SessionItem.{SessionItem}

-- what becomes of the pass, and where the fronts are
abbrev pub Comes : View → View → List SessionItem → Type 0
Comes before after items = ((own : Own) × Went before after own) × Rising (length before.seen) items (length after.seen)

at_front : (before after : View) (own : Own) → Went before after own → (item : SessionItem) (told : Option SessionItem) → told ≡ Some item → length before.seen ≤ front_in item → front_in item ≤ length after.seen
    → Comes before after (noted told)
at_front before after own went item told tells low high = subst (λ (t : Option SessionItem). Comes before after (noted t)) (sym tells) ((own, went), (low, high))

-- ---- what a line does

refused_comes : (refusal : Refusal) (before after : View) (told : Option SessionItem) → Notes (Refuses refusal before after) told → Comes before after (noted told)
refused_comes refusal before after told (item, (same, is), tells) =
    let went : Went before after [] = subst (λ (v : View). Went before v []) (sym same) (went_nowhere before) in
    let more : length before.seen ≤ length after.seen = longer before after [] went in
    let at : front_in item ≡ length before.seen = ap front_in is in
    at_front before after [] went item told tells (omega (arith, at)) (omega (arith, at, more))

look_comes : (s : Setting) (line : ShellLine) (before after : View) (told : Option SessionItem) → Notes (ServesLook s line before after) told → Comes before after (noted told)
look_comes s line before after told (item, (went, (reply, looks, is)), tells) =
    let more : length before.seen ≤ length after.seen = longer before after [] went in
    let at : front_in item ≡ length after.seen = ap front_in is in
    at_front before after [] went item told tells (omega (arith, at, more)) (omega (arith, at))

settle_comes : (s : Setting) (before after : View) (told : Option SessionItem) → Notes (ServesSettle s before after) told → Comes before after (noted told)
settle_comes s before after told (item, (count, works, is), tells) =
    let went = works.0.ran.went in
    let more : length before.seen ≤ length after.seen = longer before after works.0.own went in
    let at : front_in item ≡ length after.seen = ap front_in is in
    at_front before after works.0.own went item told tells (omega (arith, at, more)) (omega (arith, at))

refused_goes : (limits : Limits) (before after : View) (command : Command) (fault : CoreFault) → Refused limits before after command fault → Went before after []
refused_goes limits before after command OutOfMemory (went, may) = went
refused_goes limits before after command (NoBundle bundle) still = still.went
refused_goes limits before after command (NoComponent name) still = still.went
refused_goes limits before after command (WrongState state) still = still.went
refused_goes limits before after command (Stopping instance) still = still.went
refused_goes limits before after command (SameName bundle) still = still.went
refused_goes limits before after command (Cycle path) still = still.went
refused_goes limits before after command BundlesFull still = still.went
refused_goes limits before after command ComponentsFull still = still.went
refused_goes limits before after command ServicesFull still = still.went
refused_goes limits before after command ConfigurationsFull still = still.went
refused_goes limits before after command ListenersFull still = still.went
refused_goes limits before after command (NoService service) still = still.went
refused_goes limits before after command (NotOwner owner) still = still.went
refused_goes limits before after command NotUsing still = still.went
refused_goes limits before after command (NoListener listener) still = still.went
refused_goes limits before after command NoConfiguration still = still.went
refused_goes limits before after command BadPid still = still.went
refused_goes limits before after command FactoryClash still = still.went
refused_goes limits before after command (ActivationFailed instance) still = still.went
refused_goes limits before after command (ActivationNoMemory instance) still = still.went
refused_goes limits before after command JournalFull still = still.went

-- what became of the pass by a command, and its front
abbrev CommandComes : View → View → Result (ℕ × Reply) CoreFault → Type 0
CommandComes before after answer =
    (own : Own) × Went before after own × (length before.seen ≤ front_in (command_item after answer)) × (front_in (command_item after answer) ≤ length after.seen)

command_goes : (limits : Limits) (command : Command) (before after : View) (answer : Result (ℕ × Reply) CoreFault) → TakesCommand limits before after command answer → CommandComes before after answer
command_goes limits command before after (Ok (front, reply)) (inl (t, posted)) =
    let is : front ≡ t.place + 1 = t.front_is in
    let low : length before.seen ≤ t.place = t.behind in
    let high : front ≤ length after.seen = t.within in
    ((t.place, t.entry) ∷ t.drains, t.went, omega (arith, is, low), high)
command_goes limits command before after (Ok (front, reply)) (inr still) =
    let more : length before.seen ≤ length after.seen = longer before after [] still.went in
    let is : front ≡ length after.seen = still.front_is in
    ([], still.went, omega (arith, is, more), omega (arith, is))
command_goes limits command before after (Err fault) refused =
    let went = refused_goes limits before after command fault refused in
    ([], went, longer before after [] went, omega arith)

command_comes : (s : Setting) (command : Command) (before after : View) (told : Option SessionItem) → Notes (ServesCommand s command before after) told → Comes before after (noted told)
command_comes s command before after told (item, (answer, takes, fits, is), tells) =
    let goes = command_goes s.limits command before after answer takes in
    let at : front_in item ≡ front_in (command_item after answer) = ap front_in is in
    let low = goes.2 in
    let high = goes.3 in
    at_front before after goes.0 goes.1 item told tells (omega (arith, at, low)) (omega (arith, at, high))

silent_comes : (before after : View) (told : Option SessionItem) → (after ≡ before) × (told ≡ None) → Comes before after (noted told)
silent_comes before after told (same, none) =
    let went : Went before after [] = subst (λ (v : View). Went before v []) (sym same) (went_nowhere before) in
    subst (λ (t : Option SessionItem). Comes before after (noted t)) (sym none) (([], went), longer before after [] went)

pub line_comes : (s : Setting) (asked : Asked) (before after : View) (told : Option SessionItem) → ServesLine s asked before after told → Comes before after (noted told)
line_comes s (Err fault) before after told serves = refused_comes (InLine fault) before after told serves
line_comes s (Ok Silent) before after told serves = silent_comes before after told serves
line_comes s (Ok Quit) before after told serves = absurd serves
line_comes s (Ok (Commanded command)) before after told serves = command_comes s command before after told serves
line_comes s (Ok Settle) before after told serves = settle_comes s before after told serves
line_comes s (Ok Begin) before after told serves = refused_comes NotManual before after told serves
line_comes s (Ok (Finish turn)) before after told serves = refused_comes NotManual before after told serves
line_comes s (Ok (Call bundle service request)) before after told serves = refused_comes NotBuilt before after told serves
line_comes s (Ok (Http method target body)) before after told serves = refused_comes NotBuilt before after told serves
line_comes s (Ok (AskHelp rows)) before after told serves = look_comes s (AskHelp rows) before after told serves
line_comes s (Ok AskBundles) before after told serves = look_comes s AskBundles before after told serves
line_comes s (Ok AskServices) before after told serves = look_comes s AskServices before after told serves
line_comes s (Ok AskComponents) before after told serves = look_comes s AskComponents before after told serves
line_comes s (Ok (AskReport configuration)) before after told serves = look_comes s (AskReport configuration) before after told serves
line_comes s (Ok (AskHeld configuration)) before after told serves = look_comes s (AskHeld configuration) before after told serves
line_comes s (Ok (AskFind tree)) before after told serves = look_comes s (AskFind tree) before after told serves
line_comes s (Ok (AskEvents listener number)) before after told serves = look_comes s (AskEvents listener number) before after told serves
line_comes s (Ok (AskBundleEvents number)) before after told serves = look_comes s (AskBundleEvents number) before after told serves
line_comes s (Ok (AskTrace number)) before after told serves = look_comes s (AskTrace number) before after told serves
line_comes s (Ok AskWiring) before after told serves = look_comes s AskWiring before after told serves
line_comes s (Ok (AskBundleWiring bundle)) before after told serves = look_comes s (AskBundleWiring bundle) before after told serves
line_comes s (Ok AskRoutes) before after told serves = look_comes s AskRoutes before after told serves
line_comes s (Ok AskListComponents) before after told serves = look_comes s AskListComponents before after told serves
line_comes s (Ok AskGraph) before after told serves = look_comes s AskGraph before after told serves
line_comes s (Ok (AskDetails configuration)) before after told serves = look_comes s (AskDetails configuration) before after told serves
line_comes s (Ok (AskAboutService service)) before after told serves = look_comes s (AskAboutService service) before after told serves
line_comes s (Ok (AskDescriptions bundle)) before after told serves = look_comes s (AskDescriptions bundle) before after told serves
line_comes s (Ok AskConfigurations) before after told serves = look_comes s AskConfigurations before after told serves
line_comes s (Ok (AskConfiguration pid)) before after told serves = look_comes s (AskConfiguration pid) before after told serves
line_comes s (Ok AskListeners) before after told serves = look_comes s AskListeners before after told serves
line_comes s (Ok AskJournal) before after told serves = look_comes s AskJournal before after told serves

-- ---- what lines do

rising_on : (from between to : ℕ) (xs ys : List SessionItem) → Rising from xs between → Rising between ys to → Rising from (xs ++ ys) to
rising_on from between to [] [] first second = omega (arith, first, second)
rising_on from between to [] (y ∷ ys) first second = let low = second.0 in (omega (arith, first, low), second.1)
rising_on from between to (x ∷ xs) ys first second = (first.0, rising_on (front_in x) between to xs ys first.1 second)

pub lines_come : (s : Setting) (lines : List (List ℕ)) (before after : View) (items : List SessionItem) → ServedLines s lines before after items → Comes before after items
lines_come s [] before after items (same, none) =
    let went : Went before after [] = subst (λ (v : View). Went before v []) (sym same) (went_nowhere before) in
    subst (λ (xs : List SessionItem). Comes before after xs) (sym none) (([], went), longer before after [] went)
lines_come s (line ∷ lines) before after items (between, told, rest, serves, served, is) =
    let first = line_comes s (shell_line line) before between told serves in
    let then = lines_come s lines between after rest served in
    subst (λ (xs : List SessionItem). Comes before after xs) (sym is) (
      (first.0.0 ++ then.0.0, went_on before between after first.0.0 then.0.0 first.0.1 then.0.1),
      rising_on (length before.seen) (length between.seen) (length after.seen) (noted told) rest first.1 then.1,
    )
