-- What a line comes to in a session, by what the hall answers.
use Rattle.std.proofs.Common.{◌≡◌, ◌∙◌, ℕ, [], length, ap, refl, subst, true, Ok, Err, Some}
use Rattle.std.specs.Prelude.{◌≢◌, Result}
use Rattle.std.specs.declared.option.Option.{Option}
use Rattle.hall_goings.specs.Went.{Went}
use Rattle.platform_sessions.specs.Commands.{TakesCommand}
use Rattle.platform_sessions.specs.Halls.{View, core_seen}
use Rattle.platform_sessions.specs.Works.{Works}
use Rattle.script_shell.specs.Looks.{Looks, is_look}
use Rattle.scr_world.specs.declared.command.Command.{Command as CoreCommand}
use Rattle.scr_world.specs.declared.reply.CoreFault.{CoreFault}
use Rattle.scr_world.specs.declared.reply.CoreFault.TheVariants.{NoBundle, NoComponent, WrongState, Stopping, SameName, Cycle, BundlesFull, ComponentsFull, ServicesFull, ConfigurationsFull, ListenersFull, NoService, NotOwner, NotUsing, NoListener, NoConfiguration, BadPid, FactoryClash, ActivationFailed, ActivationNoMemory, JournalFull as InCore, OutOfMemory as NoMemoryThere}
use Rattle.shell_lang.specs.declared.shell_line.ShellLine.{ShellLine}
use Rattle.shell_lang.specs.declared.shell_line.ShellLine.TheVariants.{Silent, Quit, Help, Command, Settle, Begin, Finish, Call, Http, Bundles, Services, Components, Report, Held, ListComponents, Graph, Details, AboutService, Descriptions, Find, Events, BundleEvents, Trace, Wiring, BundleWiring, Routes, Configurations, Configuration, Listeners, Journal}
use Rattle.shell_lang.specs.declared.shell_reply.ShellReply.{ShellReply}
use Rattle.session_shell.specs.Answers.{IsLooked, LooksOr, Serves, ServesOr, StopsBy, TellsFault}
use Rattle.session_shell.specs.Items.{ServesCommand, ServesLine, ServesLook, ServesSettle, Setting, line_at}
use Rattle.session_shell.specs.Sessions.{Starves}
use Rattle.session_shell.specs.declared.item.SessionItem.{SessionItem}
use Rattle.session_shell.specs.declared.line_stop.LineStop.{LineStop}
use Rattle.session_shell.specs.declared.line_stop.LineStop.TheVariants.{JournalFull as NoRoom, NoMemory as NoMemoryLeft}

-- ---- commands

-- what a command that isn't accepted comes to
pub refused_served : (s : Setting) (command : CoreCommand) (before after : View) (fault : CoreFault) (said : Result SessionItem LineStop) → TakesCommand s.limits before after command (Err fault) → TellsFault (length after.seen) fault said
    → ServesOr s (Ok (Command command)) (λ s. ServesCommand s command) before after said
refused_served s command before after fault (Ok item) takes (told, is) = (Err fault, takes, told, is)
refused_served s command before after fault (Err NoRoom) takes is = let P : CoreFault → Type 0 = λ f. TakesCommand s.limits before after command (Err f) in subst P is takes
refused_served s command before after fault (Err NoMemoryLeft) takes is = let P : CoreFault → Type 0 = λ f. TakesCommand s.limits before after command (Err f) in subst P is takes

-- ---- turns

-- what isn't a full journal there is want of memory
only_memory : (s : Setting) (before after : View) (fault : CoreFault) → Works s.refuses s.limits before after s.limits.turns (Err fault) → fault ≢ InCore → fault ≡ NoMemoryThere
only_memory s before after InCore works other = absurd (other refl)
only_memory s before after NoMemoryThere works other = refl
only_memory s before after (NoBundle bundle) works other = absurd works.1
only_memory s before after (NoComponent name) works other = absurd works.1
only_memory s before after (WrongState state) works other = absurd works.1
only_memory s before after (Stopping instance) works other = absurd works.1
only_memory s before after (SameName bundle) works other = absurd works.1
only_memory s before after (Cycle path) works other = absurd works.1
only_memory s before after BundlesFull works other = absurd works.1
only_memory s before after ComponentsFull works other = absurd works.1
only_memory s before after ServicesFull works other = absurd works.1
only_memory s before after ConfigurationsFull works other = absurd works.1
only_memory s before after ListenersFull works other = absurd works.1
only_memory s before after (NoService service) works other = absurd works.1
only_memory s before after (NotOwner owner) works other = absurd works.1
only_memory s before after NotUsing works other = absurd works.1
only_memory s before after (NoListener listener) works other = absurd works.1
only_memory s before after NoConfiguration works other = absurd works.1
only_memory s before after BadPid works other = absurd works.1
only_memory s before after FactoryClash works other = absurd works.1
only_memory s before after (ActivationFailed instance) works other = absurd works.1
only_memory s before after (ActivationNoMemory instance) works other = absurd works.1

-- what turns come to that stop the session
pub settle_stopped : (s : Setting) (before after : View) (fault : CoreFault) (stop : LineStop) → Works s.refuses s.limits before after s.limits.turns (Err fault) → StopsBy fault stop
    → ServesOr s (Ok Settle) ServesSettle before after (Err stop)
settle_stopped s before after fault NoRoom works is = let P : CoreFault → Type 0 = λ f. Works s.refuses s.limits before after s.limits.turns (Err f) in subst P is works
settle_stopped s before after fault NoMemoryLeft works other =
    let P : CoreFault → Type 0 = λ f. Works s.refuses s.limits before after s.limits.turns (Err f) in subst P (only_memory s before after fault works other) works

-- ---- looks

-- what a look came to that was told
pub look_served : {E : Type 0} (s : Setting) (line asked : ShellLine) (before after : View) (front : ℕ) (told : Option (Result ShellReply E)) (reply : ShellReply) (item : SessionItem) → asked ≡ line → Went before after [] → front ≡ length after.seen
    → IsLooked asked (core_seen s.limits after) told → told ≡ Some (Ok reply) → item ≡ line_at front reply → ServesLook s line before after item
look_served {E} s line asked before after front told reply item same went at looked tells is =
    let P : Option (Result ShellReply E) → Type 0 = λ t. IsLooked asked (core_seen s.limits after) t in
    let Q : ShellLine → Type 0 = λ l. Looks l (core_seen s.limits after) reply in
    (went, (reply, subst Q same (subst P tells looked), is ∙ ap (λ n. line_at n reply) at))

-- a line that looks is served as a look
pub look_line : (s : Setting) (line : ShellLine) (before after : View) (item : SessionItem) → is_look line ≡ true → ServesLook s line before after item → ServesLine s (Ok line) before after (Some item)
look_line s Bundles before after item is looks = (item, looks, refl)
look_line s Services before after item is looks = (item, looks, refl)
look_line s Components before after item is looks = (item, looks, refl)
look_line s (Report configuration) before after item is looks = (item, looks, refl)
look_line s (Held configuration) before after item is looks = (item, looks, refl)
look_line s (Find tree) before after item is looks = (item, looks, refl)
look_line s (Events listener number) before after item is looks = (item, looks, refl)
look_line s (BundleEvents number) before after item is looks = (item, looks, refl)
look_line s (Trace number) before after item is looks = (item, looks, refl)
look_line s Wiring before after item is looks = (item, looks, refl)
look_line s (BundleWiring bundle) before after item is looks = (item, looks, refl)
look_line s Routes before after item is looks = (item, looks, refl)
look_line s ListComponents before after item is looks = (item, looks, refl)
look_line s Graph before after item is looks = (item, looks, refl)
look_line s (Details configuration) before after item is looks = (item, looks, refl)
look_line s (AboutService service) before after item is looks = (item, looks, refl)
look_line s (Descriptions bundle) before after item is looks = (item, looks, refl)
look_line s Configurations before after item is looks = (item, looks, refl)
look_line s (Configuration pid) before after item is looks = (item, looks, refl)
look_line s Listeners before after item is looks = (item, looks, refl)
look_line s Journal before after item is looks = (item, looks, refl)
look_line s Silent before after item is looks = absurd cc
look_line s Quit before after item is looks = absurd cc
look_line s (Help rows) before after item is looks = absurd cc
look_line s (Command command) before after item is looks = absurd cc
look_line s Settle before after item is looks = absurd cc
look_line s Begin before after item is looks = absurd cc
look_line s (Finish turn) before after item is looks = absurd cc
look_line s (Call bundle service request) before after item is looks = absurd cc
look_line s (Http method target body) before after item is looks = absurd cc

look_starves : (s : Setting) (line : ShellLine) (before after : View) → is_look line ≡ true → Went before after [] → Starves s (Ok line) before after
look_starves s Bundles before after is went = went
look_starves s Services before after is went = went
look_starves s Components before after is went = went
look_starves s (Report configuration) before after is went = went
look_starves s (Held configuration) before after is went = went
look_starves s (Find tree) before after is went = went
look_starves s (Events listener number) before after is went = went
look_starves s (BundleEvents number) before after is went = went
look_starves s (Trace number) before after is went = went
look_starves s Wiring before after is went = went
look_starves s (BundleWiring bundle) before after is went = went
look_starves s Routes before after is went = went
look_starves s ListComponents before after is went = went
look_starves s Graph before after is went = went
look_starves s (Details configuration) before after is went = went
look_starves s (AboutService service) before after is went = went
look_starves s (Descriptions bundle) before after is went = went
look_starves s Configurations before after is went = went
look_starves s (Configuration pid) before after is went = went
look_starves s Listeners before after is went = went
look_starves s Journal before after is went = went
look_starves s Silent before after is went = absurd cc
look_starves s Quit before after is went = absurd cc
look_starves s (Help rows) before after is went = absurd cc
look_starves s (Command command) before after is went = absurd cc
look_starves s Settle before after is went = absurd cc
look_starves s Begin before after is went = absurd cc
look_starves s (Finish turn) before after is went = absurd cc
look_starves s (Call bundle service request) before after is went = absurd cc
look_starves s (Http method target body) before after is went = absurd cc

pub look_stops : (s : Setting) (line : ShellLine) (before after : View) (stop : LineStop) → is_look line ≡ true → LooksOr s line before after (Err stop) → Serves s (Ok line) before after (Err stop)
look_stops s line before after NoRoom is looks = absurd looks
look_stops s line before after NoMemoryLeft is looks = look_starves s line before after is looks
