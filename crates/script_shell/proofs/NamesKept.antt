-- Behind each line the references of each installed description differ in name, where they did before it.
use Rattle.std.proofs.Common.{◌≡◌, ℕ, List, [], ◌∷◌, ◌++◌, sym, subst, cond, Bool, true, false, Ok, Err, inl, inr}
use Rattle.std.specs.declared.option.Option.{Option}
use Rattle.component_state.proofs.Apart.{in_cases, in_either, in_none}
use Rattle.platform_hall.specs.Cores.{CoreView}
use Rattle.scr_promises.specs.Names.{HaveOwnNames}
use Rattle.scr_world.specs.declared.command.Command.{Command}
use Rattle.scr_world.specs.declared.command.Limits.{Limits}
use Rattle.scr_world.specs.Lists.{world_of}
use Rattle.scr_world.specs.Replies.{changes}
use Rattle.shell_lang.specs.declared.shell_line.ShellLine.TheVariants.{Silent, Quit, Help, Command as Commanded, Bundles, Services, Components, Report, Held, ListComponents, Graph, Details, AboutService, Descriptions, Find, Events, BundleEvents, Trace, Wiring, BundleWiring, Routes, Configurations, Configuration, Listeners, Journal, Settle, Begin, Finish, Call, Http}
use Rattle.shell_lang.specs.declared.shell_reply.ShellReply.{ShellReply}
use Rattle.shell_lang.specs.ShellLines.{Asked, shell_line}
use Rattle.platform_hall.specs.Platforms.{world}
use Rattle.script_shell.specs.Asks.{Asks, Setting, commands_of}
use Rattle.script_shell.specs.LineTexts.{Answer}
use Rattle.script_shell.specs.Runs.{Ran}
use Rattle.script_shell.proofs.LineGrowth.{grew_asks, grew_ran}
use Rattle.script_shell.proofs.LineNames.{AskedNamed, CommandNamed, line_named}
use Rattle.script_shell.proofs.OwnNames.{AllNamed, grew_named}

none_named : AllNamed []
none_named command h = absurd (in_none command h)

one_named : (command : Command) → CommandNamed command → AllNamed (command ∷ [])
one_named command its other h = elim (in_cases command [] other h) [
  | inl same ↦ (let P : Command → Type 0 = λ c. CommandNamed c in subst P same its)
  | inr none ↦ absurd (in_none other none)
]

if_named : (change : Bool) (command : Command) → CommandNamed command → AllNamed (cond change (command ∷ []) [])
if_named true command its = one_named command its
if_named false command its = none_named

-- the commands of a line
asked_all : (asked : Asked) (before : CoreView) → AskedNamed asked → AllNamed (commands_of before asked)
asked_all (Ok Silent) before its = none_named
asked_all (Ok Quit) before its = none_named
asked_all (Ok (Help rows)) before its = none_named
asked_all (Ok (Commanded command)) before its = if_named (changes before.limits.journal (world before) command) command its
asked_all (Ok Bundles) before its = none_named
asked_all (Ok Services) before its = none_named
asked_all (Ok Components) before its = none_named
asked_all (Ok (Report configuration)) before its = none_named
asked_all (Ok (Held configuration)) before its = none_named
asked_all (Ok (Find tree)) before its = none_named
asked_all (Ok (Events listener number)) before its = none_named
asked_all (Ok (BundleEvents number)) before its = none_named
asked_all (Ok (Trace number)) before its = none_named
asked_all (Ok Wiring) before its = none_named
asked_all (Ok (BundleWiring bundle)) before its = none_named
asked_all (Ok Routes) before its = none_named
asked_all (Ok ListComponents) before its = none_named
asked_all (Ok Graph) before its = none_named
asked_all (Ok (Details configuration)) before its = none_named
asked_all (Ok (AboutService service)) before its = none_named
asked_all (Ok (Descriptions bundle)) before its = none_named
asked_all (Ok Configurations) before its = none_named
asked_all (Ok (Configuration pid)) before its = none_named
asked_all (Ok Listeners) before its = none_named
asked_all (Ok Journal) before its = none_named
asked_all (Ok Settle) before its = none_named
asked_all (Ok Begin) before its = none_named
asked_all (Ok (Finish turn)) before its = none_named
asked_all (Ok (Call bundle service request)) before its = none_named
asked_all (Ok (Http method target body)) before its = none_named
asked_all (Err fault) before its = none_named

line_all : (line : List ℕ) (before : CoreView) → AllNamed (commands_of before (shell_line line))
line_all line before = asked_all (shell_line line) before (line_named line)

same_all : (commands commands' : List Command) → commands ≡ commands' → AllNamed commands → AllNamed commands'
same_all commands commands' same all = let P : List Command → Type 0 = λ cs. AllNamed cs in subst P same all

both_all : (some others : List Command) → AllNamed some → AllNamed others → AllNamed (some ++ others)
both_all some others first rest command h = elim (in_either some others command h) [ inl l ↦ first command l | inr r ↦ rest command r ]

ran_all : (s : Setting) (first : CoreView) (lines : List (List ℕ)) (before after : CoreView) (commands : List Command) (answers : List Answer) → Ran s first lines before after commands answers → AllNamed commands
ran_all s first [] before after commands answers (same, none, nothing) = same_all [] commands (sym none) none_named
ran_all s first (line ∷ lines) before after commands answers (between, told, later, rest, runs, ran, all, whole) =
    same_all (commands_of before (shell_line line) ++ later) commands (sym all)
    (both_all (commands_of before (shell_line line)) later (line_all line before) (ran_all s first lines between after later rest ran))

pub asks_named : (s : Setting) (line : List ℕ) (before after : CoreView) (told : Option ShellReply) → Asks s (shell_line line) before told after → HaveOwnNames (world before) → HaveOwnNames (world after)
asks_named s line before after told asks named =
    grew_named before after (commands_of before (shell_line line)) (grew_asks s (shell_line line) before after told asks) (line_all line before) named

pub ran_named : (s : Setting) (first before after : CoreView) (lines : List (List ℕ)) (commands : List Command) (answers : List Answer) → Ran s first lines before after commands answers
    → HaveOwnNames (world before) → HaveOwnNames (world after)
ran_named s first before after lines commands answers ran named =
    grew_named before after commands (grew_ran s first lines before after commands answers ran) (ran_all s first lines before after commands answers ran) named

pub new_named : (limits : Limits) → HaveOwnNames (world (record { limits = limits; journal = [] }))
unfolding world_of
new_named limits d h = absurd (in_none d h)
