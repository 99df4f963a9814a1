-- Lines that only look. Our own form.
use Rattle.std.specs.Prelude.{Bool, true, false, Some, Ok}
use Rattle.platform_hall.specs.Cores.{CoreView}
use Rattle.script_shell.specs.Asks.{Asks, Setting}
use Rattle.shell_lang.specs.declared.shell_line.ShellLine.{ShellLine}
use Rattle.shell_lang.specs.declared.shell_line.ShellLine.TheVariants.{Silent, Quit, Help, Command, Settle, Begin, Finish, Call, Http}
use Rattle.shell_lang.specs.declared.shell_reply.ShellReply.{ShellReply}

-- a line that looks at the core and asks nothing else
abbrev pub is_look : ShellLine → Bool
is_look Silent = false
is_look Quit = false
is_look (Help rows) = false
is_look (Command command) = false
is_look Settle = false
is_look Begin = false
is_look (Finish turn) = false
is_look (Call bundle service request) = false
is_look (Http method target body) = false
is_look _ = true

-- what a line is told of a core that stays as it is: just what a script's line is told there, however the script is run
abbrev pub Looks : ShellLine → CoreView → ShellReply → Type 0
Looks line core reply = (s : Setting) → Asks s (Ok line) core (Some reply) core
