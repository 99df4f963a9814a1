-- What a line of a session comes to: what its pass had seen before, what it has seen afterwards, and what is noted. Our own.
use Rattle.std.specs.Prelude.{◌≡◌, ℕ, List, [], ◌∷◌, length, Bool, Option, Some, None, Result, Ok, Err}
use Rattle.std.specs.Option.{option_map_or}
use Rattle.hall_goings.specs.Went.{Went}
use Rattle.kind_trait.specs.Meanings.{Told}
use Rattle.platform_sessions.specs.Commands.{TakesCommand}
use Rattle.platform_sessions.specs.Halls.{View, core_seen}
use Rattle.platform_sessions.specs.Works.{Works}
use Rattle.script_shell.specs.Asks.{command_reply}
use Rattle.script_shell.specs.Looks.{Looks}
use Rattle.script_shell.specs.Refusals.{IsAnswer}
use Rattle.prop_map.specs.declared.properties.Property.{Property}
use Rattle.scr_world.specs.declared.command.Command.{Command}
use Rattle.scr_world.specs.declared.command.Limits.{Limits}
use Rattle.scr_world.specs.declared.reply.CoreFault.{CoreFault}
use Rattle.scr_world.specs.declared.reply.Reply.{Reply}
use Rattle.shell_lang.specs.ShellLines.{Asked}
use Rattle.shell_lang.specs.declared.shell_line.ShellLine.{ShellLine}
use Rattle.shell_lang.specs.declared.shell_line.ShellLine.TheVariants.{Silent, Quit, Command as Commanded, Settle, Begin, Finish, Call, Http}
use Rattle.shell_lang.specs.declared.shell_reply.Refusal.{Refusal}
use Rattle.shell_lang.specs.declared.shell_reply.Refusal.TheVariants.{Line as InLine, NotBuilt, NotManual}
use Rattle.shell_lang.specs.declared.shell_reply.ShellReply.{ShellReply}
use Rattle.shell_lang.specs.declared.shell_reply.ShellReply.TheVariants.{Refused, Turns}
use Rattle.session_shell.specs.declared.item.SessionItem.{SessionItem}
use Rattle.session_shell.specs.declared.item.SessionItem.TheVariants.{Line}

-- what sessions of a hall are served by: its limits, and which callbacks its component code refuses
pub record Setting : Type 0 where
  pub limits : Limits
  pub refuses : List ℕ → List Property → Told → Bool

-- a line's reply at a front; no line makes a nested call
abbrev pub line_at : ℕ → ShellReply → SessionItem
line_at front reply = Line front reply []

-- ---- commands

-- what is told of a command's answer: just behind the command's entry, or at all that the pass has seen then
abbrev pub command_item : View → Result (ℕ × Reply) CoreFault → SessionItem
command_item after (Ok answer) = line_at answer.0 (command_reply (Ok answer.1))
command_item after (Err fault) = line_at (length after.seen) (command_reply (Err fault))

-- a command is taken, or refused; a full journal and want of memory aren't told
abbrev pub ServesCommand : Setting → Command → View → View → SessionItem → Type 0
ServesCommand s command before after item =
    (answer : Result (ℕ × Reply) CoreFault) × TakesCommand s.limits before after command answer × IsAnswer answer × (item ≡ command_item after answer)

-- ---- turns and looks

-- turns run, as many as the limit says at most, and their number is told
abbrev pub ServesSettle : Setting → View → View → SessionItem → Type 0
ServesSettle s before after item =
    (count : ℕ) × Works s.refuses s.limits before after s.limits.turns (Ok count) × (item ≡ line_at (length after.seen) (Turns count))

-- the pass looks once at most and appends nothing; what is told of all that it has seen then is just what a script's line is told
abbrev pub ServesLook : Setting → ShellLine → View → View → SessionItem → Type 0
ServesLook s line before after item =
    Went before after [] × ((reply : ShellReply) × Looks line (core_seen s.limits after) reply × (item ≡ line_at (length after.seen) reply))

-- a line is refused without a look
abbrev pub Refuses : Refusal → View → View → SessionItem → Type 0
Refuses refusal before after item = (after ≡ before) × (item ≡ line_at (length before.seen) (Refused refusal))

-- ---- a line

-- this is noted
abbrev pub Notes : (SessionItem → Type 0) → Option SessionItem → Type 0
Notes serves told = (item : SessionItem) × serves item × (told ≡ Some item)

-- A line is served, and this is noted, or nothing. No other line than these does more than look: one that comes to the shell later is a look of
-- sessions too, by what scripts are told.
abbrev pub ServesLine : Setting → Asked → View → View → Option SessionItem → Type 0
ServesLine s (Err fault) before after told = Notes (Refuses (InLine fault) before after) told
ServesLine s (Ok Silent) before after told = (after ≡ before) × (told ≡ None)
ServesLine s (Ok Quit) before after told = ⊥
ServesLine s (Ok (Commanded command)) before after told = Notes (ServesCommand s command before after) told
ServesLine s (Ok Settle) before after told = Notes (ServesSettle s before after) told
ServesLine s (Ok Begin) before after told = Notes (Refuses NotManual before after) told
ServesLine s (Ok (Finish turn)) before after told = Notes (Refuses NotManual before after) told
ServesLine s (Ok (Call bundle service request)) before after told = Notes (Refuses NotBuilt before after) told
ServesLine s (Ok (Http method target body)) before after told = Notes (Refuses NotBuilt before after) told
ServesLine s (Ok line) before after told = Notes (ServesLook s line before after) told

-- the items of what is noted
abbrev pub noted : Option SessionItem → List SessionItem
noted told = option_map_or (λ item. item ∷ []) told []
