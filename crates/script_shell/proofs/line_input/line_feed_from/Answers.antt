use Rattle.std.proofs.Common.{None, Some}
use Rattle.script_shell.proofs.ReadingLemmas.{first_behind}
use Rattle.script_shell.proofs.line_input.line_feed_from.Goals as goal

pub returns-in-None : goal.returns-in-None
returns-in-None c = first_behind c.args.bytes.now c.args.searched None c.requires.within c.requires.none (rw c.split_at.ensures.back at c.in-None.ensures)

pub returns-in-Some : goal.returns-in-Some
returns-in-Some c = first_behind c.args.bytes.now c.args.searched (Some c.in-Some.at) c.requires.within c.requires.none (rw c.split_at.ensures.back at c.in-Some.ensures)
