use Rattle.std.proofs.Common.{None, Some}
use Rattle.file_lines.proofs.ReadingLemmas.{first_behind}
use Rattle.file_lines.proofs.ahead.line_feed_from.Goals as goal

pub returns-in-None : goal.returns-in-None
returns-in-None c = first_behind c.args.bytes.now c.args.searched None c.requires.within c.requires.none (rw c.split_at.ensures.back at c.in-None.ensures)

pub returns-in-Some : goal.returns-in-Some
returns-in-Some c = first_behind c.args.bytes.now c.args.searched (Some c.in-Some.at) c.requires.within c.requires.none (rw c.split_at.ensures.back at c.in-Some.ensures)
