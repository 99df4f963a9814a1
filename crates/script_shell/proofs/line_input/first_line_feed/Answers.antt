use Rattle.script_shell.proofs.FoundLineFeed.{found_line_feed}
use Rattle.script_shell.proofs.line_input.first_line_feed.Goals as goal

pub returns : goal.returns
returns c = found_line_feed c.args.bytes.now c.memchr.result c.memchr.ensures
