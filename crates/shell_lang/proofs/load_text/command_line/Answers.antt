use Rattle.std.proofs.Common.{append_assoc, rules}
use Rattle.shell_lang.proofs.load_text.command_line.Goals as goal

pub returns-in-2 : goal.returns-in-2
returns-in-2 c = simp append_assoc (search rules)
