use Rattle.std.proofs.Common.{append_assoc, rules}
use Rattle.shell_lang.proofs.graph_text.box_text.Goals as goal

pub returns : goal.returns
returns c = simp append_assoc (search rules)
