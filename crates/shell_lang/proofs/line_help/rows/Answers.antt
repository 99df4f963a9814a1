use Rattle.std.proofs.Common.{refl}
use Rattle.shell_lang.specs.Help.{lines}
use Rattle.shell_lang.proofs.line_help.rows.Goals as goal

pub returns : goal.returns
unfolding lines
returns c = refl
