use Rattle.std.proofs.Common.{refl}
use Rattle.std.specs.Prelude.{[]}
use Rattle.script_shell.proofs.asked.settled.Goals as goal

pub returns-in-Err : goal.returns-in-Err
returns-in-Err g c = ([], (c.in-Err.ensures.settles, refl))
