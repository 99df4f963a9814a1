use Rattle.std.proofs.Common.{arith}
use Rattle.call_moves.proofs.Recursions.{is_recursion}
use Rattle.call_moves.proofs.laws.note_recursion.Goals as goal

pub returns : goal.returns
returns c = λ reaches next instance site request fronts. is_recursion reaches next 65 130 instance site request fronts (omega arith) (omega arith)
