use Rattle.call_moves.proofs.Moves.{all_further}
use Rattle.call_moves.proofs.laws.note_further_fronts.Goals as goal

pub returns : goal.returns
returns c = λ reaches next k call more fed. all_further reaches next k call more fed
