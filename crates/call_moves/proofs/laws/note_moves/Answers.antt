use Rattle.std.proofs.Common.{arith}
use Rattle.call_moves.specs.Evaluations.{after_moves, begun}
use Rattle.call_moves.proofs.Feeding.{begins_with_enough, is_over, stays_enough}
use Rattle.call_moves.proofs.Moves.{rest_once}
use Rattle.call_moves.proofs.Lengths.{rests_at}
use Rattle.call_moves.proofs.laws.note_moves.Goals as goal

pub returns-clause-rests : goal.returns-clause-rests
returns-clause-rests c = λ reaches next instance site request fronts k many.
    let rests = rests_at reaches next k instance site request fronts (omega arith) in
    (rests, rest_once reaches next k 130 (begun instance site request fronts) rests (rests_at reaches next 130 instance site request fronts (omega arith)))

pub returns-clause-over : goal.returns-clause-over
returns-clause-over c = λ reaches next instance site request fronts many.
    is_over (after_moves reaches next 130 (begun instance site request fronts))
    (stays_enough reaches next 130 (begun instance site request fronts) (begins_with_enough reaches next instance site request fronts many))
    (rests_at reaches next 130 instance site request fronts (omega arith))
