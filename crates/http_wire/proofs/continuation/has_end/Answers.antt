use Rattle.std.proofs.Common.{◌≡◌, refl, length, subst, arith}
use Rattle.http_wire.specs.Continuation.{part, IsEndedBy}
use Rattle.http_wire.proofs.continuation.has_end.Goals as goal

pub returns-then-branch-2 : goal.returns-then-branch-2
returns-then-branch-2 c =
    let same : length c.loop-skip.room ≡ length c.args.room.now = omega arith in
    let ended = subst (λ n. IsEndedBy c.args.bytes.now c.ending_from.result.now c.args.most n) same (c.in_ok-is_ended_by-2.ensures.0 c.if-branch-2.true) in
    (λ _. record { tail = c.ending_from.result.now; is_tail = part c.loop-skip.skip c.loop-skip-test.true c.ending_from.ensures; ends = ended }, λ _. refl)
