use Rattle.std.proofs.Common.{ℕ, ◌<◌, length, drop}
use Rattle.http_wire.specs.Continuation.{ending, IsEndedBy}
use Rattle.http_wire.proofs.continuation.has_end.Given as goal

abbrev pub invariant-loop-skip : goal.invariant-loop-skip
invariant-loop-skip l = (k : ℕ) → k < l.skip → ¬ (IsEndedBy l.bytes (drop k ending) l.most (length l.room))
