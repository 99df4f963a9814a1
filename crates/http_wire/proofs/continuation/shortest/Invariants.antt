use Rattle.std.proofs.Common.{◌≤◌, ◌-◌, length, take}
use Rattle.http_wire.specs.Heads.{GoesOn}
use Rattle.http_wire.proofs.continuation.shortest.Given as goal

abbrev pub invariant-loop-high : goal.invariant-loop-high
invariant-loop-high l = record {
  ordered : l.low ≤ l.high;
  in_range : l.high ≤ length l.bytes;
  below : GoesOn (take l.low l.bytes);
  above : ¬ (GoesOn (take l.high l.bytes));
}

abbrev pub decreases-loop-high : goal.decreases-loop-high
decreases-loop-high l = l.high - l.low
