use Rattle.std.proofs.Common.{◌≤◌, ◌-◌, length, take}
use Rattle.http_wire.specs.ChunkedBody.{IsLessBody}
use Rattle.http_wire.proofs.body_reading.shortest.Given as goal

abbrev pub invariant-loop-high : goal.invariant-loop-high
invariant-loop-high l = record {
  ordered : l.low ≤ l.high;
  in_range : l.high ≤ length l.bytes;
  below : IsLessBody (take l.low l.bytes);
  above : ¬ (IsLessBody (take l.high l.bytes));
}

abbrev pub decreases-loop-high : goal.decreases-loop-high
decreases-loop-high l = l.high - l.low
