use Rattle.std.proofs.Common.{◌≤◌, ◌+◌, length, take, if◌then◌else◌}
use Rattle.std.specs.Io.KnownBytes.{Keeps}
use Rattle.file_lines.specs.Ahead.{NoLineFeed, to_come}
use Rattle.file_lines.proofs.ahead.read_to_line_end.Given as goal

abbrev pub invariant-loop-at : goal.invariant-loop-at
invariant-loop-at g l = record {
  coming : Keeps (to_come l.initial.ended l.initial.bytes (g.In.Source.left l.initial.input)) (to_come l.ended l.bytes (g.In.Source.left l.input));
  within : l.searched ≤ length l.bytes;
  none : NoLineFeed (take l.searched l.bytes);
}

abbrev pub decreases-loop-at : goal.decreases-loop-at
decreases-loop-at g l = if l.ended then g.In.Source.number l.input else g.In.Source.number l.input + 1
