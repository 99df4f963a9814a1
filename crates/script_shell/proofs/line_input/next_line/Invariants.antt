use Rattle.std.proofs.Common.{◌≡◌, ◌≤◌, ◌+◌, length, take, false, if◌then◌else◌}
use Rattle.script_shell.specs.Reading.{HasRead, SameBytes, NoLineFeed, not_yet_read}
use Rattle.script_shell.proofs.line_input.next_line.Given as goal

abbrev pub invariant-loop-at : goal.invariant-loop-at
invariant-loop-at g l = record {
  same : SameBytes (not_yet_read l.initial.ahead.ended (g.In.Source.left l.initial.input)) (not_yet_read l.ahead.ended (g.In.Source.left l.input)) l.initial.ahead.bytes.items l.ahead.bytes.items;
  within : l.searched ≤ length l.ahead.bytes.items;
  none : NoLineFeed (take l.searched l.ahead.bytes.items);
  fewer : g.In.Source.number l.input + length l.ahead.bytes.items ≤ g.In.Source.number l.initial.input + length l.initial.ahead.bytes.items;
  taken : l.ahead.ended ≡ false → (l.initial.ahead.ended ≡ false) × HasRead (g.In.Source.left l.initial.input) (g.In.Source.left l.input) l.initial.ahead.bytes.items l.ahead.bytes.items;
  faults : g.In.Source.fault_count l.input ≡ g.In.Source.fault_count l.initial.input;
}

abbrev pub decreases-loop-at : goal.decreases-loop-at
decreases-loop-at g l = if l.ahead.ended then g.In.Source.number l.input else g.In.Source.number l.input + 1
