use Rattle.std.proofs.Common.{◌≡◌, ◌+◌, ◌-◌, ◌≤◌, ◌++◌, drop, length, map}
use Rattle.bundle_headers.specs.Lines.{lines_from, marked, section, up_to_empty}
use Rattle.bundle_headers.proofs.line.section.Given as goal

-- the lines so far and those of the rest are all
abbrev pub invariant-loop-start : goal.invariant-loop-start
invariant-loop-start l = record {
  told : l.lines.items ++ map (marked l.bytes) (up_to_empty (lines_from l.number l.start (drop l.start l.bytes))) ≡ section l.bytes;
  counted : l.number ≤ l.start + 1;
  within : l.start ≤ length l.bytes;
}

abbrev pub decreases-loop-start : goal.decreases-loop-start
decreases-loop-start l = length l.bytes - l.start
