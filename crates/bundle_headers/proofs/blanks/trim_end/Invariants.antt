use Rattle.std.proofs.Common.{◌≡◌, ◌≤◌, length, take}
use Rattle.bundle_headers.specs.Blanks.{trim_end}
use Rattle.bundle_headers.proofs.blanks.trim_end.Given as goal

-- what is left has the same front
abbrev pub invariant-loop-end : goal.invariant-loop-end
invariant-loop-end l = record {
  same : trim_end (take l.end l.bytes) ≡ trim_end l.bytes;
  within : l.end ≤ length l.bytes;
}

abbrev pub decreases-loop-end : goal.decreases-loop-end
decreases-loop-end l = l.end
