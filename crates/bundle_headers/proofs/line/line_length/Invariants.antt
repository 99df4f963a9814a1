use Rattle.std.proofs.Common.{◌≡◌, ◌+◌, drop}
use Rattle.bundle_headers.specs.Lines.{line_length}
use Rattle.bundle_headers.proofs.line.line_length.Given as goal

-- no byte so far ends a line
abbrev pub invariant-loop-at : goal.invariant-loop-at
invariant-loop-at l = l.at + line_length (drop l.at l.bytes) ≡ line_length l.bytes
