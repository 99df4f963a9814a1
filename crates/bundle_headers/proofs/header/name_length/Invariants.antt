use Rattle.std.proofs.Common.{◌≡◌, ◌+◌, drop}
use Rattle.bundle_headers.specs.Headers.{name_length}
use Rattle.bundle_headers.proofs.header.name_length.Given as goal

-- each byte so far belongs to the name
abbrev pub invariant-loop-at : goal.invariant-loop-at
invariant-loop-at l = l.at + name_length (drop l.at l.text) ≡ name_length l.text
