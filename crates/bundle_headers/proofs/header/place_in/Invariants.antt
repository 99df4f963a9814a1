use Rattle.std.proofs.Common.{◌≡◌, ◌∷◌, drop}
use Rattle.bundle_headers.specs.Headers.{place_in}
use Rattle.bundle_headers.proofs.header.place_in.Given as goal

-- the place is in the lines that are left
abbrev pub invariant-loop-line : goal.invariant-loop-line
invariant-loop-line l = place_in (drop l.line-index l.line-items) l.left ≡ place_in (l.folded.first ∷ l.folded.more) l.byte
