use Rattle.std.proofs.Common.{◌≡◌, ◌++◌, drop, flat_map}
use Rattle.bundle_headers.specs.Folding.{joined, text_of}
use Rattle.bundle_headers.proofs.header.joined.Given as goal

-- the text so far and that of the lines that are left
abbrev pub invariant-loop-line : goal.invariant-loop-line
invariant-loop-line l = l.text.items ++ flat_map (text_of l.bytes) (drop l.line-index l.line-items) ≡ joined l.bytes l.folded
