use Rattle.std.proofs.Common.{◌≡◌, ◌+◌, [], ◌∷◌, ◌++◌, take}
use Rattle.bundle_headers.specs.Folding.{unfold_lines}
use Rattle.bundle_headers.proofs.folding.unfold_lines.Given as goal

-- the lines so far, unfolded
abbrev pub invariant-loop-line : goal.invariant-loop-line
invariant-loop-line l = unfold_lines (take (l.line-index + 1) l.lines) ≡ l.all.items ++ l.last ∷ []
