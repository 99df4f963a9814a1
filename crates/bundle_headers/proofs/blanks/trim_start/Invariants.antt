use Rattle.std.proofs.Common.{◌≡◌, length}
use Rattle.bundle_headers.specs.Blanks.{trim_start}
use Rattle.bundle_headers.proofs.blanks.trim_start.Given as goal

-- what is left has the same rest
abbrev pub invariant-loop-rest : goal.invariant-loop-rest
invariant-loop-rest l = trim_start l.rest ≡ trim_start l.bytes

abbrev pub decreases-loop-rest : goal.decreases-loop-rest
decreases-loop-rest l = length l.rest
