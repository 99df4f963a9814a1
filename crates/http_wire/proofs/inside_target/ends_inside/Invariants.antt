use Rattle.std.proofs.Common.{◌≡◌, length}
use Rattle.http_wire.specs.InsideTarget.{is_inside}
use Rattle.http_wire.proofs.inside_target.ends_inside.Given as goal

abbrev pub invariant-loop-after : goal.invariant-loop-after
invariant-loop-after l = is_inside l.rest ≡ is_inside l.bytes

abbrev pub decreases-loop-after : goal.decreases-loop-after
decreases-loop-after l = length l.rest
