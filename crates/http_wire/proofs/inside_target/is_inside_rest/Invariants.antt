use Rattle.std.proofs.Common.{◌≡◌, length}
use Rattle.http_wire.specs.InsideTarget.{is_inside_rest}
use Rattle.http_wire.proofs.inside_target.is_inside_rest.Given as goal

abbrev pub invariant-loop-rest : goal.invariant-loop-rest
invariant-loop-rest l = is_inside_rest l.rest ≡ is_inside_rest l.fn.rest

abbrev pub decreases-loop-rest : goal.decreases-loop-rest
decreases-loop-rest l = length l.rest
