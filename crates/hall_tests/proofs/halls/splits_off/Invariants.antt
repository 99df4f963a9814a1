use Rattle.platform_sessions.specs.Halls.{IsOf}
use Rattle.hall_tests.proofs.halls.splits_off.Given as goal

-- both are passes of the hall
abbrev pub invariant-loop : goal.invariant-loop
invariant-loop g l = IsOf l.fn.hall l.first × IsOf l.fn.hall l.last
