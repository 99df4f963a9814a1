use Rattle.std.specs.Prelude.{◌≡◌}
use Rattle.platform_sessions.specs.Halls.{IsOf, KeepsPass}
use Rattle.platform_sessions.specs.Works.{RanSoMany}
use Rattle.platform_sessions.proofs.hall.Hall.work.Given as goal

-- as many turns ran as the loop counts
abbrev pub invariant-loop-ran : goal.invariant-loop-ran
invariant-loop-ran g l =
    RanSoMany g.K.Kinds.refuses l.fn.self.limits l.fn.pass.front l.pass.front l.ran × IsOf l.fn.self l.pass × KeepsPass l.fn.pass.front l.pass.front × (l.pass.closed ≡ l.fn.pass.closed)
