use Rattle.std.specs.Prelude.{◌≡◌, []}
use Rattle.hall_goings.specs.Went.{Went}
use Rattle.platform_sessions.specs.Halls.{IsOf, KeepsPass}
use Rattle.platform_sessions.specs.Works.{IsRunFor}
use Rattle.platform_sessions.proofs.hall.Hall.end_turn.Given as goal

-- the turn is the pass's still, with what it came to
abbrev pub invariant-loop : goal.invariant-loop
invariant-loop g l =
    ((goal.iterator-loop g).can_next l.iterator' × (goal.iterator-loop g).is_finite l.iterator')
    × Went l.fn.pass.front l.pass.front []
    × IsOf l.fn.self l.pass
    × KeepsPass l.fn.pass.front l.pass.front
    × IsRunFor g.K.Kinds.refuses l.fn.self.limits l.pass.front l.fn.turn l.ran
    × (l.pass.closed ≡ l.fn.pass.closed)
