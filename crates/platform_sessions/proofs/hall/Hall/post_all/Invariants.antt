use Rattle.std.specs.Prelude.{◌≡◌}
use Rattle.platform_sessions.specs.Commands.{Posts}
use Rattle.platform_sessions.specs.Halls.{IsOf, KeepsPass}
use Rattle.platform_sessions.proofs.hall.Hall.post_all.Given as goal

-- drains alone were posted so far
abbrev pub invariant-loop : goal.invariant-loop
invariant-loop g l =
    ((goal.iterator-loop g).can_next l.iterator' × (goal.iterator-loop g).is_finite l.iterator')
    × Posts l.fn.pass.front l.pass.front
    × IsOf l.fn.self l.pass
    × KeepsPass l.fn.pass.front l.pass.front
    × (l.pass.closed ≡ l.fn.pass.closed)
