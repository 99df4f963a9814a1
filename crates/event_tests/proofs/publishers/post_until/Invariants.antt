use Rattle.std.proofs.Common.{◌≡◌}
use Rattle.event_tests.proofs.publishers.post_until.Given as goal

abbrev pub invariant-loop : goal.invariant-loop
invariant-loop g l =
    ((goal.iterator-loop g).can_next l.iterator' × (goal.iterator-loop g).is_finite l.iterator')
    × (l.publisher.hub ≡ l.initial.publisher.hub) × (l.publisher.spare ≡ l.initial.publisher.spare)
