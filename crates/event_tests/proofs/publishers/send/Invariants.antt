use Rattle.std.proofs.Common.{◌≡◌}
use Rattle.event_tests.proofs.publishers.send.Given as goal

abbrev pub invariant-loop-number : goal.invariant-loop-number
invariant-loop-number g l = (l.publisher.hub ≡ l.initial.publisher.hub) × (l.publisher.spare ≡ l.initial.publisher.spare)
