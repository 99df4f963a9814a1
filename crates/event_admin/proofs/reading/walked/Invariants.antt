use Rattle.std.proofs.Common.{◌≡◌, drop}
use Rattle.event_admin.specs.Inside.{topic_end}
use Rattle.event_admin.proofs.reading.walked.Given as goal

abbrev pub invariant-loop-at : goal.invariant-loop-at
invariant-loop-at l = topic_end l.fresh l.at (drop l.at l.text) ≡ topic_end l.initial.fresh 0 l.text
