use Rattle.std.proofs.Common.{◌≡◌, drop}
use Rattle.event_admin.specs.Inside.{pattern_end}
use Rattle.event_admin.proofs.reading.pattern_end.Given as goal

abbrev pub invariant-loop-at : goal.invariant-loop-at
invariant-loop-at l = pattern_end l.fresh l.at (drop l.at l.text) ≡ pattern_end l.initial.fresh 0 l.text
