use Rattle.bundle_wiring.specs.Standings.{IsPassed}
use Rattle.bundle_wiring.proofs.offer_table.first_from.Given as goal

abbrev pub invariant-loop-at : goal.invariant-loop-at
invariant-loop-at l = IsPassed l.left l.need l.table l.at
