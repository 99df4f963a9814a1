use Rattle.std.specs.Prelude.{◌≡◌, take, true}
use Rattle.scr_unseen.specs.Unseen.{is_unmet}
use Rattle.scr_unseen.proofs.needs.is_unmet.Given as goal

abbrev pub invariant-loop-row : goal.invariant-loop-row
invariant-loop-row l = is_unmet l.components l.service (take l.row-index l.rows) ≡ true
