use Rattle.std.proofs.Common.{◌≡◌, ◌≤◌, length}
use Rattle.wb_routes.specs.Candidates.{texts_above, texts_to}
use Rattle.wb_routes.specs.Choices.{first_owner, owner_in}
use Rattle.wb_routes.proofs.candidates.owner_above.Given as goal

abbrev pub invariant-loop-end : goal.invariant-loop-end
invariant-loop-end l = record {
  within : l.end ≤ length l.rest;
  rest_is : first_owner (owner_in l.rows) (texts_above l.rest) ≡ first_owner (owner_in l.rows) (texts_to l.rest l.end);
}

abbrev pub decreases-loop-end : goal.decreases-loop-end
decreases-loop-end l = l.end
