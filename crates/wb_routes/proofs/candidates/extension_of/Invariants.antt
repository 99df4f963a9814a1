use Rattle.std.proofs.Common.{◌≡◌, ◌≤◌, length}
use Rattle.wb_routes.specs.Candidates.{extension_before, extension_of}
use Rattle.wb_routes.proofs.candidates.extension_of.Given as goal

abbrev pub invariant-loop-end : goal.invariant-loop-end
invariant-loop-end l = record {
  within : l.end ≤ length l.path;
  rest_is : extension_of l.path ≡ extension_before l.path l.end;
}

abbrev pub decreases-loop-end : goal.decreases-loop-end
decreases-loop-end l = l.end
