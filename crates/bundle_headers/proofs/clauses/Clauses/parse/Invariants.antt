use Rattle.std.proofs.Common.{◌≡◌, ◌++◌, Some, IsUtf8, take, drop}
use Rattle.osgi_version.specs.Readings.{run}
use Rattle.bundle_headers.specs.ClauseSteps.{buffer_of, clauses_start, clauses_step}
use Rattle.bundle_headers.proofs.clauses.Clauses.parse.Given as goal

-- the steps of the bytes so far lead here, and the piece goes on as a text
abbrev pub invariant-loop-at : goal.invariant-loop-at
invariant-loop-at l = record {
  led : run clauses_step clauses_start (take l.at l.byte-items) ≡ Some l.reading;
  text : IsUtf8 (buffer_of l.reading.part ++ drop l.at l.byte-items);
}
