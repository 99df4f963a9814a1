use Rattle.std.proofs.Common.{◌≤◌}
use Rattle.call_runner.specs.Runs.{IsAt, IsOwnRunning, Outer, frame_of, moves_left}
use Rattle.call_runner.proofs.run.run_on.Given as goal

-- the call has come to the one that runs, whatever the outer one is
abbrev pub invariant-loop-next : goal.invariant-loop-next
invariant-loop-next g l = record {
  own : IsOwnRunning (g.C.Callees.owns l.callees) l.running;
  few : l.calls.waiting.nested ≤ 64;
  come : (outer : Outer) → IsAt (g.C.Callees.reaching l.callees) g.K.Kinds.next (g.C.Callees.journal_length l.callees) g.K.Kinds.stands_for outer l.fn.calls (frame_of g.K.Kinds.stands_for l.fn.first)
      → IsAt (g.C.Callees.reaching l.callees) g.K.Kinds.next (g.C.Callees.journal_length l.callees) g.K.Kinds.stands_for outer l.calls (frame_of g.K.Kinds.stands_for l.running);
}

abbrev pub decreases-loop-next : goal.decreases-loop-next
decreases-loop-next g l = moves_left l.calls.waiting
