use Rattle.std.proofs.Common.{◌≡◌, length}
use Rattle.session_doors.proofs.tcp_listens.doors_of.Given as goal

-- as many doors as the loop counts
abbrev pub invariant-loop : goal.invariant-loop
invariant-loop l = length l.doors.items ≡ l.counter
