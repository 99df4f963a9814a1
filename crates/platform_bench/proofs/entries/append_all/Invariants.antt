use Rattle.std.proofs.Common.{◌≡◌}
use Rattle.platform_bench.proofs.entries.append_all.Given as goal

abbrev pub invariant-loop-number : goal.invariant-loop-number
invariant-loop-number g l = (l.pass.lock ≡ l.initial.pass.lock) × (l.pass.spare ≡ l.initial.pass.spare)
