use Rattle.std.proofs.Common.{◌≡◌}
use Rattle.platform_bench.proofs.calls.count_calls.Given as goal

abbrev pub invariant-loop : goal.invariant-loop
invariant-loop l = (l.keeper.gate ≡ l.initial.keeper.gate) × (l.keeper.knows.keeps ≡ l.initial.keeper.knows.keeps) × (l.keeper.knows.inside ≡ l.initial.keeper.knows.inside) × (l.keeper.knows.places ≡ l.initial.keeper.knows.places)
