use Rattle.std.proofs.Common.{Bor, List, ℕ}
use Rattle.world_reopening.proofs.Behind.{strips}
use Rattle.world_reopening.proofs.readings.behind.Goals as goal

pub returns : goal.returns
returns c = strips (λ (t : Bor (List ℕ)). t.now) c.args.front.now c.args.text.now c.strip_prefix.result c.strip_prefix.ensures.cases
