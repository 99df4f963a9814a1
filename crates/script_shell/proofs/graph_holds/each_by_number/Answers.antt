use Rattle.script_shell.proofs.NumbersOnce.{once_each}
use Rattle.script_shell.proofs.graph_holds.each_by_number.Goals as goal

pub returns : goal.returns
returns c = once_each _ _ _ c.sort_unstable.ensures.permutation c.sort_unstable.ensures.sorted c.dedup.ensures.filtered
