use Rattle.std.proofs.Common.{◌-◌}
use Rattle.level_order.specs.Spread.{IsKept}
use Rattle.level_order.specs.Uses.{all_uses}
use Rattle.level_order.proofs.StepLemmas.{Within}
use Rattle.level_order.proofs.ways.all_steps.Given as goal

abbrev pub invariant-loop-count : goal.invariant-loop-count
invariant-loop-count l = Within (all_uses l.descriptions) l.to l.count l.search.steps.items × IsKept l.links.back.items l.search.seen.items l.search.steps.items l.search.found.items (l.count - 1)
