use Rattle.level_order.proofs.LeastLemmas.{levels_least}
use Rattle.level_order.proofs.least_levels.note_least.Goals as goal

pub returns : goal.returns
returns c = levels_least c.args.descriptions.now c.args.levels.now c.requires
