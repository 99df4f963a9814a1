use Rattle.std.proofs.Common.{◌∙◌, sym}
use Rattle.bundle_wiring.proofs.Stands.{stays}
use Rattle.bundle_wiring.proofs.standings.look_on_one.Goals as goal

pub returns-else-is_gone_at : goal.returns-else-is_gone_at
returns-else-is_gone_at c = stays c.args.left.now c.args.table.now c.args.stand.now c.requires.rest (sym c.is_gone_at.ensures ∙ c.if-is_gone_at.false)
