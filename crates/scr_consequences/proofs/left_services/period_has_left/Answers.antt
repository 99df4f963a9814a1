use Rattle.std.proofs.Common.{◌∙◌, sym}
use Rattle.scr_consequences.proofs.LeftLemmas.{period_there}
use Rattle.scr_consequences.proofs.left_services.period_has_left.Goals as goal

pub returns-then-period_stays : goal.returns-then-period_stays
returns-then-period_stays c = sym (period_there c.args.now.now c.args.period.now c.args.rest.now c.requires (sym c.period_stays.ensures ∙ c.if-period_stays.true))
