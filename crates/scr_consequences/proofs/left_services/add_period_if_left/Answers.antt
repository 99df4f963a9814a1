use Rattle.std.proofs.Common.{◌∙◌, sym}
use Rattle.scr_consequences.proofs.LeftLemmas.{adds_period, leaves_period}
use Rattle.scr_consequences.proofs.left_services.add_period_if_left.Goals as goal

pub returns-then-period_has_left : goal.returns-then-period_has_left
returns-then-period_has_left c =
    adds_period c.args.now.now c.add_copy.result c.args.period.now c.args.left.now.items c.add_copy.new.left.items (sym c.period_has_left.ensures ∙ c.if-period_has_left.true) c.add_copy.ensures

pub returns : goal.returns
returns c = leaves_period c.args.now.now c.args.period.now c.args.left.now.items (sym c.period_has_left.ensures ∙ c.if-period_has_left.false)
