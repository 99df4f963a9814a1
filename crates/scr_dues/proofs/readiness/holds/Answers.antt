use Rattle.std.proofs.Common.{◌∙◌, sym}
use Rattle.scr_world.specs.Views.{references_in}
use Rattle.scr_dues.proofs.Bound.{none_held}
use Rattle.scr_dues.proofs.readiness.holds.Goals as goal

pub returns-else-was_bound : goal.returns-else-was_bound
returns-else-was_bound c =
    c.if-was_bound.false
    ∙ sym (none_held c.args.service c.args.instance.now.callbacks (references_in c.args.world.now c.args.instance.now) (sym c.was_bound.ensures ∙ c.if-was_bound.false))
