use Rattle.std.proofs.Common.{◌∙◌}
use Rattle.scr_dues.proofs.LeanViews.{by_due_view}
use Rattle.scr_dues.proofs.dues.due_by_view.Goals as goal

pub returns : goal.returns
returns c = c.due_of.ensures ∙ by_due_view c.args.world.now c.args.instance.now c.args.ending c.args.phase c.in_ok-view.view c.in_ok-view.ensures c.requires
