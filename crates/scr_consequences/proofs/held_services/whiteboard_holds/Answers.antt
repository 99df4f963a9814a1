use Rattle.std.proofs.Common.{◌∙◌}
use Rattle.scr_consequences.proofs.LeftLemmas.{both_names}
use Rattle.scr_consequences.proofs.held_services.whiteboard_holds.Goals as goal

pub returns : goal.returns
returns c = c.either_holds.ensures ∙ both_names _ _ c.args.callbacks.now c.args.service c.in_ok-contexts.ensures c.in_ok-servlets.ensures
