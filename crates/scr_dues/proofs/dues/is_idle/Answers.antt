use Rattle.std.proofs.Common.{◌∙◌, ap}
use Rattle.std.specs.Prelude.{is_none}
use Rattle.scr_dues.proofs.DueLemmas.{due_is, none_by}
use Rattle.scr_dues.proofs.dues.is_idle.Goals as goal

pub returns : goal.returns
returns c = none_by c.in_ok-due.due c.is_none.result c.is_none.ensures ∙ ap is_none (c.in_ok-due.ensures ∙ due_is c.args.world.now)
