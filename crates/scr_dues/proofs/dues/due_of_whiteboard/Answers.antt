use Rattle.std.proofs.Common.{◌≡◌, subst, Option}
use Rattle.std.specs.Result.{IfOk}
use Rattle.callback_orders.specs.declared.due.DueRef.{DueRef}
use Rattle.scr_dues.proofs.DueLemmas.{whiteboard_is}
use Rattle.scr_dues.proofs.dues.due_of_whiteboard.Goals as goal

pub returns : goal.returns
returns c = subst (λ (d : Option DueRef). IfOk c.due_as.result (λ due. due ≡ d)) (whiteboard_is c.args.world.now) c.due_as.ensures
