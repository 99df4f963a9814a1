use Rattle.std.proofs.Common.{◌≡◌, subst, Option}
use Rattle.std.specs.Result.{IfOk}
use Rattle.callback_orders.specs.declared.due.DueRef.{DueRef}
use Rattle.scr_dues.proofs.DueLemmas.{due_is}
use Rattle.scr_dues.proofs.dues.due_in.Goals as goal

pub returns : goal.returns
returns c = subst (λ (d : Option DueRef). IfOk c.first_due_in.result (λ due. due ≡ d)) (due_is c.args.world.now) c.first_due_in.ensures
