use Rattle.std.proofs.Common.{◌≡◌, subst, Option}
use Rattle.std.specs.Result.{IfOk}
use Rattle.callback_orders.specs.declared.due.DueRef.{DueRef}
use Rattle.scr_dues.proofs.DueLemmas.{for_is}
use Rattle.scr_dues.proofs.dues.due_of_instance.Goals as goal

pub returns : goal.returns
returns c = subst (λ (d : Option DueRef). IfOk c.due_for.result (λ due. due ≡ d)) (for_is c.args.world.now c.args.instance.now) c.due_for.ensures
