use Rattle.std.proofs.Common.{◌≡◌, ◌∙◌, false, sym, subst, Option}
use Rattle.std.specs.Result.{IfOk}
use Rattle.callback_orders.specs.declared.due.DueRef.{DueRef}
use Rattle.callback_orders.specs.declared.instance_view.Phase.TheVariants.{Making}
use Rattle.scr_dues.proofs.DueLemmas.{none_outstanding}
use Rattle.scr_dues.proofs.InMaking.{all_due}
use Rattle.scr_dues.proofs.due_in_making.due_in_making.Goals as goal

pub returns-then-is_outstanding : goal.returns-then-is_outstanding
returns-then-is_outstanding c = none_outstanding c.args.world.now c.args.instance.now Making false (sym c.is_outstanding.ensures ∙ c.if-is_outstanding.true)

pub returns-else-is_outstanding : goal.returns-else-is_outstanding
returns-else-is_outstanding c =
    subst (λ (o : Option DueRef). IfOk c.due_from.result (λ due. due ≡ o)) (all_due c.args.world.now c.args.instance.now (sym c.is_outstanding.ensures ∙ c.if-is_outstanding.false)) c.due_from.ensures
