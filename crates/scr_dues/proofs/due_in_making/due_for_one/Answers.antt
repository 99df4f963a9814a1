use Rattle.std.proofs.Common.{◌≡◌, ◌∙◌, ap, sym, subst, Option}
use Rattle.std.specs.Result.{IfOk}
use Rattle.callback_orders.specs.declared.due.DueRef.{DueRef}
use Rattle.callback_orders.specs.declared.instance_view.ReferenceView.{ReferenceView}
use Rattle.scr_dues.specs.Makings.{due_by_view}
use Rattle.scr_dues.proofs.InMaking.{held_one, lean_one}
use Rattle.scr_dues.proofs.due_in_making.due_for_one.Goals as goal

pub returns-then-holds_choice : goal.returns-then-holds_choice
returns-then-holds_choice c = held_one c.args.world.now c.args.instance.now (c.args.place, c.args.reference.now) (sym c.holds_choice.ensures ∙ c.if-holds_choice.true)

pub returns : goal.returns
returns c =
    let lean = ap (λ (v : ReferenceView). due_by_view c.args.instance.now.number (c.args.place, v)) c.in_ok-view.ensures in
    subst (λ (o : Option DueRef). IfOk c.due_by_view.result (λ due. due ≡ o)) (lean ∙ lean_one c.args.world.now c.args.instance.now (c.args.place, c.args.reference.now)) c.due_by_view.ensures
