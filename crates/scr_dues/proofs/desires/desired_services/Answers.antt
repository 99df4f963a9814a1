use Rattle.std.proofs.Common.{◌≡◌, ◌∙◌, ap, sym, subst, List, ℕ}
use Rattle.std.specs.Result.{IfOk}
use Rattle.callback_orders.specs.Lives.{held_for}
use Rattle.component_state.specs.Reasons.{choice_at}
use Rattle.reference_match.specs.Needs.{need_of}
use Rattle.scr_world.specs.Views.{properties_in, targets_for}
use Rattle.scr_world.specs.Worlds.{sorted}
use Rattle.scr_dues.proofs.Meeting.{static_desires}
use Rattle.scr_dues.proofs.desires.desired_services.Goals as goal

pub returns-in-Static : goal.returns-in-Static
returns-in-Static c =
    let w = c.args.world.now in
    let i = c.args.instance.now in
    let r = c.args.reference.now in
    subst (λ (l : List ℕ). IfOk c.sorted.result (λ v. v.items ≡ l))
    (ap (sorted w) (c.requires.choice c.in-Static.is)
    ∙ sym (static_desires (need_of (properties_in w i) r) (sorted w (choice_at i.origin.chosen c.args.place)) (held_for r.name i.callbacks) (targets_for w i r) c.in-Static.is))
    c.sorted.ensures
