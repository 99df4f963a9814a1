use Rattle.std.proofs.Common.{◌∙◌, ◌&&◌, ◌==◌, sym, ap}
use Rattle.std.specs.Prelude.{not}
use Rattle.callback_orders.proofs.HeldLemmas.{held_past_unbind}
use Rattle.callback_orders.proofs.lives.is_held_after.Goals as goal

pub returns-then-was_held-2 : goal.returns-then-was_held-2
returns-then-was_held-2 c =
    let called = c.in-Unbind-Some in
    λ held e. ap (λ b. b && not (called.service == c.args.sought)) (sym c.if-was_held-2.true)
    ∙ held_past_unbind c.args.name.now called.reference called.service c.args.sought _ _ called.field-0-1 held c.args.was_held called.is-0 called.is-1 c.if-eq-2.ensures e

pub returns-else-was_held-2 : goal.returns-else-was_held-2
returns-else-was_held-2 c =
    let called = c.in-Unbind-Some in
    λ held e. c.if-was_held-2.false
    ∙ ap (λ b. b && not (called.service == c.args.sought)) (sym c.if-was_held-2.false)
    ∙ held_past_unbind c.args.name.now called.reference called.service c.args.sought _ _ called.field-0-1 held c.args.was_held called.is-0 called.is-1 c.if-eq-2.ensures e
