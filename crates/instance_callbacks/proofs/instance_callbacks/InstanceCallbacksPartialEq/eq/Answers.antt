use Rattle.std.proofs.Common.{◌∙◌, Bool, ap, sym}
use Rattle.std.specs.Prelude.{◌&&◌}
use Rattle.std.specs.Option.{option_eq}
use Rattle.callback_orders.specs.contracts.word.CalledPartialEq.TheImpl as called_same
use Rattle.instance_callbacks.proofs.LastLemmas.{pointwise-last}
use Rattle.instance_callbacks.proofs.instance_callbacks.InstanceCallbacksPartialEq.eq.Goals as goal

pub returns-then-eq : goal.returns-then-eq
returns-then-eq c =
    let same = (called_same.eq-value).it in
    rw (← c.self.view_is, ← c.other.view_is)
    (c.eq-then-eq.ensures
    ∙ ap (λ (b : Bool). b && option_eq same c.self.inside.last c.other.inside.last) (sym c.if-eq.true ∙ c.eq.ensures)
    ∙ pointwise-last same c.self.inside.earlier c.other.inside.earlier c.self.inside.last c.other.inside.last c.self.invariant.first c.other.invariant.first)

pub returns-else-eq : goal.returns-else-eq
returns-else-eq c =
    let same = (called_same.eq-value).it in
    rw (← c.self.view_is, ← c.other.view_is)
    (c.if-eq.false
    ∙ ap (λ (b : Bool). b && option_eq same c.self.inside.last c.other.inside.last) (sym c.if-eq.false ∙ c.eq.ensures)
    ∙ pointwise-last same c.self.inside.earlier c.other.inside.earlier c.self.inside.last c.other.inside.last c.self.invariant.first c.other.invariant.first)
