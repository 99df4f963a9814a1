use Rattle.std.proofs.Common.{◌≡◌, ◌+◌, ◌&&◌, Some, ap, sym, ◌∙◌, inl, inr, arith}
use Rattle.std.specs.Arc.{arc_value}
use Rattle.std.specs.Prelude.{◌==◌, is_some, option_map}
use Rattle.platform_hall.specs.Desks.{holders_of, object_of}
use Rattle.platform_hall.proofs.Alone.{holders_more}
use Rattle.platform_hall.proofs.Owners.{own_more}
use Rattle.prop_map.specs.Words.{one_if}
use Rattle.platform_hall.proofs.tokens.keep_made.Goals as goal

pub returns-in-Some-clause-own : goal.returns-in-Some-clause-own
returns-in-Some-clause-own g c = λ n object is.
    let here = own_more c.args.held.now.items _ n object (ap (λ xs. object_of xs n) (sym c.push_reserved.ensures.items) ∙ is) in
    elim here [ inl before ↦ inl before | inr made ↦ inr (made.0, ap (option_map (λ m. arc_value m)) c.in-Some.is ∙ ap Some made.1) ]

pub returns-in-Some-clause-few : goal.returns-in-Some-clause-few
returns-in-Some-clause-few g c = λ n.
    let more : holders_of c.push_reserved.new.self.items n ≡ holders_of c.args.held.now.items n + one_if (c.args.instance == n) = ap (λ xs. holders_of xs n) c.push_reserved.ensures.items ∙ holders_more c.args.held.now.items _ n in
    let some : one_if (is_some c.args.made && (c.args.instance == n)) ≡ one_if (c.args.instance == n) = ap (λ o. one_if (is_some o && (c.args.instance == n))) c.in-Some.is in
    omega (arith, more, some)
