use Rattle.std.proofs.Common.{◌≤◌, ap, sym, ◌∙◌, ◌&&◌, arith}
use Rattle.std.specs.Prelude.{◌==◌, not}
use Rattle.platform_hall.specs.Desks.{holders_of, is_holder, object_of}
use Rattle.platform_hall.proofs.Alone.{holders_fewer}
use Rattle.platform_hall.proofs.Holders.{holder_less, let_go_where}
use Rattle.platform_hall.proofs.Owners.{own_less}
use Rattle.platform_hall.proofs.tokens.keep.Goals as goal

pub returns-then-is_destroyed-clause-holders : goal.returns-then-is_destroyed-clause-holders
returns-then-is_destroyed-clause-holders g c = λ n.
    ap (λ xs. is_holder xs n) c.let_go.ensures
    ∙ holder_less c.keep_made.new.held.items c.args.instance n
    ∙ ap (λ b. b && not (c.args.instance == n)) (c.keep_made.ensures.holders n)
    ∙ let_go_where c.args.is_destroyed (c.args.instance == n) _ c.if-is_destroyed.true

pub returns-then-is_destroyed-clause-own : goal.returns-then-is_destroyed-clause-own
returns-then-is_destroyed-clause-own g c = λ n object is.
    c.keep_made.ensures.own n object (own_less c.keep_made.new.held.items c.args.instance n object (ap (λ xs. object_of xs n) (sym c.let_go.ensures) ∙ is))

pub returns-then-is_destroyed-clause-few : goal.returns-then-is_destroyed-clause-few
returns-then-is_destroyed-clause-few g c = λ n.
    let less = holders_fewer (λ one. not (one.instance == c.args.instance)) c.keep_made.new.held.items n in
    let same = ap (λ xs. holders_of xs n) c.let_go.ensures in
    let few = c.keep_made.ensures.few n in
    omega (arith, less, same, few)
