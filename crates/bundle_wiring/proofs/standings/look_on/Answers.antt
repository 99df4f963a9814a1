use Rattle.std.proofs.Common.{◌≡◌, rules, ◌∙◌, arith, ap, get_or, subst, sym}
use Rattle.bundle_wiring.specs.Standings.{Rests, settled}
use Rattle.bundle_wiring.proofs.Mapped.{mapped_all, mapped_get, mapped_more, mapped_none}
use Rattle.bundle_wiring.proofs.standings.look_on.Goals as goal

pub loop-stand-init : goal.loop-stand-init
loop-stand-init c = mapped_none (settled c.args.left.now c.args.table.now) c.args.stands.now

pub look_on_one-requires-clause-rest : goal.look_on_one-requires-clause-rest
look_on_one-requires-clause-rest c =
    let f = settled c.args.left.now c.args.table.now in
    let at = c.loop-stand.stand-index in
    let item = c.stand-item.result in
    subst (Rests c.args.left.now c.args.table.now) (sym (ap (λ xs. get_or xs at item) c.loop-stand.invariant ∙ mapped_get f at c.args.stands.now item)) (c.requires.rest at item (omega arith))

pub loop-stand-preserved : goal.loop-stand-preserved
loop-stand-preserved c =
    let f = settled c.args.left.now c.args.table.now in
    let item = c.stand-item.result in
    let there = get_or c.loop-stand.stands c.loop-stand.stand-index item in
    let new : c.look_on_one.new.stand ≡ f there = first_of (cc (c.look_on_one.ensures), search (rules, c.look_on_one.ensures)) in
    mapped_more f c.loop-stand.stand-index c.args.stands.now c.loop-stand.stands item c.look_on_one.new.stand (omega arith) c.loop-stand.invariant new

pub returns : goal.returns
returns c = c.loop-stand.invariant ∙ mapped_all (settled c.args.left.now c.args.table.now) c.loop-stand.stand-index c.args.stands.now (omega arith)
