use Rattle.std.proofs.Common.{rules, ◌+◌, ◌*◌, ◌<◌, List, ap, ◌∙◌, subst, sym}
use Rattle.std.specs.Prelude.{vec_capacity}
use Rattle.atomic_table.specs.Seated.{TableId}
use Rattle.call_gate.specs.Calls.{slots_in}
use Rattle.call_gate.specs.declared.rule.GateView.{GateView}
use Rattle.call_gate.specs.Holders.{HeldKey}
use Rattle.gate_keeper.specs.Keepers.{IsKeeper}
use Rattle.gate_keeper.proofs.Keeping.{moved_on, room_for, shut_is_away}
use Rattle.gate_keeper.proofs.keeper.claim_onto.Goals as goal

pub push_reserved-requires : goal.push_reserved-requires
push_reserved-requires c =
    let fits = room_for c.args.seat.now c.args.shelf.now.items _ c.requires.keeper c.args.last.key c.in-Some.ensures.answer.2 in
    search (rules, fits)

pub returns-in-Some-clause-keeper : goal.returns-in-Some-clause-keeper
returns-in-Some-clause-keeper c =
    let old = c.args.seat.now in
    let shelf = c.args.shelf.now.items in
    let key = c.args.last.key in
    let drain = c.in-Some.drain in
    let answer = c.in-Some.ensures.answer in
    let its = ap (λ (h : HeldKey). h.gate) answer.0 ∙ c.requires.own.1 ∙ sym c.requires.own.0 in
    let kept = moved_on old shelf _ c.requires.keeper c.claim.new.seat key.slot (4 * key.generation + 3) c.in-Some.ensures.same
    (ap (λ (v : GateView). v.keeps) answer.3) (ap (λ (v : GateView). v.inside) answer.3) (ap (λ (v : GateView). v.levels) answer.3)
    (shut_is_away old shelf _ c.requires.keeper key answer.2) drain its (ap (λ (h : HeldKey). h.key.slot) answer.0) (subst (λ (z : TableId). key.slot < slots_in z) (sym c.requires.own.0) c.in-Some.ensures.slot)
    (sym (ap (λ (h : HeldKey). 4 * h.key.generation + 3) answer.0)) in
    subst (λ room. IsKeeper c.claim.new.seat c.push_reserved.new.self.items room) (sym c.push_reserved.ensures.capacity) (subst (λ (ds : List HeldKey). IsKeeper c.claim.new.seat ds (vec_capacity c.args.shelf.now)) (sym c.push_reserved.ensures.items) kept)
