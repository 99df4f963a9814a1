use Rattle.std.proofs.Common.{◌+◌, ◌*◌, ap, inr, subst, sym}
use Rattle.call_gate.specs.Calls.{KnownOpen}
use Rattle.call_gate.specs.Gates.{SeatView}
use Rattle.call_gate.specs.Holders.{HeldKey}
use Rattle.gate_keeper.specs.Keepers.{IsOpen, KeeperView, Shuts, keeper_of}
use Rattle.gate_keeper.proofs.Keeping.{moved, open_is_away, orderly}
use Rattle.gate_keeper.proofs.Levels.{shut_known}
use Rattle.gate_keeper.proofs.Meetings.{shut_meets, shut_shuts, shuts_met}
use Rattle.gate_keeper.proofs.keeper.Keeper.shut.Goals as goal

pub claim_onto-requires-clause-keeper : goal.claim_onto-requires-clause-keeper
claim_onto-requires-clause-keeper c =
    let key = c.args.key in
    let is = c.shut.ensures.seat in
    let on = subst (λ (k : KeeperView). KnownOpen key k.levels) (sym c.self.view_is) c.requires.open.1 in
    moved c.self.inside.seat c.self.inside.shelf.items _ c.self.invariant.0 c.shut.new.seat key.slot (4 * key.generation + 1)
    (ap (λ (s : SeatView). s.gate) is) (ap (λ (s : SeatView). s.knows.keeps) is) (ap (λ (s : SeatView). s.knows.inside) is) (ap (λ (s : SeatView). s.knows.levels) is)
    (open_is_away c.self.inside.seat c.self.inside.shelf.items _ c.self.invariant.0 key on)

pub invariant_of-self : goal.invariant_of-self
invariant_of-self c =
    let old = c.self.inside.seat in
    let shelf = c.self.inside.shelf.items in
    let key = c.args.key in
    let is = c.shut.ensures.seat in
    let on = subst (λ (k : KeeperView). IsOpen k key) (sym c.self.view_is) c.requires.open in
    let known = shut_known (keeper_of old shelf) key (orderly old shelf _ c.self.invariant.0) on in
    let last = c.in-Some.ensures.last in
    let after = keeper_of c.claim_onto.new.seat c.claim_onto.new.shelf.items in
    let shuts = shut_shuts old c.shut.new.seat shelf key (ap (λ (s : SeatView). s.gate) is) (ap (λ (s : SeatView). s.knows) is) last.0 known c.in-Some.last.key (ap (λ (h : HeldKey). h.key) last.1) after c.claim_onto.ensures.claims in
    (c.claim_onto.ensures.keeper, shuts_met key (keeper_of old shelf) after c.self.invariant.1 shuts)

pub invariant_of-self-in-None : goal.invariant_of-self-in-None
invariant_of-self-in-None c =
    let old = c.self.inside.seat in
    let shelf = c.self.inside.shelf.items in
    let key = c.args.key in
    let is = c.shut.ensures.seat in
    let on = subst (λ (k : KeeperView). KnownOpen key k.levels) (sym c.self.view_is) c.requires.open.1 in
    let meets = shut_meets old c.shut.new.seat shelf key (ap (λ (s : SeatView). s.gate) is) (ap (λ (s : SeatView). s.knows) is) c.in-None.ensures.last c.shut.ensures.found in (
      moved old shelf _ c.self.invariant.0 c.shut.new.seat key.slot (4 * key.generation + 1)
          (ap (λ (s : SeatView). s.gate) is) (ap (λ (s : SeatView). s.knows.keeps) is) (ap (λ (s : SeatView). s.knows.inside) is) (ap (λ (s : SeatView). s.knows.levels) is)
          (open_is_away old shelf _ c.self.invariant.0 key on),
      shuts_met key (keeper_of old shelf) (keeper_of c.shut.new.seat shelf) c.self.invariant.1 (inr meets),
    )

pub returns-in-Some-clause-shut : goal.returns-in-Some-clause-shut
returns-in-Some-clause-shut c =
    let old = c.self.inside.seat in
    let shelf = c.self.inside.shelf.items in
    let key = c.args.key in
    let is = c.shut.ensures.seat in
    let on = subst (λ (k : KeeperView). IsOpen k key) (sym c.self.view_is) c.requires.open in
    let known = shut_known (keeper_of old shelf) key (orderly old shelf _ c.self.invariant.0) on in
    let last = c.in-Some.ensures.last in
    let after = keeper_of c.claim_onto.new.seat c.claim_onto.new.shelf.items in
    subst (λ (k : KeeperView). Shuts key k after) c.self.view_is
    (shut_shuts old c.shut.new.seat shelf key (ap (λ (s : SeatView). s.gate) is) (ap (λ (s : SeatView). s.knows) is) last.0 known c.in-Some.last.key (ap (λ (h : HeldKey). h.key) last.1) after c.claim_onto.ensures.claims)

pub returns-in-None-clause-shut : goal.returns-in-None-clause-shut
returns-in-None-clause-shut c =
    let old = c.self.inside.seat in
    let shelf = c.self.inside.shelf.items in
    let is = c.shut.ensures.seat in
    let meets = shut_meets old c.shut.new.seat shelf c.args.key (ap (λ (s : SeatView). s.gate) is) (ap (λ (s : SeatView). s.knows) is) c.in-None.ensures.last c.shut.ensures.found in
    subst (λ (k : KeeperView). Shuts c.args.key k (keeper_of c.shut.new.seat shelf)) c.self.view_is (inr meets)
