-- What the type of a keeper keeps, at each of its calls.
use Rattle.std.proofs.Common.{◌≡◌, ℕ, ◌+◌, ◌*◌, ◌<◌, ◌≤◌, List, [], ◌∷◌, ◌++◌, length, get_or, set, refl, sym, ap, ◌∙◌, subst, arith, false}
use Rattle.std.proofs.lemmas.List.{length-set}
use Rattle.atomic_table.specs.Seated.{TableId}
use Rattle.call_gate.specs.Calls.{KnownOpen, KnownShut, slots_in}
use Rattle.call_gate.specs.Gates.{SeatView}
use Rattle.call_gate.specs.Holders.{HeldKey}
use Rattle.journal_core.specs.declared.entry.GateKey.{GateKey}
use Rattle.gate_keeper.specs.Keepers.{AreShelved, CanComeBack, IsKeeper, IsOrderly, IsShelved, Takes, is_shelved, keeper_of, keys_held}
use Rattle.gate_keeper.proofs.Shelves.{level_set, level_there, shelf_away, shelf_closed, shelf_pushed, shelf_room, shelf_set, shelf_within}

module _ (seat : SeatView) (shelf : List HeldKey) (room : ℕ) (keeper : IsKeeper seat shelf room) where
  pub orderly : IsOrderly (keeper_of seat shelf)
  orderly = record {
    wide = keeper.wide;
    closed = λ slot on. let closed = shelf_closed seat.gate seat.knows.levels shelf slot keeper.drains on in let is = closed.1 in omega (arith, is);
    within = λ slot on. shelf_within seat.gate seat.knows.levels shelf slot keeper.drains on;
  }

  -- an open slot is away from the shelf, and so is one that is shut
  pub open_is_away : (key : GateKey) → KnownOpen key seat.knows.levels → is_shelved (keys_held shelf) key.slot ≡ false
  open_is_away key on = shelf_away seat.gate seat.knows.levels shelf key.slot (4 * key.generation) keeper.drains on (λ g e. omega (arith, e))

  pub shut_is_away : (key : GateKey) → KnownShut key seat.knows.levels → is_shelved (keys_held shelf) key.slot ≡ false
  shut_is_away key on = shelf_away seat.gate seat.knows.levels shelf key.slot (4 * key.generation + 1) keeper.drains on (λ g e. omega (arith, e))

  pub shut_word : (key : GateKey) → KnownShut key seat.knows.levels → key.slot < seat.gate.words
  shut_word key on = let near = level_there seat.knows.levels key.slot (omega (arith, on)) in let wide = keeper.wide in omega (arith, near, wide)

  -- there is room for the drain of a shut gate
  pub room_for : (key : GateKey) → KnownShut key seat.knows.levels → length shelf < room
  room_for key on = let fewer = shelf_room seat.gate seat.knows.levels shelf key.slot keeper.drains (shut_word key on) (shut_is_away key on) in let places = keeper.places in omega (arith, fewer, places)

  -- and for one that comes back
  pub room_back : (drain : HeldKey) → CanComeBack (keeper_of seat shelf) drain → length shelf < room
  room_back drain can = let fewer = shelf_room seat.gate seat.knows.levels shelf drain.key.slot keeper.drains (let near = can.slot in omega (arith, near)) can.away in let places = keeper.places in omega (arith, fewer, places)

  -- the seat moved at one slot, which isn't on the shelf
  module _ (new : SeatView) (slot v : ℕ) (gate : new.gate ≡ seat.gate) (keeps : new.knows.keeps ≡ seat.knows.keeps) (inside : new.knows.inside ≡ seat.knows.inside) (levels : new.knows.levels ≡ set seat.knows.levels slot v)
      (away : is_shelved (keys_held shelf) slot ≡ false) where
    drains_then : AreShelved new.gate new.knows.levels shelf
    drains_then = subst (λ z. AreShelved z new.knows.levels shelf) (sym gate) (subst (λ ls. AreShelved seat.gate ls shelf) (sym levels) (shelf_set seat.gate seat.knows.levels slot v shelf away keeper.drains))

    wide_then : length new.knows.levels ≡ new.gate.words
    wide_then = ap length levels ∙ length-set seat.knows.levels slot v ∙ keeper.wide ∙ ap (λ (z : TableId). z.words) (sym gate)

    places_then : new.gate.words ≤ room
    places_then = subst (λ (z : TableId). z.words ≤ room) (sym gate) keeper.places

    pub moved : IsKeeper new shelf room
    moved = record { keeps = keeps ∙ keeper.keeps; nobody = inside ∙ keeper.nobody; wide = wide_then; drains = drains_then; places = places_then }

    -- and its drain came on the shelf
    pub moved_on : (drain : HeldKey) → drain.gate ≡ seat.gate → drain.key.slot ≡ slot → slot < slots_in seat.gate → v ≡ 4 * drain.key.generation + 3 → IsKeeper new (shelf ++ drain ∷ []) room
    moved_on drain its at within is = record {
      keeps = keeps ∙ keeper.keeps;
      nobody = inside ∙ keeper.nobody;
      wide = wide_then;
      places = places_then;
      drains = shelf_pushed new.gate new.knows.levels shelf drain own (subst (λ s. is_shelved (keys_held shelf) s ≡ false) (sym at) away) drains_then;
    }
      where
        near : slot < length seat.knows.levels
        near = let wide = keeper.wide in omega (arith, within, wide)

        own : IsShelved new.gate new.knows.levels drain
        own = record {
          gate_is = its ∙ sym gate;
          slot = subst (λ (z : TableId). drain.key.slot < slots_in z) (sym gate) (subst (λ s. s < slots_in seat.gate) (sym at) within);
          closed = ap (λ ls. get_or ls drain.key.slot 0) levels ∙ level_set seat.knows.levels slot drain.key.slot v (sym at) near ∙ is;
        }

  -- the seat moved, and knows the same levels
  pub stayed : (new : SeatView) → new.gate ≡ seat.gate → new.knows.keeps ≡ seat.knows.keeps → new.knows.inside ≡ seat.knows.inside → new.knows.levels ≡ seat.knows.levels → IsKeeper new shelf room
  stayed new gate keeps inside levels = record {
    keeps = keeps ∙ keeper.keeps;
    nobody = inside ∙ keeper.nobody;
    wide = ap length levels ∙ keeper.wide ∙ ap (λ (z : TableId). z.words) (sym gate);
    drains = subst (λ z. AreShelved z new.knows.levels shelf) (sym gate) (subst (λ ls. AreShelved seat.gate ls shelf) (sym levels) keeper.drains);
    places = subst (λ (z : TableId). z.words ≤ room) (sym gate) keeper.places;
  }

  -- a drain comes back
  pub came_back : (drain : HeldKey) → CanComeBack (keeper_of seat shelf) drain → IsKeeper seat (drain ∷ shelf) room
  came_back drain can = record {
    keeps = keeper.keeps;
    nobody = keeper.nobody;
    wide = keeper.wide;
    places = keeper.places;
    drains = (record { gate_is = can.gate; slot = can.slot; closed = can.closed }, can.away, keeper.drains);
  }

-- the first drain is taken
module _ (seat : SeatView) (drain : HeldKey) (shelf : List HeldKey) (room : ℕ) (keeper : IsKeeper seat (drain ∷ shelf) room) where
  pub left : IsKeeper seat shelf room
  left = record { keeps = keeper.keeps; nobody = keeper.nobody; wide = keeper.wide; drains = keeper.drains.2; places = keeper.places }

  pub takes : Takes drain (keeper_of seat (drain ∷ shelf)) (keeper_of seat shelf)
  takes = record {
    gate = keeper.drains.0.gate_is;
    shelf = refl;
    rest = refl;
    can = record { gate = keeper.drains.0.gate_is; slot = keeper.drains.0.slot; closed = keeper.drains.0.closed; away = keeper.drains.1 };
  }
