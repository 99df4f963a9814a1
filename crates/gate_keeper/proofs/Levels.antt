-- The keeper's levels stay as they should be.
use Rattle.std.proofs.Common.{suc, take, ◌≡◌, ◌≢◌, ℕ, ◌+◌, ◌*◌, ◌<◌, ◌%◌, List, [], ◌∷◌, ◌++◌, length, get_or, set, refl, sym, ap, ◌∙◌, subst, arith, Bool, true, false, ◌||◌, inl, inr}
use Rattle.std.specs.Prelude.{◌==◌, drop, replicate, if◌then◌else◌}
use Rattle.std.proofs.Math.Seq.{drop-cons}
use Rattle.std.proofs.lemmas.Bool.{both_ways, eq-eqb, eqb-true}
use Rattle.std.proofs.lemmas.List.{get_or-replicate, length-set, take_more}
use Rattle.atomic_table.specs.Seated.{TableId}
use Rattle.call_gate.specs.Calls.{KnownShut, shut_in, slots_in}
use Rattle.call_gate.specs.Holders.{HeldKey}
use Rattle.journal_core.specs.declared.entry.GateKey.{GateKey}
use Rattle.gate_keeper.specs.Keepers.{AreOpen, CanReopen, Claims, IsKept, IsOpen, IsOrderly, KeeperView, Shuts, ShutsAll, Takes, is_shelved, level_kept, met, reopened, shelved, with_level, with_more, with_shut_all}
use Rattle.gate_keeper.proofs.Shelves.{level_other, level_set, level_there, or_false, shelved_more}

-- ---- one level

-- a slot that isn't closed isn't on the shelf
pub open_away : (k : KeeperView) (slot n : ℕ) → IsOrderly k → get_or k.levels slot 0 ≡ n → n % 4 ≢ 3 → is_shelved k.shelf slot ≡ false
open_away k slot n orderly is differs = go (is_shelved k.shelf slot) refl
  where
    go : (b : Bool) → is_shelved k.shelf slot ≡ b → b ≡ false
    go true on = absurd (differs (ap (λ m. m % 4) (sym is) ∙ orderly.closed slot on))
    go false off = refl

-- a level that is known is the one that should be, where the slot isn't on the shelf
plain : (level : ℕ → ℕ) (k : KeeperView) (slot : ℕ) → IsKept level k → slot < slots_in k.gate → is_shelved k.shelf slot ≡ false → get_or k.levels slot 0 ≡ level slot
plain level k slot kept within away = kept slot within ∙ ap (λ b. level_kept b (level slot)) away

pub kept_alike : (f g : ℕ → ℕ) (k : KeeperView) → ((slot : ℕ) → f slot ≡ g slot) → IsKept f k → IsKept g k
kept_alike f g k same kept slot within = kept slot within ∙ ap (level_kept (is_shelved k.shelf slot)) (same slot)

pub first_kept : (gate : TableId) (places : ℕ) (level : ℕ → ℕ) → ((slot : ℕ) → slot < slots_in gate → level slot ≡ 3) → IsKept level (record { gate = gate; levels = replicate (slots_in gate + 1) 3; places = places; shelf = []; visited = [] })
first_kept gate places level closed slot within = get_or-replicate (slots_in gate + 1) slot 3 0 (omega (arith, within)) ∙ sym (closed slot within)

-- ---- a slot that opens

there_word : (k : KeeperView) (slot : ℕ) → IsOrderly k → slot < slots_in k.gate → slot < length k.levels
there_word k slot orderly within = let wide = orderly.wide in omega (arith, within, wide)

pub reopened_kept : (level : ℕ → ℕ) (k : KeeperView) (key : GateKey) → IsOrderly k → IsKept level k → CanReopen k key → IsKept (with_level level key.slot (4 * key.generation)) (reopened key k)
reopened_kept level k key orderly kept can slot within = go (key.slot == slot) refl
  where
    v : ℕ
    v = 4 * key.generation

    go : (b : Bool) → (key.slot == slot) ≡ b → get_or (set k.levels key.slot (4 * key.generation)) slot 0 ≡ level_kept (is_shelved k.shelf slot) (if b then 4 * key.generation else level slot)
    go true here =
        let at = eqb-true key.slot slot here in
        level_set k.levels key.slot slot v at (there_word k key.slot orderly can.slot) ∙ sym (ap (λ b. level_kept b v) (subst (λ s. is_shelved k.shelf s ≡ false) at can.posted))
    go false other = level_other k.levels key.slot slot v other ∙ kept slot within

-- ---- a gate that is shut

-- for the keeper, before its drain is claimed
abbrev pub only_shut : GateKey → KeeperView → KeeperView
only_shut key k = record k { levels = shut_in key k.levels }

pub only_shut_kept : (level : ℕ → ℕ) (k : KeeperView) (key : GateKey) → IsOrderly k → IsKept level k → IsOpen k key → IsKept (with_more level key.slot 1) (only_shut key k)
only_shut_kept level k key orderly kept on slot within = go (key.slot == slot) refl
  where
    v : ℕ
    v = 4 * key.generation + 1

    away : is_shelved k.shelf key.slot ≡ false
    away = open_away k key.slot (4 * key.generation) orderly on.1 (λ e. omega (arith, e))

    go : (b : Bool) → (key.slot == slot) ≡ b → get_or (set k.levels key.slot (4 * key.generation + 1)) slot 0 ≡ level_kept (is_shelved k.shelf slot) (if b then level slot + 1 else level slot)
    go true here =
        let at = eqb-true key.slot slot here in
        let was : 4 * key.generation ≡ level key.slot = sym on.1 ∙ plain level k key.slot kept on.0 away in
        level_set k.levels key.slot slot v at (there_word k key.slot orderly on.0) ∙ ap (λ n. n + 1) (was ∙ ap level at)
        ∙ sym (ap (λ b. level_kept b (level slot + 1)) (subst (λ s. is_shelved k.shelf s ≡ false) at away))
    go false other = level_other k.levels key.slot slot v other ∙ kept slot within

-- another slot's level changes
pub orderly_set : (k : KeeperView) (at v : ℕ) → is_shelved k.shelf at ≡ false → IsOrderly k → IsOrderly (record k { levels = set k.levels at v })
orderly_set k at v away orderly = record {
  wide = length-set k.levels at v ∙ orderly.wide;
  closed = λ slot on. level_away slot on (at == slot) refl;
  within = orderly.within;
}
  where
    level_away : (slot : ℕ) → is_shelved k.shelf slot ≡ true → (b : Bool) → (at == slot) ≡ b → get_or (set k.levels at v) slot 0 % 4 ≡ 3
    level_away slot on true here = absurd (both_ways (is_shelved k.shelf slot) (subst (λ s. is_shelved k.shelf s ≡ false) (eqb-true at slot here) away) on)
    level_away slot on false other = ap (λ n. n % 4) (level_other k.levels at slot v other) ∙ orderly.closed slot on

pub only_shut_orderly : (k : KeeperView) (key : GateKey) → IsOrderly k → IsOpen k key → IsOrderly (only_shut key k)
only_shut_orderly k key orderly on = orderly_set k key.slot (4 * key.generation + 1) (open_away k key.slot (4 * key.generation) orderly on.1 (λ e. omega (arith, e))) orderly

-- ---- a drain that is claimed

module _ (k : KeeperView) (key : GateKey) (orderly : IsOrderly k) (shut : KnownShut key k.levels) where
  abbrev v : ℕ
  v = 4 * key.generation + 3

  away : is_shelved k.shelf key.slot ≡ false
  away = open_away k key.slot (4 * key.generation + 1) orderly shut (λ e. omega (arith, e))

  word : key.slot < length k.levels
  word = level_there k.levels key.slot (omega (arith, shut))

  pub shelved_kept : (level : ℕ → ℕ) → IsKept level k → IsKept level (shelved key k)
  shelved_kept level kept slot within = go (key.slot == slot) refl
    where
      go : (b : Bool) → (key.slot == slot) ≡ b → get_or (set k.levels key.slot (4 * key.generation + 3)) slot 0 ≡ level_kept (is_shelved (k.shelf ++ key ∷ []) slot) (level slot)
      go true here =
          let at = eqb-true key.slot slot here in
          let was : 4 * key.generation + 1 ≡ level key.slot = sym shut ∙ plain level k key.slot kept (subst (λ s. s < slots_in k.gate) (sym at) within) away in
          let on : is_shelved (k.shelf ++ key ∷ []) slot ≡ true = shelved_more k.shelf key slot ∙ ap (λ b. is_shelved k.shelf slot || b) here ∙ or_true (is_shelved k.shelf slot) in
          let same = was ∙ ap level at in
          let is : 4 * key.generation + 3 ≡ level slot + 2 = omega (arith, same) in
          level_set k.levels key.slot slot (4 * key.generation + 3) at word ∙ is ∙ sym (ap (λ b. level_kept b (level slot)) on)
        where
          or_true : (b : Bool) → (b || true) ≡ true
          or_true true = refl
          or_true false = refl
      go false other =
          let same : is_shelved (k.shelf ++ key ∷ []) slot ≡ is_shelved k.shelf slot = shelved_more k.shelf key slot ∙ ap (λ b. is_shelved k.shelf slot || b) other ∙ or_nothing (is_shelved k.shelf slot) in
          level_other k.levels key.slot slot v other ∙ kept slot within ∙ sym (ap (λ b. level_kept b (level slot)) same)
        where
          or_nothing : (b : Bool) → (b || false) ≡ b
          or_nothing true = refl
          or_nothing false = refl

  pub shelved_orderly : key.slot < slots_in k.gate → IsOrderly (shelved key k)
  shelved_orderly near = record {
    wide = length-set k.levels key.slot (4 * key.generation + 3) ∙ orderly.wide;
    closed = λ slot on. level_at slot on (key.slot == slot) refl;
    within = λ slot on. slot_at slot on (key.slot == slot) refl;
  }
    where
      or_nothing : (b : Bool) → (b || false) ≡ b
      or_nothing true = refl
      or_nothing false = refl

      was_on : (slot : ℕ) → is_shelved (k.shelf ++ key ∷ []) slot ≡ true → (key.slot == slot) ≡ false → is_shelved k.shelf slot ≡ true
      was_on slot on other = sym (or_nothing (is_shelved k.shelf slot)) ∙ ap (λ b. is_shelved k.shelf slot || b) (sym other) ∙ sym (shelved_more k.shelf key slot) ∙ on

      slot_at : (slot : ℕ) → is_shelved (k.shelf ++ key ∷ []) slot ≡ true → (b : Bool) → (key.slot == slot) ≡ b → slot < slots_in k.gate
      slot_at slot on true here = subst (λ s. s < slots_in k.gate) (eqb-true key.slot slot here) near
      slot_at slot on false other = orderly.within slot (was_on slot on other)

      level_at : (slot : ℕ) → is_shelved (k.shelf ++ key ∷ []) slot ≡ true → (b : Bool) → (key.slot == slot) ≡ b → get_or (set k.levels key.slot (4 * key.generation + 3)) slot 0 % 4 ≡ 3
      level_at slot on true here = let is = level_set k.levels key.slot slot v (eqb-true key.slot slot here) word in omega (arith, is)
      level_at slot on false other =
          ap (λ n. n % 4) (level_other k.levels key.slot slot v other)
          ∙ orderly.closed slot (was_on slot on other)

pub told_kept : (level : ℕ → ℕ) (key : GateKey) (before after : KeeperView) → IsOrderly before → IsKept level before → Claims key before after → IsKept level after
told_kept level key before after orderly kept (inl same) = subst (IsKept level) (sym same.1) kept
told_kept level key before after orderly kept (inr (inl is)) = subst (IsKept level) (sym is.1) (shelved_kept before key orderly is.0 level kept)
told_kept level key before after orderly kept (inr (inr is)) = subst (IsKept level) (sym is.1) kept

-- ---- a gate that is shut, and its drain that is claimed

-- an open gate that was shut is known as shut
pub shut_known : (k : KeeperView) (key : GateKey) → IsOrderly k → IsOpen k key → KnownShut key (only_shut key k).levels
shut_known k key orderly on = level_set k.levels key.slot key.slot (4 * key.generation + 1) refl (there_word k key.slot orderly on.0)

pub shut_kept : (level : ℕ → ℕ) (key : GateKey) (before after : KeeperView) → IsOrderly before → IsKept level before → IsOpen before key → Shuts key before after → IsKept (with_more level key.slot 1) after
shut_kept level key before after orderly kept on (inl is) =
    subst (IsKept (with_more level key.slot 1)) (sym is)
    (shelved_kept (only_shut key before) key (only_shut_orderly before key orderly on) (shut_known before key orderly on) (with_more level key.slot 1) (only_shut_kept level before key orderly kept on))
shut_kept level key before after orderly kept on (inr is) = subst (IsKept (with_more level key.slot 1)) (sym is) (only_shut_kept level before key orderly kept on)

met_orderly : (key : GateKey) (k : KeeperView) → IsOrderly k → IsOrderly (met key k)
met_orderly key k orderly = record { wide = orderly.wide; closed = orderly.closed; within = orderly.within }

pub shut_orderly : (key : GateKey) (before after : KeeperView) → IsOrderly before → IsOpen before key → Shuts key before after → IsOrderly after
shut_orderly key before after orderly on (inl is) = subst IsOrderly (sym is) (shelved_orderly (only_shut key before) key (only_shut_orderly before key orderly on) (shut_known before key orderly on) on.0)
shut_orderly key before after orderly on (inr is) = subst IsOrderly (sym is) (met_orderly key (only_shut key before) (only_shut_orderly before key orderly on))

-- what a shutting leaves of the gates and of the other levels
pub record Leaves (key : GateKey) (before after : KeeperView) : Type 0 where
  pub gate : after.gate ≡ before.gate
  pub others : (slot : ℕ) → (key.slot == slot) ≡ false → get_or after.levels slot 0 ≡ get_or before.levels slot 0

leaves_by : (key : GateKey) (before after : KeeperView) → Shuts key before after → Leaves key before after
leaves_by key before after (inl is) = record {
  gate = ap (λ (k : KeeperView). k.gate) is;
  others = λ slot other. ap (λ (k : KeeperView). get_or k.levels slot 0) is ∙ level_other (set before.levels key.slot (4 * key.generation + 1)) key.slot slot (4 * key.generation + 3) other
      ∙ level_other before.levels key.slot slot (4 * key.generation + 1) other;
}
leaves_by key before after (inr is) = record {
  gate = ap (λ (k : KeeperView). k.gate) is;
  others = λ slot other. ap (λ (k : KeeperView). get_or k.levels slot 0) is ∙ level_other before.levels key.slot slot (4 * key.generation + 1) other;
}

-- those that are still to be shut are open
pub open_left : (key : GateKey) (keys : List GateKey) (before after : KeeperView) → Shuts key before after → is_shelved keys key.slot ≡ false → AreOpen before keys → AreOpen after keys
open_left key [] before after shuts gone on = tt
open_left key (next ∷ keys) before after shuts gone on =
    let parts = or_false (next.slot == key.slot) (is_shelved keys key.slot) gone in
    let leaves = leaves_by key before after shuts in
    ((subst (λ z. next.slot < slots_in z) (sym leaves.gate) on.0.0, leaves.others next.slot (other next.slot key.slot parts.0) ∙ on.0.1), on.1, open_left key keys before after shuts parts.1 on.2)
  where
    other : (a b : ℕ) → (a == b) ≡ false → (b == a) ≡ false
    other a b off = go (b == a) refl
      where
        go : (x : Bool) → (b == a) ≡ x → x ≡ false
        go true same = absurd (both_ways (a == b) off (eq-eqb a b (sym (eqb-true b a same))))
        go false same = refl

more_all : (level : ℕ → ℕ) (key : GateKey) (keys : List GateKey) → is_shelved keys key.slot ≡ false → (slot : ℕ) → with_shut_all (with_more level key.slot 1) keys slot ≡ with_shut_all level (key ∷ keys) slot
more_all level key keys away slot = go (key.slot == slot) refl
  where
    go : (b : Bool) → (key.slot == slot) ≡ b
        → (if is_shelved keys slot then (if b then level slot + 1 else level slot) + 1 else (if b then level slot + 1 else level slot)) ≡ (if (b || is_shelved keys slot) then level slot + 1 else level slot)
    go true here = ap (λ b. if b then level slot + 1 + 1 else level slot + 1) (subst (λ s. is_shelved keys s ≡ false) (eqb-true key.slot slot here) away)
    go false other = refl

pub all_shut_kept : (level : ℕ → ℕ) (keys : List GateKey) (before after : KeeperView) → IsOrderly before → IsKept level before → AreOpen before keys → ShutsAll keys before after → IsKept (with_shut_all level keys) after
all_shut_kept level [] before after orderly kept on shuts = subst (IsKept level) (sym shuts) kept
all_shut_kept level (key ∷ keys) before after orderly kept on (between, first, rest) =
    kept_alike (with_shut_all (with_more level key.slot 1) keys) (with_shut_all level (key ∷ keys)) after (more_all level key keys on.1)
    (all_shut_kept (with_more level key.slot 1) keys between after (shut_orderly key before between orderly on.0 first) (shut_kept level key before between orderly kept on.0 first) (open_left key keys before between first on.1 on.2) rest)

-- one more is shut behind the others
pub shuts_more : (keys : List GateKey) (key : GateKey) (before between after : KeeperView) → ShutsAll keys before between → Shuts key between after → ShutsAll (keys ++ key ∷ []) before after
shuts_more [] key before between after all last = (after, subst (λ (k : KeeperView). Shuts key k after) all last, refl)
shuts_more (first ∷ keys) key before between after (next, shuts, rest) last = (next, shuts, shuts_more keys key next between after rest last)

-- of some keys so many are shut and the others open, and then the next one is shut
pub next_shut : (keys : List GateKey) (i : ℕ) (d : GateKey) (first now after : KeeperView) → i < length keys → (now.gate ≡ first.gate) × ShutsAll (take i keys) first now × AreOpen now (drop i keys) → Shuts (get_or keys i d) now after
    → (after.gate ≡ first.gate) × ShutsAll (take (i + 1) keys) first after × AreOpen after (drop (i + 1) keys)
next_shut keys i d first now after within so_far shuts =
    let one_more : suc i ≡ i + 1 = omega arith in
    let on : AreOpen now (get_or keys i d ∷ drop (i + 1) keys) = subst (λ ks. AreOpen now ks) (drop-cons keys i d within ∙ ap (λ n. get_or keys i d ∷ drop n keys) one_more) so_far.2 in (
      (leaves_by (get_or keys i d) now after shuts).gate ∙ so_far.0,
      subst (λ ks. ShutsAll ks first after) (sym (take_more keys i d within)) (shuts_more (take i keys) (get_or keys i d) first now after so_far.1 shuts),
      open_left (get_or keys i d) (drop (i + 1) keys) now after shuts on.1 on.2,
    )

-- ---- a drain that is taken from the shelf

pub taken_kept : (level : ℕ → ℕ) (drain : HeldKey) (before after : KeeperView) → IsKept level before → Takes drain before after → IsKept (with_more level drain.key.slot 2) after
taken_kept level drain before after kept takes slot within = subst (λ (k : KeeperView). slot < slots_in k.gate → get_or k.levels slot 0 ≡ level_kept (is_shelved k.shelf slot) (with_more level drain.key.slot 2 slot)) (sym takes.rest) at_rest within
  where
    shelf_is : is_shelved before.shelf slot ≡ ((drain.key.slot == slot) || is_shelved after.shelf slot)
    shelf_is = ap (λ ks. is_shelved ks slot) takes.shelf

    go : (b : Bool) → (drain.key.slot == slot) ≡ b → level_kept (b || is_shelved after.shelf slot) (level slot) ≡ level_kept (is_shelved after.shelf slot) (if b then level slot + 2 else level slot)
    go true here = sym (ap (λ b. level_kept b (level slot + 2)) (subst (λ s. is_shelved after.shelf s ≡ false) (eqb-true drain.key.slot slot here) takes.can.away))
    go false other = refl

    at_rest : slot < slots_in before.gate → get_or before.levels slot 0 ≡ level_kept (is_shelved after.shelf slot) (with_more level drain.key.slot 2 slot)
    at_rest near = kept slot near ∙ ap (λ b. level_kept b (level slot)) shelf_is ∙ go (drain.key.slot == slot) refl
