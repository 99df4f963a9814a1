-- A keeper that has all places: each gate that it shuts is closed for it at once.
use Rattle.std.proofs.Common.{zero, suc, take, ◌≡◌, ◌≢◌, ℕ, ◌+◌, ◌*◌, ◌%◌, ◌<◌, List, [], ◌∷◌, ◌++◌, length, get_or, set, refl, sym, ap, ◌∙◌, arith, true, inl, inr}
use Rattle.std.specs.Prelude.{replicate}
use Rattle.std.proofs.lemmas.Bool.{both_ways}
use Rattle.std.proofs.lemmas.List.{take_more}
use Rattle.call_gate.specs.Calls.{slots_in}
use Rattle.journal_core.specs.declared.entry.GateKey.{GateKey}
use Rattle.gate_keeper.specs.Keepers.{HasAll, IsKept, IsOrderly, KeeperView, NoneShut, all_shelved, is_shelved, reopened, shut_and_shelved}
use Rattle.gate_keeper.proofs.Known.{by_shelf}

-- ---- gates that are shut one after the other

all_more : (keys : List GateKey) (key : GateKey) (k : KeeperView) → all_shelved (keys ++ key ∷ []) k ≡ shut_and_shelved key (all_shelved keys k)
all_more [] key k = refl
all_more (first ∷ keys) key k = all_more keys key (shut_and_shelved first k)

pub all_places : (keys : List GateKey) (k : KeeperView) → (all_shelved keys k).places ≡ k.places
all_places [] k = refl
all_places (key ∷ keys) k = all_places keys (shut_and_shelved key k)

pub all_gate : (keys : List GateKey) (k : KeeperView) → (all_shelved keys k).gate ≡ k.gate
all_gate [] k = refl
all_gate (key ∷ keys) k = all_gate keys (shut_and_shelved key k)

-- of some keys so many are shut, and then the next one is
pub next_shelved : (keys : List GateKey) (i : ℕ) (d : GateKey) (first now after : KeeperView) → i < length keys → (HasAll first → now ≡ all_shelved (take i keys) first) → (HasAll now → after ≡ shut_and_shelved (get_or keys i d) now)
    → HasAll first → after ≡ all_shelved (take (i + 1) keys) first
next_shelved keys i d first now after within so_far last all =
    let is = so_far all in
    last (ap (λ (k : KeeperView). k.places) is ∙ all_places (take i keys) first ∙ all)
    ∙ ap (shut_and_shelved (get_or keys i d)) is
    ∙ sym (all_more (take i keys) (get_or keys i d) first)
    ∙ ap (λ (ks : List GateKey). all_shelved ks first) (sym (take_more keys i d within))

-- ---- no gate is shut for it

-- a level that is set twice
pub set_over : (ls : List ℕ) (at a b slot : ℕ) → get_or (set (set ls at a) at b) slot 0 ≡ get_or (set ls at b) slot 0
set_over [] at a b slot = refl
set_over (l ∷ ls) zero a b slot = refl
set_over (l ∷ ls) (suc at) a b zero = refl
set_over (l ∷ ls) (suc at) a b (suc slot) = set_over ls at a b slot

-- one that isn't that of a shut gate
set_none : (ls : List ℕ) (at v slot : ℕ) → v % 4 ≢ 1 → get_or ls slot 0 % 4 ≢ 1 → get_or (set ls at v) slot 0 % 4 ≢ 1
set_none [] at v slot differs was = was
set_none (l ∷ ls) zero v zero differs was = differs
set_none (l ∷ ls) zero v (suc slot) differs was = was
set_none (l ∷ ls) (suc at) v zero differs was = was
set_none (l ∷ ls) (suc at) v (suc slot) differs was = set_none ls at v slot differs was

closed_none : (ls : List ℕ) (at g slot : ℕ) → get_or ls slot 0 % 4 ≢ 1 → get_or (set (set ls at (4 * g + 1)) at (4 * g + 3)) slot 0 % 4 ≢ 1
closed_none ls at g slot was is = set_none ls at (4 * g + 3) slot (λ e. omega (arith, e)) was (ap (λ n. n % 4) (sym (set_over ls at (4 * g + 1) (4 * g + 3) slot)) ∙ is)

pub all_none : (keys : List GateKey) (k : KeeperView) → NoneShut k → NoneShut (all_shelved keys k)
all_none [] k none = none
all_none (key ∷ keys) k none = all_none keys (shut_and_shelved key k) (λ slot. closed_none k.levels key.slot key.generation slot (none slot))

pub reopened_none : (key : GateKey) (k : KeeperView) → NoneShut k → NoneShut (reopened key k)
reopened_none key k none slot = set_none k.levels key.slot (4 * key.generation) slot (λ e. omega (arith, e)) (none slot)

pub first_none : (n slot : ℕ) → get_or (replicate n 3) slot 0 % 4 ≢ 1
first_none zero slot is = omega (arith, is)
first_none (suc n) zero is = omega (arith, is)
first_none (suc n) (suc slot) is = first_none n slot is

-- ---- so the shelf has just the slots that should be shut

module _ (level : ℕ → ℕ) (k : KeeperView) (orderly : IsOrderly k) (kept : IsKept level k) where
  pub shut_is_shelved : NoneShut k → (slot : ℕ) → slot < slots_in k.gate → level slot % 4 ≡ 1 → is_shelved k.shelf slot ≡ true
  shut_is_shelved none slot within is = elim (by_shelf level k orderly kept slot within) [
    | inl on ↦ on.0
    | inr off ↦ absurd (none slot (ap (λ n. n % 4) off.1 ∙ is))
  ]

  pub shelved_is_shut : (slot : ℕ) → is_shelved k.shelf slot ≡ true → (level slot % 4 ≡ 1) × (get_or k.levels slot 0 ≡ level slot + 2)
  shelved_is_shut slot on = elim (by_shelf level k orderly kept slot (orderly.within slot on)) [
    | inl it ↦ ((let is = it.1 in let closed = it.2 in omega (arith, is, closed)), it.1)
    | inr off ↦ absurd (both_ways (is_shelved k.shelf slot) off.0 on)
  ]
