-- Gates that are shut while a caller is there, and what their keeper knows of that.
use Rattle.std.proofs.Common.{zero, suc, ◌≡◌, ◌≢◌, ℕ, ◌+◌, ◌*◌, ◌/◌, ◌%◌, ◌<◌, List, [], ◌∷◌, ◌++◌, get_or, set, refl, sym, ap, ◌∙◌, subst, arith, true, false, ◌||◌, inl, inr, ◌⊎◌}
use Rattle.std.specs.Prelude.{◌==◌, ◌&&◌, if◌then◌else◌, replicate}
use Rattle.std.proofs.Math.Bool.{or-true}
use Rattle.std.proofs.lemmas.Bool.{both_ways, cases_eq, eq-eqb, ne_eqb}
use Rattle.call_gate.specs.Calls.{KnownShut, claimed_in, left_word, shut_in, slots_in}
use Rattle.call_gate.specs.Gates.{SeatView, callers_in, generation_in, level_in, visited_shut, visited_vain, with_levels, with_shut, with_vain}
use Rattle.call_gate.specs.Holders.{HeldKey}
use Rattle.call_gate.proofs.Counts.{level_is}
use Rattle.journal_core.specs.declared.entry.GateKey.{GateKey}
use Rattle.gate_keeper.specs.Keepers.{AreMet, Claims, IsKept, IsOrderly, KeeperView, NoneShut, ShutAreVisited, Shuts, is_shelved, is_visited, keeper_of, keys_held, met_shut, shelved, shut_and_shelved}
use Rattle.gate_keeper.proofs.Alone.{first_none, set_over}
use Rattle.gate_keeper.proofs.Known.{by_shelf}
use Rattle.gate_keeper.proofs.Levels.{only_shut}
use Rattle.gate_keeper.proofs.Shelves.{keys_more}

-- ---- levels that change, and keys that are visited

set_cases : (ls : List ℕ) (at v slot : ℕ) → (get_or (set ls at v) slot 0 ≡ get_or ls slot 0) ⊎ ((at ≡ slot) × (get_or (set ls at v) slot 0 ≡ v))
set_cases [] at v slot = inl refl
set_cases (l ∷ ls) zero v zero = inr (refl, refl)
set_cases (l ∷ ls) zero v (suc slot) = inl refl
set_cases (l ∷ ls) (suc at) v zero = inl refl
set_cases (l ∷ ls) (suc at) v (suc slot) = go (set_cases ls at v slot)
  where
    go : (get_or (set ls at v) slot 0 ≡ get_or ls slot 0) ⊎ ((at ≡ slot) × (get_or (set ls at v) slot 0 ≡ v)) → (get_or (set ls at v) slot 0 ≡ get_or ls slot 0) ⊎ ((suc at ≡ suc slot) × (get_or (set ls at v) slot 0 ≡ v))
    go (inl same) = inl same
    go (inr (here, is)) = inr (ap suc here, is)

-- one level changes: where its gate is shut then, it has to be under a visited key
pub set_met : (ls : List ℕ) (at v : ℕ) (visited : List (ℕ × ℕ)) → (v % 4 ≡ 1 → is_visited visited at (v / 4) ≡ true) → AreMet ls visited → AreMet (set ls at v) visited
set_met ls at v visited own were slot shut = go (set_cases ls at v slot)
  where
    go : (get_or (set ls at v) slot 0 ≡ get_or ls slot 0) ⊎ ((at ≡ slot) × (get_or (set ls at v) slot 0 ≡ v)) → is_visited visited slot (get_or (set ls at v) slot 0 / 4) ≡ true
    go (inl same) = subst (λ n. is_visited visited slot (n / 4) ≡ true) (sym same) (were slot (ap (λ n. n % 4) (sym same) ∙ shut))
    go (inr (here, is)) = subst (λ n. is_visited visited slot (n / 4) ≡ true) (sym is) (subst (λ s. is_visited visited s (v / 4) ≡ true) here (own (ap (λ n. n % 4) (sym is) ∙ shut)))

more_met : (ls : List ℕ) (k : ℕ × ℕ) (visited : List (ℕ × ℕ)) → AreMet ls visited → AreMet ls (k ∷ visited)
more_met ls k visited were slot shut = ap (λ b. ((k.0 == slot) && (k.1 == get_or ls slot 0 / 4)) || b) (were slot shut) ∙ or-true ((k.0 == slot) && (k.1 == get_or ls slot 0 / 4))

here_met : (slot generation : ℕ) (visited : List (ℕ × ℕ)) → is_visited ((slot, generation) ∷ visited) slot generation ≡ true
here_met slot generation visited =
    ap (λ b. (b && (generation == generation)) || is_visited visited slot generation) (eq-eqb slot slot refl)
    ∙ ap (λ b. b || is_visited visited slot generation) (eq-eqb generation generation refl)

pub first_met : (n : ℕ) → AreMet (replicate n 3) []
first_met n slot shut = absurd (first_none n slot shut)

-- ---- what the calls do, and gates that are shut

pub claims_met : (key : GateKey) (before after : KeeperView) → ShutAreVisited before → Claims key before after → ShutAreVisited after
claims_met key before after were (inl same) = subst ShutAreVisited (sym same.1) were
claims_met key before after were (inr (inl is)) = subst ShutAreVisited (sym is.1) (set_met before.levels key.slot (4 * key.generation + 3) before.visited (λ e. absurd (omega (arith, e))) were)
claims_met key before after were (inr (inr is)) = subst ShutAreVisited (sym is.1) (more_met before.levels (key.slot, key.generation) before.visited were)

pub shuts_met : (key : GateKey) (before after : KeeperView) → ShutAreVisited before → Shuts key before after → ShutAreVisited after
shuts_met key before after were (inl is) = subst ShutAreVisited (sym is) closed
  where
    v : ℕ
    v = 4 * key.generation + 3

    once : AreMet (set before.levels key.slot (4 * key.generation + 3)) before.visited
    once = set_met before.levels key.slot (4 * key.generation + 3) before.visited (λ e. absurd (omega (arith, e))) were

    closed : ShutAreVisited (shut_and_shelved key before)
    closed slot shut =
        let over = set_over before.levels key.slot (4 * key.generation + 1) (4 * key.generation + 3) slot in
        subst (λ n. is_visited before.visited slot (n / 4) ≡ true) (sym over) (once slot (ap (λ n. n % 4) (sym over) ∙ shut))
shuts_met key before after were (inr is) =
    subst ShutAreVisited (sym is)
    (set_met before.levels key.slot (4 * key.generation + 1) ((key.slot, key.generation) ∷ before.visited) (λ e. own) (more_met before.levels (key.slot, key.generation) before.visited were))
  where
    quarter : (4 * key.generation + 1) / 4 ≡ key.generation
    quarter = omega arith

    own : is_visited ((key.slot, key.generation) ∷ before.visited) key.slot ((4 * key.generation + 1) / 4) ≡ true
    own = ap (λ g. is_visited ((key.slot, key.generation) ∷ before.visited) key.slot g) quarter ∙ here_met key.slot key.generation before.visited

-- a gate is shut, and its drain is claimed if it can be
pub shut_claims : (key : GateKey) (before after : KeeperView) → KnownShut key (only_shut key before).levels → Claims key (only_shut key before) after → Shuts key before after
shut_claims key before after known (inl same) = absurd (same.0 known)
shut_claims key before after known (inr (inl is)) = inl is.1
shut_claims key before after known (inr (inr is)) = inr is.1

-- ---- what the keeper's steps find

-- the word that it wants to claim
level_left : (generation : ℕ) → level_in (left_word generation) ≡ 4 * generation + 1
level_left generation = ap level_in bare ∙ level_is (4 * generation + 1) 0 (omega arith)
  where
    bare : left_word generation ≡ (4 * generation + 1) * 16777216 + 0
    bare = omega arith

generation_is : (r generation stage : ℕ) → stage < 4 → level_in r ≡ 4 * generation + stage → generation_in r ≡ generation
generation_is r generation stage small is = ap (λ n. n / 4) is ∙ quarter
  where
    quarter : (4 * generation + stage) / 4 ≡ generation
    quarter = omega (arith, small)

module _ (seat new : SeatView) (shelf : List HeldKey) (key : GateKey) (gate : new.gate ≡ seat.gate) where
  abbrev k : KeeperView
  k = keeper_of seat shelf

  -- a claim in vain
  module _ (is : new.knows ≡ with_vain seat.knows key.slot (left_word key.generation) new.knows.saw) (found : level_in new.knows.saw ≡ get_or seat.knows.levels key.slot 0) where
    vain_is : keeper_of new shelf ≡ record (keeper_of seat shelf) { visited = visited_vain seat.knows.visited key.slot (left_word key.generation) new.knows.saw }
    vain_is i = record { gate = gate i; levels = (is i).levels; places = (is i).places; shelf = keys_held shelf; visited = (is i).visited }

    pub vain_claims : Claims key (keeper_of seat shelf) (keeper_of new shelf)
    vain_claims = go (cases_eq (get_or seat.knows.levels key.slot 0) (4 * key.generation + 1))
      where
        here : get_or seat.knows.levels key.slot 0 ≡ 4 * key.generation + 1 → visited_vain seat.knows.visited key.slot (left_word key.generation) new.knows.saw ≡ (key.slot, key.generation) ∷ seat.knows.visited
        here shut =
            ap (λ b. if b then (key.slot, generation_in new.knows.saw) ∷ seat.knows.visited else seat.knows.visited) (eq-eqb (level_in new.knows.saw) (level_in (left_word key.generation)) (found ∙ shut ∙ sym (level_left key.generation)))
            ∙ ap (λ g. (key.slot, g) ∷ seat.knows.visited) (generation_is new.knows.saw key.generation 1 (omega arith) (found ∙ shut))

        away : get_or seat.knows.levels key.slot 0 ≢ 4 * key.generation + 1 → visited_vain seat.knows.visited key.slot (left_word key.generation) new.knows.saw ≡ seat.knows.visited
        away other =
            ap (λ b. if b then (key.slot, generation_in new.knows.saw) ∷ seat.knows.visited else seat.knows.visited)
            (ne_eqb (level_in new.knows.saw) (level_in (left_word key.generation)) (λ e. other (sym found ∙ e ∙ level_left key.generation)))

        go : (get_or seat.knows.levels key.slot 0 ≡ 4 * key.generation + 1) ⊎ (get_or seat.knows.levels key.slot 0 ≢ 4 * key.generation + 1) → Claims key (keeper_of seat shelf) (keeper_of new shelf)
        go (inl shut) = inr (inr (shut, vain_is ∙ ap (λ keys. record (keeper_of seat shelf) { visited = keys }) (here shut)))
        go (inr other) = inl (other, vain_is ∙ ap (λ keys. record (keeper_of seat shelf) { visited = keys }) (away other))

  -- a drain that was claimed
  pub claimed_is : (after : List HeldKey) (drain : HeldKey) → new.knows ≡ with_levels seat.knows key.slot (claimed_in key seat.knows.levels) new.knows.saw → after ≡ shelf ++ drain ∷ [] → drain.key ≡ key
      → keeper_of new after ≡ shelved key (keeper_of seat shelf)
  claimed_is after drain is pushed same i = record { gate = gate i; levels = (is i).levels; places = (is i).places; shelf = keys i; visited = (is i).visited }
    where
      keys : keys_held after ≡ keys_held shelf ++ key ∷ []
      keys = ap keys_held pushed ∙ keys_more shelf drain ∙ ap (λ (last : GateKey). keys_held shelf ++ last ∷ []) same

  -- a gate that was shut
  module _ (is : new.knows ≡ with_shut seat.knows key.slot (shut_in key seat.knows.levels) new.knows.saw) where
    shut_is : keeper_of new shelf ≡ record (only_shut key (keeper_of seat shelf)) { visited = visited_shut seat.knows.visited key.slot new.knows.saw }
    shut_is i = record { gate = gate i; levels = (is i).levels; places = (is i).places; shelf = keys_held shelf; visited = (is i).visited }

    -- nobody was inside
    pub shut_alone : callers_in new.knows.saw ≡ 0 → keeper_of new shelf ≡ only_shut key (keeper_of seat shelf)
    shut_alone none =
        shut_is
        ∙ ap (λ keys. record (only_shut key (keeper_of seat shelf)) { visited = keys })
        (ap (λ b. if b then seat.knows.visited else (key.slot, generation_in new.knows.saw) ∷ seat.knows.visited) (eq-eqb (callers_in new.knows.saw) 0 none))

    -- and its drain was claimed, if it could be
    pub shut_shuts : callers_in new.knows.saw ≡ 0 → KnownShut key (only_shut key (keeper_of seat shelf)).levels → (last : GateKey) → last ≡ key → (after : KeeperView) → Claims last (keeper_of new shelf) after → Shuts key (keeper_of seat shelf) after
    shut_shuts none known last same after claims =
        shut_claims key (keeper_of seat shelf) after known (subst (λ (k : KeeperView). Claims key k after) (shut_alone none) (subst (λ (l : GateKey). Claims l (keeper_of new shelf) after) same claims))

    -- somebody was
    pub shut_meets : callers_in new.knows.saw ≢ 0 → level_in new.knows.saw ≡ 4 * key.generation → keeper_of new shelf ≡ met_shut key (keeper_of seat shelf)
    shut_meets some found =
        shut_is
        ∙ ap (λ keys. record (only_shut key (keeper_of seat shelf)) { visited = keys })
        (ap (λ b. if b then seat.knows.visited else (key.slot, generation_in new.knows.saw) ∷ seat.knows.visited) (ne_eqb (callers_in new.knows.saw) 0 some)
        ∙ ap (λ g. (key.slot, g) ∷ seat.knows.visited) (generation_is new.knows.saw key.generation 0 (omega arith) (found ∙ plus)))
      where
        plus : 4 * key.generation ≡ 4 * key.generation + 0
        plus = omega arith

-- ---- laws

module _ (level : ℕ → ℕ) (k : KeeperView) (orderly : IsOrderly k) (kept : IsKept level k) where
  pub shut_is_met : ShutAreVisited k → (slot : ℕ) → slot < slots_in k.gate → level slot % 4 ≡ 1 → (is_shelved k.shelf slot ≡ true) ⊎ (is_visited k.visited slot (level slot / 4) ≡ true)
  shut_is_met were slot within is = elim (by_shelf level k orderly kept slot within) [
    | inl on ↦ inl on.0
    | inr off ↦ inr (subst (λ n. is_visited k.visited slot (n / 4) ≡ true) off.1 (were slot (ap (λ n. n % 4) off.1 ∙ is)))
  ]

pub none_met : (k : KeeperView) → ShutAreVisited k → k.visited ≡ [] → NoneShut k
none_met k were empty slot shut = both_ways false refl (sym (ap (λ (keys : List (ℕ × ℕ)). is_visited keys slot (get_or k.levels slot 0 / 4)) empty) ∙ were slot shut)
