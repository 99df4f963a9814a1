-- Turns that a pass began are its own until it ends them.
use Rattle.std.proofs.Common.{◌≡◌, ◌≢◌, ◌≤◌, ◌<◌, ℕ, ◌+◌, List, [], ◌∷◌, ◌++◌, ap, sym, ◌∙◌, refl, subst, cond, Bool, true, false, ◌&&◌, inl, inr, Option, Some, None, Result, Ok, Err, arith}
use Rattle.std.specs.Prelude.{◌==◌, map, not}
use Rattle.std.specs.List.{Contains, count_by}
use Rattle.std.proofs.lemmas.Bool.{and_parts, cases_Bool, eqb-true, eq-eqb}
use Rattle.std.proofs.lemmas.List.{append-nil, map-append}
use Rattle.std.proofs.lemmas.List.Sums.{sum_by-append, sum_by-cons}
use Rattle.component_state.proofs.Apart.{any_found, in_cases, in_either, in_first, in_left, in_none, in_right, kept_over}
use Rattle.front_lock.specs.Histories.{In}
use Rattle.front_lock.specs.Keepings.{KeepsOthers, kept_by, kept_under}
use Rattle.front_lock.proofs.Keepings.{keeps_added}
use Rattle.hall_locked.specs.Locks.{IsLocked, LockedView, things_kept, turns_kept, uses_kept}
use Rattle.hall_locked.specs.Owned.{as_kept, as_use, turn_thing, use_thing, without_turn}
use Rattle.hall_locked.specs.Parts.{has_begun, with_begun}
use Rattle.hall_locked.proofs.Counts.{count_mapped}
use Rattle.hall_locked.proofs.Placed.{one_at_most}
use Rattle.hall_locked.specs.Platforms.{world}
use Rattle.platform_sessions.specs.Works.{IsOneMore}
use Rattle.platform_sessions.proofs.Stretches.{same_things}
use Rattle.platform_sessions.proofs.Things.{but_kept, halves, keeps_beside, turn_left, turn_or_use, under_it, use_halves}
use Rattle.prop_map.specs.Words.{one_if}
use Rattle.scr_laws.proofs.InstanceLemmas.{mapped_was}
use Rattle.scr_world.specs.Legal.{is_under_way}
use Rattle.scr_world.specs.declared.reply.CoreFault.{CoreFault}

-- ---- lists

pub count_step : {X : Type 0} (test : X → Bool) (x : X) (xs : List X) → count_by test (x ∷ xs) ≡ cond (test x) 1 0 + count_by test xs
count_step test x xs = sum_by-cons (λ y. cond (test y) 1 0) x xs

module _ {X : Type 0} (test : X → Bool) where
  pub counted : (xs : List X) (x : X) → Contains xs x → test x ≡ true → 0 < count_by test xs
  counted [] x h is = absurd (in_none x h)
  counted (y ∷ ys) x h is =
      let step = count_step test y ys in
      elim (in_cases y ys x h) [
        | inl same ↦ (
            let first : cond (test y) 1 0 ≡ 1 = ap one_if (ap test same ∙ is) in omega (arith, step, first))
        | inr rest ↦ (
            let more = counted ys x rest is in omega (arith, step, more))
      ]

  -- of those that pass, where it is one at most
  the_one : (xs : List X) (x y : X) → Contains xs x → Contains xs y → test x ≡ true → test y ≡ true → count_by test xs ≤ 1 → x ≡ y
  the_one [] x y h k is also few = absurd (in_none x h)
  the_one (z ∷ zs) x y h k is also few =
      let step = count_step test z zs in
      elim (in_cases z zs x h) [
        | inl same ↦ elim (in_cases z zs y k) [
          | inl other ↦ sym same ∙ other
          | inr rest ↦ (
              let first : cond (test z) 1 0 ≡ 1 = ap one_if (ap test same ∙ is) in
              let more = counted zs y rest also in absurd (omega (arith, step, first, more, few)))
        ]
        | inr rest ↦ elim (in_cases z zs y k) [
          | inl other ↦ (
              let first : cond (test z) 1 0 ≡ 1 = ap one_if (ap test other ∙ also) in
              let more = counted zs x rest is in absurd (omega (arith, step, first, more, few)))
          | inr later ↦ the_one zs x y rest later is also (omega (arith, step, few))
        ]
      ]

-- none passes, where none is counted: those that don't pass are all
pub all_others : (turn : ℕ) (xs : List (ℕ × ℕ)) → count_by (λ (t : ℕ × ℕ). t.1 == turn) xs ≡ 0 → without_turn turn xs ≡ xs
all_others turn [] none = refl
all_others turn (x ∷ xs) none = go (x.1 == turn) refl (all_others turn xs)
  where
    go : (b : Bool) → (x.1 == turn) ≡ b → (count_by (λ (t : ℕ × ℕ). t.1 == turn) xs ≡ 0 → without_turn turn xs ≡ xs) → without_turn turn (x ∷ xs) ≡ x ∷ xs
    go true here rest =
        let step = count_step (λ (t : ℕ × ℕ). t.1 == turn) x xs in
        let first : cond (x.1 == turn) 1 0 ≡ 1 = ap one_if here in absurd (omega (arith, step, first, none))
    go false other rest =
        let step = count_step (λ (t : ℕ × ℕ). t.1 == turn) x xs in
        let first : cond (x.1 == turn) 1 0 ≡ 0 = ap one_if other in
        ap (λ b. cond (not b) (x ∷ without_turn turn xs) (without_turn turn xs)) other ∙ ap (λ (l : List (ℕ × ℕ)). x ∷ l) (rest (omega (arith, step, first, none)))

-- ---- a turn that has begun

-- nothing that others have changes
turns_others : {O : Type 0} (owner : ℕ) (ns : List ℕ) → In owner ns → (answer : Result (Option ℕ) CoreFault) (before after : LockedView O) → after.turns ≡ with_begun owner answer before.turns → KeepsOthers ns (turns_kept before) (turns_kept after)
turns_others owner ns here (Ok (Some turn)) before after grew =
    let is : turns_kept before ++ (owner, turn_thing turn) ∷ [] ≡ turns_kept after = sym (ap (map as_kept) grew ∙ map-append as_kept before.turns ((owner, turn) ∷ [])) in
    subst (λ (xs : List (ℕ × ℕ)). KeepsOthers ns (turns_kept before) xs) is (keeps_added ns (owner, turn_thing turn) (turns_kept before) here)
turns_others owner ns here (Ok None) before after same = λ n no. ap (λ (ts : List (ℕ × ℕ)). kept_under n (map as_kept ts)) same
turns_others owner ns here (Err fault) before after same = λ n no. ap (λ (ts : List (ℕ × ℕ)). kept_under n (map as_kept ts)) same

pub begun_others : {O : Type 0} (owner : ℕ) (ns : List ℕ) → In owner ns → (answer : Result (Option ℕ) CoreFault) (before after : LockedView O) → after.turns ≡ with_begun owner answer before.turns → after.uses ≡ before.uses
    → KeepsOthers ns (things_kept before) (things_kept after)
begun_others owner ns here answer before after grew same =
    keeps_beside ns (turns_kept before) (turns_kept after) (uses_kept before) (uses_kept after) (turns_others owner ns here answer before after grew) (λ n no. ap (λ (us : List (ℕ × ℕ)). kept_under n (map as_use us)) same)

-- and the turn is the owner's
pub begun_mine : (owner : ℕ) (rest : List ℕ) (turn : ℕ) (before after others : List (ℕ × ℕ)) → after ≡ before ++ (owner, turn) ∷ [] → Contains (kept_by (owner ∷ rest) (map as_kept after ++ others)) (owner, turn_thing turn)
begun_mine owner rest turn before after others grew =
    let is : map as_kept before ++ (owner, turn_thing turn) ∷ [] ≡ map as_kept after = sym (ap (map as_kept) grew ∙ map-append as_kept before ((owner, turn) ∷ [])) in
    let there : Contains (map as_kept after) (owner, turn_thing turn) =
    subst (λ (xs : List (ℕ × ℕ)). Contains xs (owner, turn_thing turn)) is (in_right (map as_kept before) ((owner, turn_thing turn) ∷ []) (owner, turn_thing turn) (in_first (owner, turn_thing turn) [])) in
    in_left (kept_under owner (map as_kept after ++ others)) (kept_by rest (map as_kept after ++ others)) (owner, turn_thing turn)
    (under_it owner (map as_kept after ++ others) (owner, turn_thing turn) refl (in_left (map as_kept after) others (owner, turn_thing turn) there))

-- it is under no other number, so all is as before once it is taken out again
turns_one : {O : Type 0} (owner : ℕ) (answer : Result (Option ℕ) CoreFault) (before after : LockedView O) → IsLocked after → after.turns ≡ with_begun owner answer before.turns → IsOneMore answer (turns_kept before) (turns_kept after)
turns_one owner (Ok (Some turn)) before after locked grew =
    let is_its : ℕ × ℕ → Bool = λ t. t.1 == turn in
    let many : count_by is_its after.turns ≡ one_if (is_under_way (world after.core) turn) = sym (count_mapped (λ (t : ℕ × ℕ). t.1) after.turns turn) ∙ locked.tokens turn in
    let most = one_at_most (is_under_way (world after.core) turn) in
    let both : count_by is_its after.turns ≡ count_by is_its before.turns + count_by is_its ((owner, turn) ∷ []) = ap (count_by is_its) grew ∙ sum_by-append (λ (t : ℕ × ℕ). cond (t.1 == turn) 1 0) before.turns ((owner, turn) ∷ []) in
    let last = counted is_its ((owner, turn) ∷ []) (owner, turn) (in_first (owner, turn) []) (eq-eqb turn turn refl) in
    let none : count_by is_its before.turns ≡ 0 = omega (arith, many, most, both, last) in
    let gone : without_turn turn ((owner, turn) ∷ []) ≡ [] = ap (λ b. cond (not b) ((owner, turn) ∷ []) []) (eq-eqb turn turn refl) in
    but_kept turn after.turns
    ∙ ap (λ (ts : List (ℕ × ℕ)). map as_kept (without_turn turn ts)) grew
    ∙ ap (map as_kept) (kept_over (λ (t : ℕ × ℕ). not (t.1 == turn)) before.turns ((owner, turn) ∷ []) ∙ ap (λ (ts : List (ℕ × ℕ)). without_turn turn before.turns ++ ts) gone ∙ append-nil (without_turn turn before.turns) ∙ all_others turn before.turns none)
turns_one owner (Ok None) before after locked same = ap (map as_kept) same
turns_one owner (Err fault) before after locked same = ap (map as_kept) same

pub begun_one : {O : Type 0} (owner : ℕ) (answer : Result (Option ℕ) CoreFault) (before after : LockedView O) → IsLocked after → after.turns ≡ with_begun owner answer before.turns → after.uses ≡ before.uses → IsOneMore answer (things_kept before) (things_kept after)
begun_one owner (Ok (Some turn)) before after locked grew same =
    turn_left turn after.turns after.uses
    ∙ ap (λ (xs : List (ℕ × ℕ)). xs ++ uses_kept after) (sym (but_kept turn after.turns) ∙ turns_one owner (Ok (Some turn)) before after locked grew)
    ∙ ap (λ (us : List (ℕ × ℕ)). turns_kept before ++ map as_use us) same
begun_one owner (Ok None) before after locked grew same = same_things before after grew same
begun_one owner (Err fault) before after locked grew same = same_things before after grew same

-- ---- a turn that a pass has

kept_turn : (turns : List (ℕ × ℕ)) (n turn : ℕ) → Contains (map as_kept turns) (n, turn_thing turn) → Contains turns (n, turn)
kept_turn turns n turn h =
    let was = mapped_was as_kept turns (n, turn_thing turn) h in
    let owner : was.0.0 ≡ n = ap (λ (x : ℕ × ℕ). x.0) was.2 in
    let its : was.0.1 ≡ turn = halves was.0.1 turn (ap (λ (x : ℕ × ℕ). x.1) was.2) in
    subst (λ k. Contains turns (n, k)) its (subst (λ k. Contains turns (k, was.0.1)) owner was.1)

pub kept_begun : (turns uses : List (ℕ × ℕ)) (n turn : ℕ) → Contains (map as_kept turns ++ map as_use uses) (n, turn_thing turn) → Contains turns (n, turn)
kept_begun turns uses n turn h = elim (in_either (map as_kept turns) (map as_use uses) (n, turn_thing turn) h) [
  | inl here ↦ kept_turn turns n turn here
  | inr other ↦ (
      let was = mapped_was as_use uses (n, turn_thing turn) other in absurd (turn_or_use turn was.0.1 (ap (λ (x : ℕ × ℕ). x.1) (sym was.2))))
]

-- and a get that one has
pub kept_got : (turns uses : List (ℕ × ℕ)) (n place : ℕ) → Contains (map as_kept turns ++ map as_use uses) (n, use_thing place) → Contains uses (n, place)
kept_got turns uses n place h = elim (in_either (map as_kept turns) (map as_use uses) (n, use_thing place) h) [
  | inl other ↦ (
      let was = mapped_was as_kept turns (n, use_thing place) other in absurd (turn_or_use was.0.1 place (ap (λ (x : ℕ × ℕ). x.1) was.2)))
  | inr here ↦ (
      let was = mapped_was as_use uses (n, use_thing place) here in
      let owner : was.0.0 ≡ n = ap (λ (x : ℕ × ℕ). x.0) was.2 in
      let its : was.0.1 ≡ place = use_halves was.0.1 place (ap (λ (x : ℕ × ℕ). x.1) was.2) in
      subst (λ k. Contains uses (n, k)) its (subst (λ k. Contains uses (k, was.0.1)) owner was.1))
]

module _ {O : Type 0} (l : LockedView O) (locked : IsLocked l) (n turn : ℕ) (begun : Contains l.turns (n, turn)) where
  abbrev is_its : ℕ × ℕ → Bool
  is_its t = t.1 == turn

  many : count_by is_its l.turns ≡ one_if (is_under_way (world l.core) turn)
  many = sym (count_mapped (λ (t : ℕ × ℕ). t.1) l.turns turn) ∙ locked.tokens turn

  -- it is under way
  pub mine_under_way : is_under_way (world l.core) turn ≡ true
  mine_under_way = elim (cases_Bool (is_under_way (world l.core) turn)) [
    | inl way ↦ way
    | inr none ↦ (
        let some = counted is_its l.turns (n, turn) begun (eq-eqb turn turn refl) in
        let all : count_by is_its l.turns ≡ 0 = many ∙ ap one_if none in absurd (omega (arith, some, all)))
  ]

  -- and nobody else's
  pub mine_alone : (m : ℕ) → Contains l.turns (m, turn) → m ≡ n
  mine_alone m also =
      let few : count_by is_its l.turns ≤ 1 = (let all : count_by is_its l.turns ≡ 1 = many ∙ ap one_if mine_under_way in omega (arith, all)) in
      ap (λ (t : ℕ × ℕ). t.0) (the_one is_its l.turns (m, turn) (n, turn) also begun (eq-eqb turn turn refl) (eq-eqb turn turn refl) few)

  -- so nobody else began it
  pub mine_only : (m : ℕ) → m ≢ n → has_begun m turn l.turns ≡ false
  mine_only m differ = elim (cases_Bool (has_begun m turn l.turns)) [
    | inl is ↦ (
        let found = any_found (λ (t : ℕ × ℕ). (t.0 == m) && (t.1 == turn)) l.turns is in
        let parts = and_parts (found.0.0 == m) (found.0.1 == turn) found.2 in
        let there : Contains l.turns (m, turn) = subst (λ k. Contains l.turns (m, k)) (eqb-true found.0.1 turn parts.1) (subst (λ k. Contains l.turns (k, found.0.1)) (eqb-true found.0.0 m parts.0) found.1) in
        absurd (differ (mine_alone m there)))
    | inr none ↦ none
  ]
