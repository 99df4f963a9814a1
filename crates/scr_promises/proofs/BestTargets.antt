-- The best target is one that no other target is better than: where services are added and the best one was there before, it was the best one then.
use Rattle.std.proofs.Common.{◌≡◌, ℕ, List, [], ◌∷◌, ap, sym, ◌∙◌, refl, subst, cond, Bool, true, false, inl, inr}
use Rattle.std.specs.Prelude.{filter, take, ◌==◌}
use Rattle.std.specs.List.{Contains}
use Rattle.std.proofs.lemmas.Bool.{cases_Bool, eq-eqb, eqb-true, or_cases, or_left}
use Rattle.component_state.proofs.Apart.{in_cases, in_first, in_none}
use Rattle.prop_map.specs.Words.{has, insert_by}
use Rattle.reference_match.specs.declared.need.Need.{Need}
use Rattle.reference_match.specs.Targets.{meets, targets}
use Rattle.scr_promises.proofs.TargetRows.{ordered_was}
use Rattle.scr_promises.proofs.GrowingServices.{ordered_in}
use Rattle.service_registry.specs.declared.row.ServiceRow.{ServiceRow}
use Rattle.service_registry.specs.Services.{best_first, better, ids, ranked}
use Rattle.service_registry.proofs.RankOrder.{ranks_apart}

-- ---- the order of services

one_way : (a b : ServiceRow) → better a b ≡ true → better b a ≡ false
one_way a b on = ranks_apart.order.one_way (ranked a) (ranked b) on

not_itself : (a : ServiceRow) → better a a ≡ false
not_itself a = elim (cases_Bool (better a a)) [ inl on ↦ one_way a a on | inr off ↦ off ]

chain : (a b c : ServiceRow) → better a b ≡ false → better b c ≡ false → better a c ≡ false
chain a b c one two = ranks_apart.order.chain (ranked a) (ranked b) (ranked c) one two

alike : (a b : ServiceRow) → better a b ≡ false → better b a ≡ false → a.id ≡ b.id
alike a b one two = ap (λ r. r.id) (ranks_apart.apart (ranked a) (ranked b) one two)

-- ---- the first in order

-- none of these is better
abbrev pub NoneBetter : List ServiceRow → ServiceRow → Type 0
NoneBetter xs r = (x : ServiceRow) → Contains xs x → better x r ≡ false

first_least : (xs : List ServiceRow) (h : ServiceRow) (t : List ServiceRow) → best_first xs ≡ h ∷ t → NoneBetter xs h
first_least [] h t is = cc
first_least (x ∷ xs) h t is = go (first_least xs) (best_first xs) refl is
  where
    go : ((y : ServiceRow) (ys : List ServiceRow) → best_first xs ≡ y ∷ ys → NoneBetter xs y) → (l : List ServiceRow) → best_first xs ≡ l → insert_by better x l ≡ h ∷ t → NoneBetter (x ∷ xs) h
    go later [] none made z k = elim (in_cases x xs z k) [
      | inl same ↦ (let first : x ≡ h = cc in ap (better z) (sym first ∙ same) ∙ not_itself z)
      | inr there ↦ absurd (in_none z (subst (λ (l : List ServiceRow). Contains l z) none (ordered_in better xs z there)))
    ]
    go later (y ∷ ys) rest made z k = by_first (better x y) refl made
      where
        by_first : (b : Bool) → better x y ≡ b → cond b (x ∷ y ∷ ys) (y ∷ insert_by better x ys) ≡ h ∷ t → better z h ≡ false
        by_first true on is_made =
            let first : x ≡ h = cc in
            elim (in_cases x xs z k) [
              | inl same ↦ ap (better z) (sym first ∙ same) ∙ not_itself z
              | inr there ↦ ap (better z) (sym first) ∙ chain z y x (later y ys rest z there) (one_way x y on)
            ]
        by_first false off is_made =
            let first : y ≡ h = cc in
            elim (in_cases x xs z k) [
              | inl same ↦ ap (better z) (sym first) ∙ ap (λ (a : ServiceRow). better a y) (sym same) ∙ off
              | inr there ↦ ap (better z) (sym first) ∙ later y ys rest z there
            ]

-- ---- the best target

abbrev pub best_target : Need → List ServiceRow → List ℕ
best_target n rows = take 1 (targets n rows)

pub best_was : (n : Need) (rows : List ServiceRow) (s : ℕ) → has (best_target n rows) s ≡ true → (r : ServiceRow) × Contains (filter (meets n) rows) r × (r.id ≡ s) × NoneBetter (filter (meets n) rows) r
best_was n rows s on = go (best_first (filter (meets n) rows)) refl on
  where
    go : (l : List ServiceRow) → best_first (filter (meets n) rows) ≡ l → has (take 1 (ids l)) s ≡ true → (r : ServiceRow) × Contains (filter (meets n) rows) r × (r.id ≡ s) × NoneBetter (filter (meets n) rows) r
    go [] is k = cc
    go (h ∷ t) is k = elim (or_cases (h.id == s) false k) [
      | inl same ↦ (
        h,
        ordered_was better (filter (meets n) rows) h (subst (λ (l : List ServiceRow). Contains l h) (sym is) (in_first h t)),
        eqb-true h.id s same,
        first_least (filter (meets n) rows) h t is,
      )
      | inr never ↦ cc
    ]

pub best_is : (n : Need) (rows : List ServiceRow) (r : ServiceRow) → Contains (filter (meets n) rows) r → NoneBetter (filter (meets n) rows) r → has (best_target n rows) r.id ≡ true
best_is n rows r here none = go (best_first (filter (meets n) rows)) refl
  where
    go : (l : List ServiceRow) → best_first (filter (meets n) rows) ≡ l → has (take 1 (ids l)) r.id ≡ true
    go [] is = absurd (in_none r (subst (λ (l : List ServiceRow). Contains l r) is (ordered_in better (filter (meets n) rows) r here)))
    go (h ∷ t) is =
        let there = ordered_was better (filter (meets n) rows) h (subst (λ (l : List ServiceRow). Contains l h) (sym is) (in_first h t)) in
        or_left (h.id == r.id) false (eq-eqb h.id r.id (alike h r (none h there) (first_least (filter (meets n) rows) h t is r here)))
