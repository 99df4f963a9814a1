-- The services that a reference can take are registered with its interface, and what it desires is among them.
use Rattle.std.proofs.Common.{◌≡◌, ℕ, List, [], ◌∷◌, refl, subst, cond, Bool, true, false, inl, inr, ◌⊎◌}
use Rattle.std.specs.Prelude.{filter, take, ◌==◌}
use Rattle.std.specs.List.{Contains}
use Rattle.std.proofs.lemmas.Bool.{and_parts, or_cases, or_left}
use Rattle.component_state.proofs.Apart.{any_found, any_from, in_cases, in_first, in_none, in_rest, keyed, kept_was}
use Rattle.prop_map.specs.declared.reference_words.Policy.{Policy}
use Rattle.prop_map.specs.declared.reference_words.Policy.TheVariants.{Static, Dynamic}
use Rattle.prop_map.specs.declared.reference_words.PolicyOption.{PolicyOption}
use Rattle.prop_map.specs.declared.reference_words.PolicyOption.TheVariants.{Reluctant, Greedy}
use Rattle.prop_map.specs.Words.{has, in_order, insert_by, is_empty}
use Rattle.reference_match.specs.declared.need.Need.{Need}
use Rattle.reference_match.specs.Targets.{best_held_or_best, desired_by, is_static, meets, targets}
use Rattle.service_registry.specs.declared.row.ServiceRow.{ServiceRow}
use Rattle.service_registry.specs.Services.{best_first, better, has_interface}

module _ {X : Type 0} (before : X → X → Bool) where
  pub inserted_was : (x : X) (ys : List X) (z : X) → Contains (insert_by before x ys) z → (x ≡ z) ⊎ Contains ys z
  inserted_was x [] z h = in_cases x [] z h
  inserted_was x (y ∷ ys) z h = go (inserted_was x ys z) (before x y) h
    where
      go : (Contains (insert_by before x ys) z → (x ≡ z) ⊎ Contains ys z) → (b : Bool) → Contains (cond b (x ∷ y ∷ ys) (y ∷ insert_by before x ys)) z → (x ≡ z) ⊎ Contains (y ∷ ys) z
      go rest true k = in_cases x (y ∷ ys) z k
      go rest false k = elim (in_cases y (insert_by before x ys) z k) [
        | inl same ↦ inr (subst (λ (v : X). Contains (y ∷ ys) v) same (in_first y ys))
        | inr later ↦ elim (rest later) [
          | inl is ↦ inl is
          | inr there ↦ inr (in_rest y ys z there)
        ]
      ]

  pub ordered_was : (xs : List X) (z : X) → Contains (in_order before xs) z → Contains xs z
  ordered_was [] z h = absurd (in_none z h)
  ordered_was (x ∷ xs) z h = elim (inserted_was x (in_order before xs) z h) [
    | inl same ↦ subst (λ (v : X). Contains (x ∷ xs) v) same (in_first x xs)
    | inr later ↦ in_rest x xs z (ordered_was xs z later)
  ]

-- a target is a service with the interface
pub target_row : (n : Need) (rows : List ServiceRow) (s : ℕ) → has (targets n rows) s ≡ true → (r : ServiceRow) × Contains rows r × (r.id ≡ s) × (has_interface n.interface r ≡ true)
target_row n rows s on =
    let found = keyed (λ (r : ServiceRow). r.id) (best_first (filter (meets n) rows)) s on in
    let kept = kept_was (meets n) rows found.0 (ordered_was better (filter (meets n) rows) found.0 found.1) in
    (found.0, kept.0, found.2, (and_parts (has_interface n.interface found.0) _ kept.1).0)

has_taken : (xs : List ℕ) (s : ℕ) → has (take 1 xs) s ≡ true → has xs s ≡ true
has_taken [] s on = on
has_taken (x ∷ xs) s on = elim (or_cases (x == s) false on) [
  | inl same ↦ or_left (x == s) (has xs s) same
  | inr never ↦ cc
]

has_filter : (p : ℕ → Bool) (xs : List ℕ) (s : ℕ) → has (filter p xs) s ≡ true → has xs s ≡ true
has_filter p xs s e = let found = any_found (λ n. n == s) (filter p xs) e in any_from (λ n. n == s) xs found.0 (kept_was p xs found.0 found.1).0 found.2

best_among : (held services : List ℕ) (s : ℕ) → has (best_held_or_best held services) s ≡ true → has services s ≡ true
best_among held services s on = go (is_empty (filter (has held) services)) on
  where
    go : (b : Bool) → has (cond b (take 1 services) (take 1 (filter (has held) services))) s ≡ true → has services s ≡ true
    go true k = has_taken services s k
    go false k = has_filter (has held) services s (has_taken (filter (has held) services) s k)

-- what is desired is a target, or a static reference's choice
pub desired_among : (policy : Policy) (option : PolicyOption) (multiple : Bool) (choice held services : List ℕ) (s : ℕ) → (is_static policy ≡ true → has choice s ≡ true → has services s ≡ true)
    → has (desired_by policy option multiple choice held services) s ≡ true → has services s ≡ true
desired_among Static option multiple choice held services s stands on = stands refl on
desired_among Dynamic option true choice held services s stands on = on
desired_among Dynamic Greedy false choice held services s stands on = has_taken services s on
desired_among Dynamic Reluctant false choice held services s stands on = best_among held services s on
