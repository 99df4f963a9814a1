-- Component configurations of legal journals have numbers of their own, none of them above how many came.
use Rattle.std.proofs.Common.{◌≡◌, ◌≤◌, ◌<◌, ℕ, suc, ◌+◌, List, [], ◌∷◌, ◌++◌, ap, sym, ◌∙◌, refl, subst, cond, arith, Bool, true, false, ◌||◌, inl, inr, ◌⊎◌, length, Some, None, Option}
use Rattle.std.specs.Prelude.{map, not, ◌==◌, find}
use Rattle.std.specs.Option.{option_map_or}
use Rattle.std.proofs.lemmas.Bool.{and_parts, and_from, eqb-true, cases_Bool}
use Rattle.component_state.specs.declared.component.Component.{Component}
use Rattle.component_state.specs.ComponentConfigurations.{components_after, as_configured, is_same_component, component_after, new_components, with_numbers}
use Rattle.component_state.specs.Components.{are_numbered, numbers_of}
use Rattle.prop_map.specs.Words.{has}
use Rattle.component_state.specs.Inside.Ready.{are_apart}
use Rattle.component_state.proofs.Apart.{apart_both, has_both}

pub apart_numbered : (cs : List Component) → are_apart (numbers_of cs) ≡ true → are_numbered cs ≡ true
apart_numbered [] is = refl
apart_numbered (c ∷ cs) is = let parts = and_parts (not (has (numbers_of cs) c.number)) (are_apart (numbers_of cs)) is in
    and_from (not (has (numbers_of cs) c.number)) (are_numbered cs) parts.0 (apart_numbered cs parts.1)

-- what is kept keeps its number, its bundle and its description
pub record KeepsName (c k : Component) : Type 0 where
  pub number : k.number ≡ c.number
  pub bundle : k.bundle ≡ c.bundle
  pub description : k.description ≡ c.description

pub kept_name : (place : ℕ) (these : List Component) (c : Component) → KeepsName c (component_after place these c)
kept_name place these c = go c.exists (find (is_same_component c) these)
  where
    go : (b : Bool) (o : Option Component) → KeepsName c (cond b (option_map_or (as_configured place c) o (record c { exists = false })) c)
    go false o = record { number = refl; bundle = refl; description = refl }
    go true None = record { number = refl; bundle = refl; description = refl }
    go true (Some a) = record { number = refl; bundle = refl; description = refl }

kept_numbers : (place : ℕ) (these cs : List Component) → numbers_of (map (component_after place these) cs) ≡ numbers_of cs
kept_numbers place these [] = refl
kept_numbers place these (c ∷ cs) = ap (λ n. n ∷ numbers_of (map (component_after place these) cs)) (kept_name place these c).number ∙ ap (λ ns. c.number ∷ ns) (kept_numbers place these cs)

pub numbers_over : (xs ys : List Component) → numbers_of (xs ++ ys) ≡ numbers_of xs ++ numbers_of ys
numbers_over [] ys = refl
numbers_over (x ∷ xs) ys = ap (λ ns. x.number ∷ ns) (numbers_over xs ys)

new_numbers : (n : ℕ) (cs : List Component) (k : ℕ) → has (numbers_of (with_numbers n cs)) k ≡ true → (n ≤ k) × (k < n + length cs)
new_numbers n [] k is = cc
new_numbers n (c ∷ cs) k is = go (n == k) refl is (new_numbers (n + 1) cs k)
  where
    go : (b : Bool) → (n == k) ≡ b → (b || has (numbers_of (with_numbers (n + 1) cs)) k) ≡ true → (has (numbers_of (with_numbers (n + 1) cs)) k ≡ true → (n + 1 ≤ k) × (k < n + 1 + length cs)) → (n ≤ k) × (k < n + suc (length cs))
    go true same h rest = let e = eqb-true n k same in (omega (arith, e), omega (arith, e))
    go false off h rest = let r = rest h in (omega (arith, r.0), omega (arith, r.1))

new_apart : (n : ℕ) (cs : List Component) → are_apart (numbers_of (with_numbers n cs)) ≡ true
new_apart n [] = refl
new_apart n (c ∷ cs) = and_from (not (has (numbers_of (with_numbers (n + 1) cs)) n)) (are_apart (numbers_of (with_numbers (n + 1) cs))) (ap not (off (cases_Bool (has (numbers_of (with_numbers (n + 1) cs)) n)))) (new_apart (n + 1) cs)
  where
    off : (has (numbers_of (with_numbers (n + 1) cs)) n ≡ true) ⊎ (has (numbers_of (with_numbers (n + 1) cs)) n ≡ false) → has (numbers_of (with_numbers (n + 1) cs)) n ≡ false
    off (inr is) = is
    off (inl is) = let low = (new_numbers (n + 1) cs n is).0 in absurd (omega (arith, low))

-- none has a number above this one
abbrev pub AreUpTo : ℕ → List Component → Type 0
AreUpTo came cs = (k : ℕ) → has (numbers_of cs) k ≡ true → k ≤ came

module _ (place came : ℕ) (these before : List Component) (apart : are_apart (numbers_of before) ≡ true) (up_to : AreUpTo came before) where
  new_ones : List Component
  new_ones = with_numbers (came + 1) (new_components before these)

  has_over : (k : ℕ) → has (numbers_of (components_after place came these before)) k ≡ true → (has (numbers_of before) k ≡ true) ⊎ (has (numbers_of new_ones) k ≡ true)
  unfolding new_ones
  has_over k is = go (has (numbers_of before) k) refl (sym (over k) ∙ is)
    where
      over : (j : ℕ) → has (numbers_of (components_after place came these before)) j ≡ (has (numbers_of before) j || has (numbers_of new_ones) j)
      over j = ap (λ ns. has ns j) (numbers_over (map (component_after place these) before) new_ones ∙ ap (λ ns. ns ++ numbers_of new_ones) (kept_numbers place these before)) ∙ has_both (numbers_of before) (numbers_of new_ones) j

      go : (b : Bool) → has (numbers_of before) k ≡ b → (b || has (numbers_of new_ones) k) ≡ true → (has (numbers_of before) k ≡ true) ⊎ (has (numbers_of new_ones) k ≡ true)
      go true on h = inl on
      go false off h = inr h

  pub asking_apart : are_apart (numbers_of (components_after place came these before)) ≡ true
  unfolding new_ones
  asking_apart = subst (λ ns. are_apart ns ≡ true) (sym (numbers_over (map (component_after place these) before) new_ones ∙ ap (λ ns. ns ++ numbers_of new_ones) (kept_numbers place these before)))
      (apart_both (numbers_of before) (numbers_of new_ones) apart (new_apart (came + 1) (new_components before these))
      (λ k l r. let low = up_to k l in let high = (new_numbers (came + 1) (new_components before these) k r).0 in omega (arith, low, high)))

  pub asking_up_to : AreUpTo (came + length (new_components before these)) (components_after place came these before)
  unfolding new_ones
  asking_up_to k is = elim (has_over k is) [
    | inl old ↦ (let low = up_to k old in omega (arith, low))
    | inr new ↦ (let high = (new_numbers (came + 1) (new_components before these) k new).1 in omega (arith, high))
  ]
