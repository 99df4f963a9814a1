-- Tests of lists, by what stands in them.
use Rattle.std.proofs.Common.{◌≡◌, List, [], ◌∷◌, ap, sym, ◌∙◌, refl, cond, Bool, true, false, ◌||◌, Option, Some, None}
use Rattle.std.specs.Prelude.{find, map}
use Rattle.std.specs.List.{Contains, list_any}
use Rattle.std.proofs.lemmas.Bool.{both_ways}
use Rattle.component_state.proofs.Apart.{any_found, any_from, either_way}
use Rattle.scr_laws.proofs.Listed.{found_was}

pub not_passed : (a : Bool) → (a ≡ true → ⊥) → a ≡ false
not_passed true never = absurd (never refl)
not_passed false never = refl

-- a test of what a function gives of the items
pub any_over : {X Y : Type 0} (p : Y → Bool) (f : X → Y) (xs : List X) → list_any p (map f xs) ≡ list_any (λ x. p (f x)) xs
any_over p f [] = refl
any_over p f (x ∷ xs) = ap (λ b. p (f x) || b) (any_over p f xs)

module _ {X : Type 0} where
  -- a test that no item passes
  pub any_none : (p : X → Bool) (xs : List X) → ((x : X) → Contains xs x → p x ≡ true → ⊥) → list_any p xs ≡ false
  any_none p xs none = not_passed (list_any p xs) (λ is. let found = any_found p xs is in none found.0 found.1 found.2)

  -- tests that each item passes alike
  pub any_alike : (p q : X → Bool) (xs : List X) → ((x : X) → Contains xs x → p x ≡ q x) → list_any p xs ≡ list_any q xs
  any_alike p q xs alike =
      either_way (list_any p xs) (list_any q xs)
      (λ is. let found = any_found p xs is in any_from q xs found.0 found.1 (sym (alike found.0 found.1) ∙ found.2))
      (λ is. let found = any_found q xs is in any_from p xs found.0 found.1 (alike found.0 found.1 ∙ found.2))

  pub any_not_found : (p : X → Bool) (xs : List X) → find p xs ≡ None → list_any p xs ≡ false
  any_not_found p [] none = refl
  any_not_found p (x ∷ xs) none = go (any_not_found p xs) (p x) none
    where
      go : (find p xs ≡ None → list_any p xs ≡ false) → (b : Bool) → cond b (Some x) (find p xs) ≡ None → (b || list_any p xs) ≡ false
      go later true is = cc
      go later false is = later is

  pub none_found : (p : X → Bool) (xs : List X) → list_any p xs ≡ false → find p xs ≡ None
  none_found p xs none = go (find p xs) refl
    where
      go : (o : Option X) → find p xs ≡ o → find p xs ≡ None
      go None is = is
      go (Some x) is = let there = found_was p xs x is in absurd (both_ways (list_any p xs) none (any_from p xs x there.0 there.1))
