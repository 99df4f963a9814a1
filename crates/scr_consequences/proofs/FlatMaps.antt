-- Lists of what each item gives.
use Rattle.std.proofs.Common.{◌≡◌, Bool, true, false, List, [], ◌∷◌, ◌++◌, ◌∙◌, ap, sym, refl, cond}
use Rattle.std.specs.Prelude.{filter}
use Rattle.std.specs.List.{All, flat_map}
use Rattle.std.proofs.lemmas.List.Elements.{All-head, All-tail}

module _ {X : Type 0} where
  filtered_first : (r : X → Bool) (x : X) (xs : List X) (m : Bool) → filter r (cond m (x ∷ xs) xs) ≡ cond m (cond (r x) (x ∷ filter r xs) (filter r xs)) (filter r xs)
  filtered_first r x xs true = refl
  filtered_first r x xs false = refl

module _ {X A : Type 0} where
  -- two that give the same at each item of a list
  pub flat_map_agree : (f g : X → List A) (xs : List X) → All (λ x. f x ≡ g x) xs → flat_map f xs ≡ flat_map g xs
  flat_map_agree f g [] same = refl
  flat_map_agree f g (x ∷ xs) same =
      ap (λ (l : List A). l ++ flat_map f xs) (All-head (λ x. f x ≡ g x) x xs same) ∙ ap (λ (l : List A). g x ++ l) (flat_map_agree f g xs (All-tail (λ x. f x ≡ g x) x xs same))

  by_tests : (f : X → List A) (x : X) (all few : List X) (b m : Bool) → (m ≡ false → f x ≡ []) → flat_map f all ≡ flat_map f few
      → flat_map f (cond b (x ∷ all) all) ≡ flat_map f (cond m (cond b (x ∷ few) few) few)
  by_tests f x all few true true nothing e = ap (λ (l : List A). f x ++ l) e
  by_tests f x all few false true nothing e = e
  by_tests f x all few true false nothing e = ap (λ (l : List A). l ++ flat_map f all) (nothing refl) ∙ e
  by_tests f x all few false false nothing e = e

  -- what gives nothing can be left out
  pub flat_map_fewer : (f : X → List A) (r m : X → Bool) → ((x : X) → m x ≡ false → f x ≡ []) → (xs : List X) → flat_map f (filter r xs) ≡ flat_map f (filter r (filter m xs))
  flat_map_fewer f r m nothing [] = refl
  flat_map_fewer f r m nothing (x ∷ xs) =
      by_tests f x (filter r xs) (filter r (filter m xs)) (r x) (m x) (nothing x) (flat_map_fewer f r m nothing xs)
      ∙ ap (flat_map f) (sym (filtered_first r x (filter m xs) (m x)))

  -- where no item gives anything nothing is given
  pub flat_map_nothing : (f : X → List A) → ((x : X) → f x ≡ []) → (xs : List X) → flat_map f xs ≡ []
  flat_map_nothing f nothing [] = refl
  flat_map_nothing f nothing (x ∷ xs) = ap (λ (l : List A). l ++ flat_map f xs) (nothing x) ∙ flat_map_nothing f nothing xs
