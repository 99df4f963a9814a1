-- What is found in a list from which some items were taken, or with one item more.
use Rattle.std.proofs.Common.{◌≡◌, List, [], ◌∷◌, ◌++◌, Bool, true, false, cond, Option, Some, None, refl, ap, ◌∙◌, sym}
use Rattle.std.specs.Prelude.{filter, find, not}
use Rattle.std.specs.Option.{option_or}
use Rattle.std.proofs.lemmas.List.Folds.{find-append}
use Rattle.prop_map.specs.Words.{insert_by}

module _ {X : Type 0} (p r : X → Bool) where
  abbrev rest : List X → List X
  rest xs = filter (λ x. not (r x)) xs

  -- nothing is found of what was taken
  pub none_left : ((x : X) → p x ≡ r x) → (xs : List X) → find p (rest xs) ≡ None
  none_left same [] = refl
  none_left same (x ∷ xs) = by_test (r x) (same x) (none_left same xs) where
    by_test : (b : Bool) → p x ≡ b → find p (rest xs) ≡ None → find p (cond (not b) (x ∷ rest xs) (rest xs)) ≡ None
    by_test true is more = more
    by_test false is more = ap (λ b. cond b (Some x) (find p (rest xs))) is ∙ more

  -- and the rest is found as before
  pub still_found : ((x : X) → r x ≡ true → p x ≡ false) → (xs : List X) → find p (rest xs) ≡ find p xs
  still_found apart [] = refl
  still_found apart (x ∷ xs) = by_test (r x) (apart x) (still_found apart xs) where
    by_test : (b : Bool) → (b ≡ true → p x ≡ false) → find p (rest xs) ≡ find p xs → find p (cond (not b) (x ∷ rest xs) (rest xs)) ≡ cond (p x) (Some x) (find p xs)
    by_test true isnt more = more ∙ sym (ap (λ b. cond b (Some x) (find p xs)) (isnt refl))
    by_test false isnt more = ap (λ o. cond (p x) (Some x) o) more

  none_behind : (o : Option X) → option_or o None ≡ o
  none_behind None = refl
  none_behind (Some x) = refl

  -- an item behind them is found where nothing before it is
  pub new_found : ((x : X) → p x ≡ r x) → (xs : List X) (y : X) → p y ≡ true → find p (rest xs ++ y ∷ []) ≡ Some y
  new_found same xs y is =
      find-append p (rest xs) (y ∷ []) ∙ ap (λ o. option_or o (cond (p y) (Some y) None)) (none_left same xs) ∙ ap (λ b. cond b (Some y) None) is

  pub old_found : ((x : X) → r x ≡ true → p x ≡ false) → (xs : List X) (y : X) → p y ≡ false → find p (rest xs ++ y ∷ []) ≡ find p xs
  old_found apart xs y isnt =
      find-append p (rest xs) (y ∷ []) ∙ ap (λ b. option_or (find p (rest xs)) (cond b (Some y) None)) isnt ∙ none_behind (find p (rest xs)) ∙ still_found apart xs

module _ {X : Type 0} (p : X → Bool) (before : X → X → Bool) (y : X) where
  -- the same where the item is put among them
  pub new_put : (xs : List X) → p y ≡ true → find p xs ≡ None → find p (insert_by before y xs) ≡ Some y
  new_put [] is none = ap (λ b. cond b (Some y) None) is
  new_put (x ∷ xs) is none = by_test (p x) refl none (before y x) (new_put xs is) where
    by_test : (b : Bool) → p x ≡ b → cond b (Some x) (find p xs) ≡ None → (first : Bool) → (find p xs ≡ None → find p (insert_by before y xs) ≡ Some y)
        → find p (cond first (y ∷ x ∷ xs) (x ∷ insert_by before y xs)) ≡ Some y
    by_test b here found true more = ap (λ c. cond c (Some y) (find p (x ∷ xs))) is
    by_test true here found false more = cc
    by_test false here found false more = ap (λ c. cond c (Some x) (find p (insert_by before y xs))) here ∙ more found

  pub old_put : (xs : List X) → p y ≡ false → find p (insert_by before y xs) ≡ find p xs
  old_put [] isnt = ap (λ b. cond b (Some y) None) isnt
  old_put (x ∷ xs) isnt = by_test (before y x) (old_put xs isnt) where
    by_test : (first : Bool) → find p (insert_by before y xs) ≡ find p xs → find p (cond first (y ∷ x ∷ xs) (x ∷ insert_by before y xs)) ≡ find p (x ∷ xs)
    by_test true more = ap (λ b. cond b (Some y) (find p (x ∷ xs))) isnt
    by_test false more = ap (λ o. cond (p x) (Some x) o) more
