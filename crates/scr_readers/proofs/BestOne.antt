-- The first of an order, found without sorting.
use Rattle.std.proofs.Common.{◌≡◌, ℕ, List, [], ◌∷◌, ap, sym, ◌∙◌, refl, cond, Bool, true, false, subst, Option, Some, None}
use Rattle.std.specs.Prelude.{◌||◌, ◌==◌}
use Rattle.std.proofs.lemmas.Bool.{eq-eqb, eqb-true, false≢true}
use Rattle.std.proofs.Math.Bool.{or-true}
use Rattle.prop_map.specs.Words.{has, in_order, insert_by}
use Rattle.service_registry.proofs.Sorting.{TellsApart}
use Rattle.scr_readers.specs.Inside.{IsBestBy, better_one, first_one}

either : {G : Type 0} (a b : Bool) → (a || b) ≡ true → (a ≡ true → G) → (b ≡ true → G) → G
either true b e f g = f refl
either false b e f g = g e

same_number : (n : ℕ) → (n == n) ≡ true
same_number n = eq-eqb n n refl

module _ (before : ℕ → ℕ → Bool) (o : TellsApart before) where
  never_itself_by : (x : ℕ) (b : Bool) → before x x ≡ b → before x x ≡ false
  never_itself_by x true e = o.order.one_way x x e
  never_itself_by x false e = e

  never_itself : (x : ℕ) → before x x ≡ false
  never_itself x = never_itself_by x (before x x) refl

  -- there is one best one
  pub one_best : (p : ℕ → Bool) (b c : Option ℕ) → IsBestBy before p b → IsBestBy before p c → b ≡ c
  one_best p None None h k = refl
  one_best p None (Some n) h k = absurd (false≢true (sym (h n) ∙ k.0))
  one_best p (Some m) None h k = absurd (false≢true (sym (k m) ∙ h.0))
  one_best p (Some m) (Some n) h k = ap (λ x. Some x) (o.apart m n (k.1 m h.0) (h.1 n k.0))

  itself : (x y : ℕ) → (x == y) ≡ true → before y x ≡ false
  itself x y e = subst (λ z. before z x ≡ false) (eqb-true x y e) (never_itself x)

  with_better : (x m : ℕ) (p q : ℕ → Bool) (b : Bool) → before x m ≡ b → ((y : ℕ) → q y ≡ ((x == y) || p y)) → IsBestBy before p (Some m) → IsBestBy before q (Some (cond b x m))
  with_better x m p q true e same h = (
    same x ∙ ap (λ b. b || p x) (same_number x),
    λ y t. either (x == y) (p y) (sym (same y) ∙ t) (λ is. itself x y is) (λ passes. o.order.chain y m x (h.1 y passes) (o.order.one_way x m e)),
  )
  with_better x m p q false e same h = (
    same m ∙ ap (λ b. (x == m) || b) h.0 ∙ or-true (x == m),
    λ y t. either (x == y) (p y) (sym (same y) ∙ t) (λ is. subst (λ z. before z m ≡ false) (eqb-true x y is) e) (λ passes. h.1 y passes),
  )

  -- one number more
  pub with_one : (x : ℕ) (b : Option ℕ) (p q : ℕ → Bool) → ((y : ℕ) → q y ≡ ((x == y) || p y)) → IsBestBy before p b → IsBestBy before q (Some (better_one before x b))
  with_one x None p q same h =
      (same x ∙ ap (λ b. b || p x) (same_number x), λ y t. either (x == y) (p y) (sym (same y) ∙ t) (λ is. itself x y is) (λ passes. absurd (false≢true (sym (h y) ∙ passes))))
  with_one x (Some m) p q same h = with_better x m p q (before x m) refl same h

  first_inserted_by : (x y : ℕ) (ys : List ℕ) (b : Bool) → first_one (cond b (x ∷ y ∷ ys) (y ∷ insert_by before x ys)) ≡ Some (cond b x y)
  first_inserted_by x y ys true = refl
  first_inserted_by x y ys false = refl

  first_inserted : (x : ℕ) (ys : List ℕ) → first_one (insert_by before x ys) ≡ Some (better_one before x (first_one ys))
  first_inserted x [] = refl
  first_inserted x (y ∷ ys) = first_inserted_by x y ys (before x y)

  -- the first of a list in order is the best of the list
  pub first_is_best : (xs : List ℕ) → IsBestBy before (has xs) (first_one (in_order before xs))
  first_is_best [] = λ y. refl
  first_is_best (x ∷ xs) = subst (IsBestBy before (has (x ∷ xs))) (sym (first_inserted x (in_order before xs))) (with_one x (first_one (in_order before xs)) (has xs) (has (x ∷ xs)) (λ y. refl) (first_is_best xs))
