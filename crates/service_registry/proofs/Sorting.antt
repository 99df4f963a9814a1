-- What std's sort gives, where its test is a strict order in which any two different items compare: `in_order`.
use Rattle.std.proofs.Common.{◌≡◌, ◌<◌, ◌+◌, ℕ, zero, suc, List, [], ◌∷◌, ap, sym, ◌∙◌, refl, cond, arith, Bool, true, false, length, ◌⊎◌, ⊎_elim, subst}
use Rattle.std.specs.Prelude.{map}
use Rattle.std.proofs.Math.ListN.{get_or, set}
use Rattle.std.specs.List.{swap, remove}
use Rattle.std.proofs.lemmas.List.Edits.{swap_is}
use Rattle.std.specs.Cmp.{IsStrictWeakOrder}
use Rattle.std.specs.List.Sorted.{IsPermutation, IsSortedBy}
use Rattle.std.proofs.lemmas.Bool.{false≢true}
use Rattle.std.proofs.lemmas.List.{get_or_default, set-get_or}
use Rattle.std.proofs.lemmas.List.Sorted.{IsPermutation-keeps}
use Rattle.prop_map.specs.Words.{in_order, insert_by}

-- a test whose order is strict, and that tells any two different items apart
pub record TellsApart {X : Type 0} (before : X → X → Bool) : Type 0 where
  pub order : IsStrictWeakOrder before
  pub apart : (x y : X) → before x y ≡ false → before y x ≡ false → x ≡ y

module _ {X : Type 0} (before : X → X → Bool) (o : TellsApart before) where
  chained_by : (x y z : X) (b : Bool) → before x z ≡ b → before x y ≡ true → before y z ≡ true → before x z ≡ true
  chained_by x y z true e p q = e
  chained_by x y z false e p q = absurd (false≢true (sym (o.order.chain x z y e (o.order.one_way y z q)) ∙ p))

  chained : (x y z : X) → before x y ≡ true → before y z ≡ true → before x z ≡ true
  chained x y z p q = chained_by x y z (before x z) refl p q

  -- an item goes before the first of a list, or behind it
  goes_first : (x y : X) (ys : List X) → before x y ≡ true → insert_by before x (y ∷ ys) ≡ x ∷ y ∷ ys
  goes_first x y ys e = ap (λ b. cond b (x ∷ y ∷ ys) (y ∷ insert_by before x ys)) e

  goes_behind : (x y : X) (ys : List X) → before x y ≡ false → insert_by before x (y ∷ ys) ≡ y ∷ insert_by before x ys
  goes_behind x y ys e = ap (λ b. cond b (x ∷ y ∷ ys) (y ∷ insert_by before x ys)) e

  first_of_two : (x y : X) (ys : List X) → before x y ≡ true → insert_by before y (x ∷ ys) ≡ x ∷ insert_by before y ys
  first_of_two x y ys e = goes_behind y x ys (o.order.one_way x y e)

  -- two items go in in either order: by cases on where they go in a list with a first item
  commute_by : (x y z : X) (zs : List X) (a b : Bool) → before x y ≡ true → before y z ≡ a → before x z ≡ b
      → insert_by before x (insert_by before y zs) ≡ insert_by before y (insert_by before x zs)
      → insert_by before x (insert_by before y (z ∷ zs)) ≡ insert_by before y (insert_by before x (z ∷ zs))
  commute_by x y z zs true b e p q ih =
      ap (insert_by before x) (goes_first y z zs p) ∙ goes_first x y (z ∷ zs) e
      ∙ sym (ap (insert_by before y) (goes_first x z zs (chained x y z e p)) ∙ first_of_two x y (z ∷ zs) e ∙ ap (λ l. x ∷ l) (goes_first y z zs p))
  commute_by x y z zs false true e p q ih =
      ap (insert_by before x) (goes_behind y z zs p) ∙ goes_first x z (insert_by before y zs) q
      ∙ sym (ap (insert_by before y) (goes_first x z zs q) ∙ first_of_two x y (z ∷ zs) e ∙ ap (λ l. x ∷ l) (goes_behind y z zs p))
  commute_by x y z zs false false e p q ih =
      ap (insert_by before x) (goes_behind y z zs p) ∙ goes_behind x z (insert_by before y zs) q ∙ ap (λ l. z ∷ l) ih
      ∙ sym (ap (insert_by before y) (goes_behind x z zs q) ∙ goes_behind y z (insert_by before x zs) p)

  commute_ahead : (x y : X) (zs : List X) → before x y ≡ true → insert_by before x (insert_by before y zs) ≡ insert_by before y (insert_by before x zs)
  commute_ahead x y [] e = goes_first x y [] e ∙ sym (first_of_two x y [] e)
  commute_ahead x y (z ∷ zs) e = commute_by x y z zs (before y z) (before x z) e refl refl (commute_ahead x y zs e)

  commute_with : (x y : X) (zs : List X) (a b : Bool) → before x y ≡ a → before y x ≡ b → insert_by before x (insert_by before y zs) ≡ insert_by before y (insert_by before x zs)
  commute_with x y zs true b e f = commute_ahead x y zs e
  commute_with x y zs false true e f = sym (commute_ahead y x zs f)
  commute_with x y zs false false e f = let same : x ≡ y = o.apart x y e f in ap (λ z. insert_by before z (insert_by before y zs)) same ∙ sym (ap (λ z. insert_by before y (insert_by before z zs)) same)

  commute : (x y : X) (zs : List X) → insert_by before x (insert_by before y zs) ≡ insert_by before y (insert_by before x zs)
  commute x y zs = commute_with x y zs (before x y) (before y x) refl refl

  -- a list in order, with one item put in last
  with_item : (xs : List X) (i : ℕ) (v : X) → i < length xs → in_order before (set xs i v) ≡ insert_by before v (in_order before (remove xs i))
  with_item [] i v h = absurd (omega (arith, h))
  with_item (x ∷ xs) zero v h = refl
  with_item (x ∷ xs) (suc i) v h = ap (insert_by before x) (with_item xs i v (omega (arith, h))) ∙ commute x v (in_order before (remove xs i))

  -- an item put in the place of another, and that one in front, are in the order of the list as it was
  with_exchange : (x : X) (xs : List X) (j : ℕ) → j < length xs → insert_by before (get_or xs j x) (in_order before (set xs j x)) ≡ insert_by before x (in_order before xs)
  with_exchange x xs j h =
      ap (insert_by before (get_or xs j x)) (with_item xs j x h) ∙ commute (get_or xs j x) x (in_order before (remove xs j))
      ∙ ap (insert_by before x) (sym (with_item xs j (get_or xs j x) h) ∙ ap (in_order before) (set-get_or xs j x))

  exchanged : (xs : List X) (i j : ℕ) (d : X) → i < length xs → j < length xs → in_order before (set (set xs i (get_or xs j d)) j (get_or xs i d)) ≡ in_order before xs
  exchanged [] i j d p q = absurd (omega (arith, p))
  exchanged (x ∷ xs) zero zero d p q = refl
  exchanged (x ∷ xs) zero (suc j) d p q = ap (λ y. insert_by before y (in_order before (set xs j x))) (get_or_default xs j d x (omega (arith, q))) ∙ with_exchange x xs j (omega (arith, q))
  exchanged (x ∷ xs) (suc i) zero d p q = ap (λ y. insert_by before y (in_order before (set xs i x))) (get_or_default xs i d x (omega (arith, p))) ∙ with_exchange x xs i (omega (arith, p))
  exchanged (x ∷ xs) (suc i) (suc j) d p q = ap (insert_by before x) (exchanged xs i j d (omega (arith, p)) (omega (arith, q)))

  some_item : (l : List X) (i : ℕ) → i < length l → X
  some_item [] i h = absurd (omega (arith, h))
  some_item (x ∷ xs) i h = x

  -- lists with the same items have the same order
  pub same_order : (xs ys : List X) → IsPermutation xs ys → in_order before ys ≡ in_order before xs
  same_order xs ys = IsPermutation-keeps xs (λ l. in_order before l ≡ in_order before xs) refl (λ l i j p q h. let d : X = some_item l i p in ap (in_order before) (sym (swap_is l i j d p q)) ∙ exchanged l i j d p q ∙ h) ys

  -- an item in front of a list that has none to go before it stays there
  stays_in_front_by : (x y : X) (ys : List X) (b : Bool) → before x y ≡ b → before y x ≡ false → (x ≡ y → insert_by before x ys ≡ x ∷ ys) → insert_by before x (y ∷ ys) ≡ x ∷ y ∷ ys
  stays_in_front_by x y ys true p q rest = goes_first x y ys p
  stays_in_front_by x y ys false p q rest =
      let same : x ≡ y = o.apart x y p q in
      goes_behind x y ys p ∙ ap (λ l. y ∷ l) (rest same) ∙ ap (λ z. z ∷ x ∷ ys) (sym same) ∙ ap (λ z. x ∷ z ∷ ys) same

  pair_of : (x y : X) (ys : List X) → IsSortedBy before (x ∷ y ∷ ys) → before y x ≡ false
  pair_of x y ys s = s 0 x (omega arith) (omega arith)

  rest_of : (x : X) (ys : List X) → IsSortedBy before (x ∷ ys) → IsSortedBy before ys
  rest_of x ys s k d low high = let e : suc k + 1 ≡ suc (k + 1) = omega arith in subst (λ n. before (get_or (x ∷ ys) n d) (get_or ys k d) ≡ false) e (s (suc k) d (omega arith) (omega (arith, high)))

  stays_in_front : (x : X) (ys : List X) → IsSortedBy before (x ∷ ys) → insert_by before x ys ≡ x ∷ ys
  stays_in_front x [] s = refl
  stays_in_front x (y ∷ ys) s = stays_in_front_by x y ys (before x y) refl (pair_of x y ys s) (λ same. stays_in_front x ys (subst (λ z. IsSortedBy before (z ∷ ys)) (sym same) (rest_of x (y ∷ ys) s)))

  in_order_already : (xs : List X) → IsSortedBy before xs → in_order before xs ≡ xs
  in_order_already [] s = refl
  in_order_already (x ∷ xs) s = ap (insert_by before x) (in_order_already xs (rest_of x xs s)) ∙ stays_in_front x xs s

  -- a sort gives a list in order
  pub sorted_is_in_order : (xs ys : List X) → IsPermutation xs ys → IsSortedBy before ys → ys ≡ in_order before xs
  sorted_is_in_order xs ys p s = sym (in_order_already ys s) ∙ same_order xs ys p

-- what is in order by a test on what f makes of the items
module _ {X Y : Type 0} (f : X → Y) (before : Y → Y → Bool) where
  insert_made_by : (x y : X) (xs : List X) (b : Bool) → before (f x) (f y) ≡ b → map f (insert_by (λ a c. before (f a) (f c)) x xs) ≡ insert_by before (f x) (map f xs)
      → map f (insert_by (λ a c. before (f a) (f c)) x (y ∷ xs)) ≡ insert_by before (f x) (f y ∷ map f xs)
  insert_made_by x y xs true e ih = ap (λ b. map f (cond b (x ∷ y ∷ xs) (y ∷ insert_by (λ a c. before (f a) (f c)) x xs))) e ∙ sym (ap (λ b. cond b (f x ∷ f y ∷ map f xs) (f y ∷ insert_by before (f x) (map f xs))) e)
  insert_made_by x y xs false e ih = ap (λ b. map f (cond b (x ∷ y ∷ xs) (y ∷ insert_by (λ a c. before (f a) (f c)) x xs))) e ∙ ap (λ l. f y ∷ l) ih ∙ sym (ap (λ b. cond b (f x ∷ f y ∷ map f xs) (f y ∷ insert_by before (f x) (map f xs))) e)

  insert_made : (x : X) (xs : List X) → map f (insert_by (λ a b. before (f a) (f b)) x xs) ≡ insert_by before (f x) (map f xs)
  insert_made x [] = refl
  insert_made x (y ∷ xs) = insert_made_by x y xs (before (f x) (f y)) refl (insert_made x xs)

  pub in_order_made : (xs : List X) → map f (in_order (λ a b. before (f a) (f b)) xs) ≡ in_order before (map f xs)
  in_order_made [] = refl
  in_order_made (x ∷ xs) = insert_made x (in_order (λ a b. before (f a) (f b)) xs) ∙ ap (insert_by before (f x)) (in_order_made xs)
