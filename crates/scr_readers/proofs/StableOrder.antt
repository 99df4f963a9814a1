-- What a stable sort of the reversed list gives: `in_order`, also where items tie.
use Rattle.std.proofs.Common.{◌≡◌, ◌<◌, ◌+◌, ℕ, suc, List, [], ◌∷◌, ◌++◌, ap, sym, ◌∙◌, refl, cond, arith, Bool, true, false, length, subst, append-nil}
use Rattle.std.specs.Prelude.{filter, reverse, not, ◌&&◌, ◌==◌, nat_lt}
use Rattle.std.proofs.Math.ListN.{get_or}
use Rattle.std.specs.Cmp.{IsStrictWeakOrder, nat_cmp_total}
use Rattle.std.specs.List.Sorted.{IsSortedBy, IsSortedByKey, IsStableBy, IsStableByKey, ties}
use Rattle.std.specs.Ordering.{is_lt, nat_cmp}
use Rattle.std.specs.declared.cmp.Ordering.TheVariants.{Less, Equal, Greater}
use Rattle.std.proofs.lemmas.Bool.{false≢true}
use Rattle.std.proofs.lemmas.List.{reverse-append}
use Rattle.std.proofs.lemmas.List.Elements.{filter-append}
use Rattle.std.proofs.lemmas.List.Sorted.{ranks_by, sorted_far}
use Rattle.prop_map.specs.Words.{in_order, insert_by}

module _ {X : Type 0} (before : X → X → Bool) (o : IsStrictWeakOrder before) where
  -- none of these goes before x
  abbrev NoneBefore : X → List X → Type 0
  NoneBefore x [] = Unit {0}
  NoneBefore x (z ∷ zs) = (before z x ≡ false) × NoneBefore x zs

  -- no item goes before one that stands in front of it
  abbrev IsRising : List X → Type 0
  IsRising [] = Unit {0}
  IsRising (x ∷ xs) = NoneBefore x xs × IsRising xs

  never_itself_by : (x : X) (b : Bool) → before x x ≡ b → before x x ≡ false
  never_itself_by x true e = o.one_way x x e
  never_itself_by x false e = e

  never_itself : (x : X) → before x x ≡ false
  never_itself x = never_itself_by x (before x x) refl

  -- what goes behind y is behind what y is behind
  still_before_by : (x y z : X) (b : Bool) → before x y ≡ true → before z y ≡ false → before x z ≡ b → before x z ≡ true
  still_before_by x y z true p q e = e
  still_before_by x y z false p q e = absurd (false≢true (sym (o.chain x z y e q) ∙ p))

  still_before : (x y z : X) → before x y ≡ true → before z y ≡ false → before x z ≡ true
  still_before x y z p q = still_before_by x y z (before x z) p q refl

  -- ---- a sorted list rises

  none_before_at : (x : X) (zs : List X) → ((k : ℕ) (d : X) → k < length zs → before (get_or zs k d) x ≡ false) → NoneBefore x zs
  none_before_at x [] h = tt
  none_before_at x (z ∷ zs) h = (h 0 z (omega arith), none_before_at x zs (λ k d l. h (suc k) d (omega (arith, l))))

  rest_sorted : (x : X) (xs : List X) → IsSortedBy before (x ∷ xs) → IsSortedBy before xs
  rest_sorted x xs s k d low high = let e : suc k + 1 ≡ suc (k + 1) = omega arith in subst (λ n. before (get_or (x ∷ xs) n d) (get_or xs k d) ≡ false) e (s (suc k) d (omega arith) (omega (arith, high)))

  sorted_rises : (xs : List X) → IsSortedBy before xs → IsRising xs
  sorted_rises [] s = tt
  sorted_rises (x ∷ xs) s =
      (none_before_at x xs (λ k d l. sorted_far before o (x ∷ xs) s 0 (suc k) d (omega arith) (omega (arith, l))), sorted_rises xs (rest_sorted x xs s))

  -- ---- `in_order` rises

  none_before_further : (x y : X) (zs : List X) → before x y ≡ true → NoneBefore y zs → NoneBefore x zs
  none_before_further x y [] p h = tt
  none_before_further x y (z ∷ zs) p h = (o.chain z y x h.0 (o.one_way x y p), none_before_further x y zs p h.1)

  none_before_inserted_by : (y x z : X) (zs : List X) (b : Bool) → before x z ≡ b → before x y ≡ false → NoneBefore y (z ∷ zs) → NoneBefore y (insert_by before x zs) → NoneBefore y (insert_by before x (z ∷ zs))
  none_before_inserted_by y x z zs true e p h ih = subst (λ b. NoneBefore y (cond b (x ∷ z ∷ zs) (z ∷ insert_by before x zs))) (sym e) (p, h)
  none_before_inserted_by y x z zs false e p h ih = subst (λ b. NoneBefore y (cond b (x ∷ z ∷ zs) (z ∷ insert_by before x zs))) (sym e) (h.0, ih)

  none_before_inserted : (y x : X) (zs : List X) → before x y ≡ false → NoneBefore y zs → NoneBefore y (insert_by before x zs)
  none_before_inserted y x [] p h = (p, tt)
  none_before_inserted y x (z ∷ zs) p h = none_before_inserted_by y x z zs (before x z) refl p h (none_before_inserted y x zs p h.1)

  inserted_rises_by : (x y : X) (ys : List X) (b : Bool) → before x y ≡ b → IsRising (y ∷ ys) → IsRising (insert_by before x ys) → IsRising (insert_by before x (y ∷ ys))
  inserted_rises_by x y ys true e h ih = subst (λ b. IsRising (cond b (x ∷ y ∷ ys) (y ∷ insert_by before x ys))) (sym e) ((o.one_way x y e, none_before_further x y ys e h.0), h)
  inserted_rises_by x y ys false e h ih = subst (λ b. IsRising (cond b (x ∷ y ∷ ys) (y ∷ insert_by before x ys))) (sym e) (none_before_inserted y x ys e h.0, ih)

  inserted_rises : (x : X) (ys : List X) → IsRising ys → IsRising (insert_by before x ys)
  inserted_rises x [] h = (tt, tt)
  inserted_rises x (y ∷ ys) h = inserted_rises_by x y ys (before x y) refl h (inserted_rises x ys h.1)

  in_order_rises : (xs : List X) → IsRising (in_order before xs)
  in_order_rises [] = tt
  in_order_rises (x ∷ xs) = inserted_rises x (in_order before xs) (in_order_rises xs)

  -- ---- items that tie stand in `in_order` the last one first

  tie_by : (t z : X) (b : Bool) → before t z ≡ b → b ≡ true → ties before t z ≡ false
  tie_by t z true e p = ap (λ b. not b && not (before z t)) e
  tie_by t z false e p = absurd (false≢true p)

  no_tie : (t z : X) → before t z ≡ true → ties before t z ≡ false
  no_tie t z e = tie_by t z (before t z) refl e

  -- nothing ties with what goes before the first of them
  none_ties : (t z : X) (zs : List X) → before t z ≡ true → NoneBefore z zs → filter (ties before t) zs ≡ []
  none_ties t z [] e h = refl
  none_ties t z (w ∷ zs) e h = ap (λ b. cond b (w ∷ filter (ties before t) zs) (filter (ties before t) zs)) (no_tie t w (still_before t z w e h.0)) ∙ none_ties t z zs e h.1

  taken : (p : X → Bool) (x : X) (xs : List X) (b : Bool) → p x ≡ b → filter p (x ∷ xs) ≡ cond b (x ∷ filter p xs) (filter p xs)
  taken p x xs b e = ap (λ b. cond b (x ∷ filter p xs) (filter p xs)) e

  neither_by : (a b : Bool) → (not a && not b) ≡ true → (a ≡ false) × (b ≡ false)
  neither_by true b e = absurd (false≢true e)
  neither_by false true e = absurd (false≢true e)
  neither_by false false e = (refl, refl)

  -- neither of two that tie goes before the other
  tied : (t x : X) → ties before t x ≡ true → (before t x ≡ false) × (before x t ≡ false)
  tied t x e = neither_by (before t x) (before x t) e

  also_before_by : (t x z : X) (b : Bool) → before x z ≡ true → ties before t x ≡ true → before t z ≡ b → before t z ≡ true
  also_before_by t x z true e p q = q
  also_before_by t x z false e p q = absurd (false≢true (sym (o.chain x t z (tied t x p).1 q) ∙ e))

  also_before : (t x z : X) → before x z ≡ true → ties before t x ≡ true → before t z ≡ true
  also_before t x z e p = also_before_by t x z (before t z) e p refl

  kept_in_front_by : (t x y : X) (ys : List X) (b : Bool) → ties before t x ≡ b → before x y ≡ true → NoneBefore y ys
      → filter (ties before t) (x ∷ y ∷ ys) ≡ filter (ties before t) (y ∷ ys) ++ filter (ties before t) (x ∷ [])
  kept_in_front_by t x y ys true e p h =
      let none : filter (ties before t) (y ∷ ys) ≡ [] = none_ties t y (y ∷ ys) (also_before t x y p e) (never_itself y, h) in
      taken (ties before t) x (y ∷ ys) true e ∙ ap (λ l. x ∷ l) none
      ∙ sym (ap (λ l. l ++ filter (ties before t) (x ∷ [])) none ∙ taken (ties before t) x [] true e)
  kept_in_front_by t x y ys false e p h =
      taken (ties before t) x (y ∷ ys) false e
      ∙ sym (ap (λ l. filter (ties before t) (y ∷ ys) ++ l) (taken (ties before t) x [] false e) ∙ append-nil (filter (ties before t) (y ∷ ys)))

  kept_behind_by : (p : X → Bool) (y : X) (zs ys end : List X) (b : Bool) → p y ≡ b → filter p zs ≡ filter p ys ++ end → filter p (y ∷ zs) ≡ filter p (y ∷ ys) ++ end
  kept_behind_by p y zs ys end true e h = taken p y zs true e ∙ ap (λ l. y ∷ l) h ∙ sym (ap (λ l. l ++ end) (taken p y ys true e))
  kept_behind_by p y zs ys end false e h = taken p y zs false e ∙ h ∙ sym (ap (λ l. l ++ end) (taken p y ys false e))

  tie_inserted_by : (t x y : X) (ys : List X) (b : Bool) → before x y ≡ b → NoneBefore y ys
      → filter (ties before t) (insert_by before x ys) ≡ filter (ties before t) ys ++ filter (ties before t) (x ∷ [])
      → filter (ties before t) (insert_by before x (y ∷ ys)) ≡ filter (ties before t) (y ∷ ys) ++ filter (ties before t) (x ∷ [])
  tie_inserted_by t x y ys true e h ih =
      ap (λ b. filter (ties before t) (cond b (x ∷ y ∷ ys) (y ∷ insert_by before x ys))) e ∙ kept_in_front_by t x y ys (ties before t x) refl e h
  tie_inserted_by t x y ys false e h ih =
      ap (λ b. filter (ties before t) (cond b (x ∷ y ∷ ys) (y ∷ insert_by before x ys))) e
      ∙ kept_behind_by (ties before t) y (insert_by before x ys) ys (filter (ties before t) (x ∷ [])) (ties before t y) refl ih

  tie_inserted : (t x : X) (ys : List X) → IsRising ys → filter (ties before t) (insert_by before x ys) ≡ filter (ties before t) ys ++ filter (ties before t) (x ∷ [])
  tie_inserted t x [] h = refl
  tie_inserted t x (y ∷ ys) h = tie_inserted_by t x y ys (before x y) refl h.0 (tie_inserted t x ys h.1)

  ties_in_order : (t : X) (xs : List X) → filter (ties before t) (in_order before xs) ≡ filter (ties before t) (reverse xs)
  ties_in_order t [] = refl
  ties_in_order t (x ∷ xs) =
      tie_inserted t x (in_order before xs) (in_order_rises xs) ∙ ap (λ l. l ++ filter (ties before t) (x ∷ [])) (ties_in_order t xs)
      ∙ sym (ap (filter (ties before t)) (reverse-append (x ∷ []) xs) ∙ filter-append (ties before t) (reverse xs) (x ∷ []))

  -- ---- rising lists whose items tie alike are equal

  ties_itself : (t : X) → ties before t t ≡ true
  ties_itself t = ap (λ b. not b && not b) (never_itself t)

  head_is : (x y : X) (xs ys : List X) → x ∷ xs ≡ y ∷ ys → x ≡ y
  head_is x y xs ys e = cc

  rest_is : (x y : X) (xs ys : List X) → x ∷ xs ≡ y ∷ ys → xs ≡ ys
  rest_is x y xs ys e = cc

  not_empty : (x : X) (xs : List X) → x ∷ xs ≡ [] → ⊥
  not_empty x xs e = cc

  first_ties : (t : X) (ts : List X) → filter (ties before t) (t ∷ ts) ≡ t ∷ filter (ties before t) ts
  first_ties t ts = taken (ties before t) t ts true (ties_itself t)

  rest_ties_by : (p : X → Bool) (y z : X) (ys zs : List X) (b : Bool) → y ≡ z → p y ≡ b → filter p (y ∷ ys) ≡ filter p (z ∷ zs) → filter p ys ≡ filter p zs
  rest_ties_by p y z ys zs true same e h =
      rest_is y z (filter p ys) (filter p zs) (sym (taken p y ys true e) ∙ h ∙ taken p z zs true (sym (ap p same) ∙ e))
  rest_ties_by p y z ys zs false same e h = sym (taken p y ys false e) ∙ h ∙ taken p z zs false (sym (ap p same) ∙ e)

  -- the first items of two such lists are one
  never_first : (y z : X) (ys zs : List X) → before y z ≡ true → NoneBefore z zs → filter (ties before y) (y ∷ ys) ≡ filter (ties before y) (z ∷ zs) → ⊥
  never_first y z ys zs e h f = not_empty y (filter (ties before y) ys) (sym (first_ties y ys) ∙ f ∙ none_ties y z (z ∷ zs) e (never_itself z, h))

  same_first_by : (y z : X) (ys zs : List X) (a b : Bool) → before y z ≡ a → before z y ≡ b → IsRising (y ∷ ys) → IsRising (z ∷ zs)
      → ((t : X) → filter (ties before t) (y ∷ ys) ≡ filter (ties before t) (z ∷ zs)) → y ≡ z
  same_first_by y z ys zs true b p q h k f = absurd (never_first y z ys zs p k.0 (f y))
  same_first_by y z ys zs false true p q h k f = absurd (never_first z y zs ys q h.0 (sym (f z)))
  same_first_by y z ys zs false false p q h k f =
      let tie : ties before y z ≡ true = ap (λ b. not b && not (before z y)) p ∙ ap (λ b. not b) q in
      head_is y z (filter (ties before y) ys) (filter (ties before y) zs) (sym (first_ties y ys) ∙ f y ∙ taken (ties before y) z zs true tie)

  alike : (ys zs : List X) → IsRising ys → IsRising zs → ((t : X) → filter (ties before t) ys ≡ filter (ties before t) zs) → ys ≡ zs
  alike [] [] h k f = refl
  alike [] (z ∷ zs) h k f = absurd (not_empty z (filter (ties before z) zs) (sym (first_ties z zs) ∙ sym (f z)))
  alike (y ∷ ys) [] h k f = absurd (not_empty y (filter (ties before y) ys) (sym (first_ties y ys) ∙ f y))
  alike (y ∷ ys) (z ∷ zs) h k f =
      let same : y ≡ z = same_first_by y z ys zs (before y z) (before z y) refl refl h k f in
      ap (λ x. x ∷ ys) same ∙ ap (λ l. z ∷ l) (alike ys zs h.1 k.1 (λ t. rest_ties_by (ties before t) y z ys zs (ties before t y) same refl (f t)))

  -- a stable sort of the reversed list
  pub stable_is_in_order : (xs ys : List X) → IsSortedBy before ys → IsStableBy before (reverse xs) ys → ys ≡ in_order before xs
  stable_is_in_order xs ys s stable = alike ys (in_order before xs) (sorted_rises ys s) (in_order_rises xs) (λ t. stable t ∙ sym (ties_in_order t xs))

-- the order of a test that says the same
module _ {X : Type 0} (before test : X → X → Bool) (same : (x y : X) → before x y ≡ test x y) where
  insert_by_test : (x : X) (ys : List X) → insert_by before x ys ≡ insert_by test x ys
  insert_by_test x [] = refl
  insert_by_test x (y ∷ ys) = ap (λ b. cond b (x ∷ y ∷ ys) (y ∷ insert_by before x ys)) (same x y) ∙ ap (λ l. cond (test x y) (x ∷ y ∷ ys) (y ∷ l)) (insert_by_test x ys)

  pub in_order_by_test : (xs : List X) → in_order before xs ≡ in_order test xs
  in_order_by_test [] = refl
  in_order_by_test (x ∷ xs) = insert_by_test x (in_order before xs) ∙ ap (insert_by test x) (in_order_by_test xs)

lower_by : (b c : Bool) → is_lt (cond b Less (cond c Equal Greater)) ≡ b
lower_by true c = refl
lower_by false true = refl
lower_by false false = refl

-- a stable sort by a number of each item
pub sorted_by_number : {X : Type 0} (number_of : X → ℕ) (xs ys : List X) → IsSortedByKey number_of nat_cmp ys → IsStableByKey number_of nat_cmp (reverse xs) ys
    → ys ≡ in_order (λ a b. nat_lt (number_of a) (number_of b)) xs
sorted_by_number number_of xs ys s stable =
    stable_is_in_order (λ a b. is_lt (nat_cmp (number_of a) (number_of b))) (ranks_by nat_cmp_total number_of) xs ys s stable
    ∙ in_order_by_test (λ a b. is_lt (nat_cmp (number_of a) (number_of b))) (λ a b. nat_lt (number_of a) (number_of b)) (λ a b. lower_by (nat_lt (number_of a) (number_of b)) (number_of a == number_of b)) xs
