-- What a stable sort gives: the items in order, those that tie as they came.
use Rattle.std.proofs.Common.{◌≡◌, ℕ, zero, suc, ◌+◌, ◌<◌, List, [], ◌∷◌, ap, sym, ◌∙◌, refl, cond, arith, Bool, true, false, length, subst, get_or}
use Rattle.std.specs.Prelude.{◌&&◌, filter, not, OnOk, Result, Ok, Err}
use Rattle.std.specs.List.{list_all}
use Rattle.std.specs.Cmp.{IsStrictWeakOrder}
use Rattle.std.specs.List.Sorted.{IsSortedBy, IsStableBy, ties}
use Rattle.prop_map.specs.Words.{in_order, insert_by}
use Rattle.wb_context.specs.Rising.{NoneBelow, Rising}

-- what holds where a call gave a value
pub on_ok : {T E P Q : Type 0} (r : Result T E) → (P → Q) → OnOk r P → OnOk r Q
on_ok (Ok x) f h = f h
on_ok (Err e) f h = tt

false_or_true : {A : Type 0} (b : Bool) → b ≡ false → b ≡ true → A
false_or_true b e f = cc

module _ {X : Type 0} where
  -- what passes a filter is of the list
  kept_passes : (p q : X → Bool) (xs : List X) (y : X) (rest : List X) → list_all q xs ≡ true → filter p xs ≡ y ∷ rest → q y ≡ true
  kept_passes p q [] y rest all e = cc
  kept_passes p q (x ∷ xs) y rest all e = by_tests (q x) (p x) refl refl (kept_passes p q xs y rest) where
    by_tests : (a b : Bool) → q x ≡ a → p x ≡ b → (list_all q xs ≡ true → filter p xs ≡ y ∷ rest → q y ≡ true) → q y ≡ true
    by_tests false b ea eb further = false_or_true (q x && list_all q xs) (ap (λ c. c && list_all q xs) ea) all
    by_tests true true ea eb further = let f : x ∷ filter p xs ≡ y ∷ rest = sym (ap (λ c. cond c (x ∷ filter p xs) (filter p xs)) eb) ∙ e in let g : x ≡ y = cc in sym (ap q g) ∙ ea
    by_tests true false ea eb further = further (sym (ap (λ c. c && list_all q xs) ea) ∙ all) (sym (ap (λ c. cond c (x ∷ filter p xs) (filter p xs)) eb) ∙ e)

module _ {X : Type 0} (lt : X → X → Bool) (o : IsStrictWeakOrder lt) where
  -- the test of `in_order` that leaves items that tie as they came
  abbrev not_after : X → X → Bool
  not_after a b = not (lt b a)

  abbrev Low : X → List X → Type 0
  Low y zs = NoneBelow lt y zs

  not_itself : (x : X) → lt x x ≡ false
  not_itself x = by (lt x x) refl where
    by : (b : Bool) → lt x x ≡ b → lt x x ≡ false
    by true e = o.one_way x x e
    by false e = e

  low_cons : (y z : X) (zs : List X) → lt z y ≡ false → Low y zs → Low y (z ∷ zs)
  low_cons y z zs e low = ap (λ b. not b && list_all (λ w. not (lt w y)) zs) e ∙ low

  low_head : (y z : X) (zs : List X) → Low y (z ∷ zs) → lt z y ≡ false
  low_head y z zs low = by (lt z y) refl where
    by : (b : Bool) → lt z y ≡ b → lt z y ≡ false
    by true e = let f : (not (lt z y) && list_all (λ w. not (lt w y)) zs) ≡ false = ap (λ b. not b && list_all (λ w. not (lt w y)) zs) e in false_or_true (not (lt z y) && list_all (λ w. not (lt w y)) zs) f low
    by false e = e

  low_tail : (y z : X) (zs : List X) → Low y (z ∷ zs) → Low y zs
  low_tail y z zs low = sym (ap (λ b. not b && list_all (λ w. not (lt w y)) zs) (low_head y z zs low)) ∙ low

  -- what isn't above y
  lower : (y z : X) (zs : List X) → lt z y ≡ false → Low z zs → Low y zs
  lower y z [] e low = refl
  lower y z (w ∷ zs) e low = low_cons y w zs (o.chain w z y (low_head z w zs low) e) (lower y z zs e (low_tail z w zs low))

  rest_sorted : (x : X) (ys : List X) → IsSortedBy lt (x ∷ ys) → IsSortedBy lt ys
  rest_sorted x ys s k d low high = let e : suc k + 1 ≡ suc (k + 1) = omega arith in subst (λ n. lt (get_or (x ∷ ys) n d) (get_or ys k d) ≡ false) e (s (suc k) d (omega arith) (omega (arith, high)))

  rising : (ys : List X) → IsSortedBy lt ys → Rising lt ys
  rising [] s = tt
  rising (y ∷ []) s = (refl, tt)
  rising (y ∷ z ∷ zs) s =
      let e : lt z y ≡ false = s 0 y (omega arith) (omega arith) in
      let more : Rising lt (z ∷ zs) = rising (z ∷ zs) (rest_sorted y (z ∷ zs) s) in
      (low_cons y z zs e (lower y z zs e more.0), more)

  low_inserted : (y x : X) (zs : List X) → lt x y ≡ false → Low y zs → Low y (insert_by not_after x zs)
  low_inserted y x [] e low = low_cons y x [] e refl
  low_inserted y x (z ∷ zs) e low = by (not_after x z) (low_inserted y x zs e (low_tail y z zs low)) where
    by : (b : Bool) → Low y (insert_by not_after x zs) → Low y (cond b (x ∷ z ∷ zs) (z ∷ insert_by not_after x zs))
    by true further = low_cons y x (z ∷ zs) e low
    by false further = low_cons y z (insert_by not_after x zs) (low_head y z zs low) further

  rising_inserted : (x : X) (zs : List X) → Rising lt zs → Rising lt (insert_by not_after x zs)
  rising_inserted x [] up = (refl, tt)
  rising_inserted x (z ∷ zs) up = by (lt z x) refl (rising_inserted x zs up.1) where
    by : (b : Bool) → lt z x ≡ b → Rising lt (insert_by not_after x zs) → Rising lt (insert_by not_after x (z ∷ zs))
    by true e further = subst (λ b. Rising lt (cond (not b) (x ∷ z ∷ zs) (z ∷ insert_by not_after x zs))) (sym e) (low_inserted z x zs (o.one_way z x e) up.0, further)
    by false e further = subst (λ b. Rising lt (cond (not b) (x ∷ z ∷ zs) (z ∷ insert_by not_after x zs))) (sym e) (low_cons x z zs e (lower x z zs e up.0), up)

  pub rising_order : (xs : List X) → Rising lt (in_order not_after xs)
  rising_order [] = tt
  rising_order (x ∷ xs) = rising_inserted x (in_order not_after xs) (rising_order xs)

  -- two that tie with one tie with each other
  not_below : (w x y : X) → ties lt w x ≡ true → ties lt w y ≡ true → lt y x ≡ false
  not_below w x y e f = o.chain y w x (below_of (lt w y) (lt y w) f) (above_of (lt w x) (lt x w) e) where
    below_of : (a b : Bool) → (not a && not b) ≡ true → b ≡ false
    below_of true true e = sym e
    below_of true false e = refl
    below_of false true e = sym e
    below_of false false e = refl

    above_of : (a b : Bool) → (not a && not b) ≡ true → a ≡ false
    above_of true b e = sym e
    above_of false b e = refl

  kept : (w x : X) (xs : List X) (b : Bool) → ties lt w x ≡ b → filter (ties lt w) (x ∷ xs) ≡ cond b (x ∷ filter (ties lt w) xs) (filter (ties lt w) xs)
  kept w x xs b e = ap (λ c. cond c (x ∷ filter (ties lt w) xs) (filter (ties lt w) xs)) e

  inserted_ties : (w x : X) (zs : List X) → filter (ties lt w) (insert_by not_after x zs) ≡ filter (ties lt w) (x ∷ zs)
  inserted_ties w x [] = refl
  inserted_ties w x (z ∷ zs) = by (lt z x) (ties lt w z) (ties lt w x) refl refl refl (inserted_ties w x zs) where
    placed : (b : Bool) → lt z x ≡ b → insert_by not_after x (z ∷ zs) ≡ cond (not b) (x ∷ z ∷ zs) (z ∷ insert_by not_after x zs)
    placed b e = ap (λ c. cond (not c) (x ∷ z ∷ zs) (z ∷ insert_by not_after x zs)) e

    by : (b c d : Bool) → lt z x ≡ b → ties lt w z ≡ c → ties lt w x ≡ d → filter (ties lt w) (insert_by not_after x zs) ≡ filter (ties lt w) (x ∷ zs)
        → filter (ties lt w) (insert_by not_after x (z ∷ zs)) ≡ filter (ties lt w) (x ∷ z ∷ zs)
    by false c d e f g further = ap (filter (ties lt w)) (placed false e)
    by true true true e f g further = false_or_true (lt z x) (not_below w x z g f) e
    by true true false e f g further =
        ap (filter (ties lt w)) (placed true e) ∙ kept w z (insert_by not_after x zs) true f ∙ ap (λ l. z ∷ l) (further ∙ kept w x zs false g)
        ∙ sym (kept w x (z ∷ zs) false g ∙ kept w z zs true f)
    by true false d e f g further =
        ap (filter (ties lt w)) (placed true e) ∙ kept w z (insert_by not_after x zs) false f ∙ further ∙ kept w x zs d g
        ∙ sym (kept w x (z ∷ zs) d g ∙ ap (λ l. cond d (x ∷ l) l) (kept w z zs false f))

  pub ordered_ties : (w : X) (xs : List X) → filter (ties lt w) (in_order not_after xs) ≡ filter (ties lt w) xs
  ordered_ties w [] = refl
  ordered_ties w (x ∷ xs) = inserted_ties w x (in_order not_after xs) ∙ ap (λ l. cond (ties lt w x) (x ∷ l) l) (ordered_ties w xs)

  ties_itself : (x : X) → ties lt x x ≡ true
  ties_itself x = ap (λ b. not b && not b) (not_itself x)

  first_kept : (x : X) (xs : List X) → filter (ties lt x) (x ∷ xs) ≡ x ∷ filter (ties lt x) xs
  first_kept x xs = kept x x xs true (ties_itself x)

  not_lower : (y z : X) (ys zs : List X) → Low z zs → filter (ties lt y) (y ∷ ys) ≡ filter (ties lt y) (z ∷ zs) → lt y z ≡ false
  not_lower y z ys zs low e = by (lt y z) refl where
    passes : not (lt y z) ≡ true
    passes = kept_passes (ties lt y) (λ w. not (lt w z)) (z ∷ zs) y (filter (ties lt y) ys) (low_cons z z zs (not_itself z) low) (sym e ∙ first_kept y ys)

    by : (b : Bool) → lt y z ≡ b → lt y z ≡ false
    by true f = let g : not (lt y z) ≡ false = ap not f in false_or_true (not (lt y z)) g passes
    by false f = f

  same_rest : (y : X) (ys zs : List X) (w : X) (b : Bool) → ties lt w y ≡ b → filter (ties lt w) (y ∷ ys) ≡ filter (ties lt w) (y ∷ zs) → filter (ties lt w) ys ≡ filter (ties lt w) zs
  same_rest y ys zs w true e same = let f : y ∷ filter (ties lt w) ys ≡ y ∷ filter (ties lt w) zs = sym (kept w y ys true e) ∙ same ∙ kept w y zs true e in cc
  same_rest y ys zs w false e same = sym (kept w y ys false e) ∙ same ∙ kept w y zs false e

  -- two rising lists with the same items that tie, in the same order
  only_one : (ys zs : List X) → Rising lt ys → Rising lt zs → ((w : X) → filter (ties lt w) ys ≡ filter (ties lt w) zs) → ys ≡ zs
  only_one [] [] up up' same = refl
  only_one [] (z ∷ zs) up up' same = let e : [] ≡ z ∷ filter (ties lt z) zs = same z ∙ first_kept z zs in cc
  only_one (y ∷ ys) [] up up' same = let e : y ∷ filter (ties lt y) ys ≡ [] = sym (first_kept y ys) ∙ same y in cc
  only_one (y ∷ ys) (z ∷ zs) up up' same =
      let a : lt y z ≡ false = not_lower y z ys zs up'.0 (same y) in
      let b : lt z y ≡ false = not_lower z y zs ys up.0 (sym (same z)) in
      let t : ties lt y z ≡ true = ap (λ c. not c && not (lt z y)) a ∙ ap not b in
      let f : y ∷ filter (ties lt y) ys ≡ z ∷ filter (ties lt y) zs = sym (first_kept y ys) ∙ same y ∙ kept y z zs true t in
      let g : y ≡ z = cc in
      let rest : (w : X) → filter (ties lt w) ys ≡ filter (ties lt w) zs = λ w. same_rest y ys zs w (ties lt w y) refl (same w ∙ ap (λ v. filter (ties lt w) (v ∷ zs)) (sym g)) in
      ap (λ v. v ∷ ys) g ∙ ap (λ l. z ∷ l) (only_one ys zs up.1 up'.1 rest)

  -- a stable sort gives the items in order
  pub sorted_stably : (xs ys : List X) → IsSortedBy lt ys → IsStableBy lt xs ys → ys ≡ in_order not_after xs
  sorted_stably xs ys sorted stable = only_one ys (in_order not_after xs) (rising ys sorted) (rising_order xs) (λ w. stable w ∙ sym (ordered_ties w xs))
