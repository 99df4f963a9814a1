-- Texts in byte order that begin with the same bytes stand together.
use Rattle.std.proofs.Common.{◌≡◌, ◌<◌, ◌≤◌, ℕ, suc, ◌+◌, List, [], ◌∷◌, ◌++◌, length, get_or, take, drop, ap, sym, ◌∙◌, refl, Bool, true, false, cond, ◌&&◌, arith, subst, eqb, ltb}
use Rattle.std.specs.List.{filter}
use Rattle.std.specs.Prelude.{nat_eq}
use Rattle.std.specs.Cmp.Lexicographic.{slice_cmp}
use Rattle.std.specs.List.Sorted.{IsSorted, IsPartitionedBy, IsPartitionPoint}
use Rattle.std.specs.Ordering.{is_lt, nat_cmp, ordering_reverse, ordering_then}
use Rattle.std.specs.declared.cmp.Ordering.{Ordering}
use Rattle.std.specs.declared.cmp.Ordering.TheVariants.{Less, Equal, Greater}
use Rattle.std.proofs.lemmas.Bool.{eqb-true, eq-eqb, ltb-false, and_parts, false≢true}
use Rattle.std.proofs.lemmas.Cmp.{nat_list_cmp_total, nat_cmp_total, tied_itself}
use Rattle.std.proofs.lemmas.List.Sorted.{ranks_by, sorted_far}
use Rattle.ldap_filter.specs.Matching.{begins}
use Rattle.std.proofs.Common.{get_or-drop, length-drop, take-append-drop, get_or-take, length-take-le, append-nil}
use Rattle.std.proofs.lemmas.List.Elements.{filter-append}

abbrev pub is_low : List ℕ → List ℕ → Bool
is_low a b = is_lt (slice_cmp nat_cmp a b)

-- what a first byte says of the order
first_low : (a b : ℕ) (o : Ordering) → is_lt (ordering_then (nat_cmp a b) o) ≡ false → (b ≤ a) × (a ≡ b → is_lt o ≡ false)
first_low a b o high = by_test (ltb a b) refl where
  same : a ≡ b → nat_cmp a b ≡ Equal
  same e = ap (λ x. nat_cmp x b) e ∙ tied_itself nat_cmp_total b

  by_test : (t : Bool) → ltb a b ≡ t → (b ≤ a) × (a ≡ b → is_lt o ≡ false)
  by_test true is = absurd (false≢true (sym high ∙ ap (λ t. is_lt (ordering_then (cond t Less (cond (eqb a b) Equal Greater)) o)) is))
  by_test false is = (ltb-false a b is, λ e. sym (ap (λ c. is_lt (ordering_then c o)) (same e)) ∙ high)

-- what begins with a text isn't below it
pub begun_not_low : (start k : List ℕ) → begins k start ≡ true → is_low k start ≡ false
begun_not_low [] [] e = refl
begun_not_low [] (c ∷ cs) e = refl
begun_not_low (s ∷ ss) [] e = absurd (false≢true e)
begun_not_low (s ∷ ss) (c ∷ cs) e =
    let parts : (nat_eq s c ≡ true) × (begins cs ss ≡ true) = and_parts _ _ e in
    let same : s ≡ c = eqb-true s c parts.0 in
    ap (λ x. is_lt (ordering_then (nat_cmp c x) (slice_cmp nat_cmp cs ss))) same ∙ ap (λ o. is_lt (ordering_then o (slice_cmp nat_cmp cs ss))) (tied_itself nat_cmp_total c) ∙ begun_not_low ss cs parts.1

low_not_begun : (start k : List ℕ) → is_low k start ≡ true → begins k start ≡ false
low_not_begun start k low = by_test (begins k start) refl where
  by_test : (b : Bool) → begins k start ≡ b → b ≡ false
  by_test true is = absurd (false≢true (sym (begun_not_low start k is) ∙ low))
  by_test false is = refl

-- what stands between a text and one that begins with it begins with it
between : (start k l : List ℕ) → is_low k start ≡ false → is_low l k ≡ false → begins l start ≡ true → begins k start ≡ true
between [] k l high below e = refl
between (s ∷ ss) k [] high below e = absurd (false≢true e)
between (s ∷ ss) [] (d ∷ ds) high below e = absurd (false≢true (sym high))
between (s ∷ ss) (c ∷ cs) (d ∷ ds) high below e =
    let parts : (nat_eq s d ≡ true) × (begins ds ss ≡ true) = and_parts _ _ e in
    let over : (s ≤ c) × (c ≡ s → is_low cs ss ≡ false) = first_low c s _ high in
    let under : (c ≤ d) × (d ≡ c → is_low ds cs ≡ false) = first_low d c _ below in
    let with_last : s ≡ d = eqb-true s d parts.0 in
    let with_first : c ≡ s = omega (arith, over.0, under.0, with_last) in
    ap (λ x. nat_eq x c && begins cs ss) (sym with_first) ∙ ap (λ b. b && begins cs ss) (eq-eqb c c refl) ∙ between ss cs ds (over.1 with_first) (under.1 (sym with_last ∙ sym with_first)) parts.1

not_greater : (a b c : List ℕ) → is_low b a ≡ false → is_low b c ≡ true → is_low a c ≡ true
not_greater a b c low below = by_order (slice_cmp nat_cmp a b) refl where
  before_less : (o : Ordering) → is_lt o ≡ true → o ≡ Less
  before_less Less e = refl
  before_less Equal e = absurd (false≢true e)
  before_less Greater e = absurd (false≢true e)

  by_order : (o : Ordering) → slice_cmp nat_cmp a b ≡ o → is_low a c ≡ true
  by_order Less is = ap is_lt (nat_list_cmp_total.trans a b c is (before_less (slice_cmp nat_cmp b c) below))
  by_order Equal is = ap is_lt (nat_list_cmp_total.congr a b c is) ∙ below
  by_order Greater is = absurd (false≢true (sym low ∙ ap is_lt (nat_list_cmp_total.antisymm b a ∙ ap ordering_reverse is)))

filter_none : {X : Type 0} (p : X → Bool) (xs : List X) → ((i : ℕ) (d : X) → i < length xs → p (get_or xs i d) ≡ false) → filter p xs ≡ []
filter_none p [] none = refl
filter_none p (x ∷ xs) none = ap (λ b. cond b (x ∷ filter p xs) (filter p xs)) (none 0 x (omega arith)) ∙ filter_none p xs (λ i d within. none (suc i) d (omega (arith, within)))

filter_all : {X : Type 0} (p : X → Bool) (xs : List X) → ((i : ℕ) (d : X) → i < length xs → p (get_or xs i d) ≡ true) → filter p xs ≡ xs
filter_all p [] all = refl
filter_all p (x ∷ xs) all = ap (λ b. cond b (x ∷ filter p xs) (filter p xs)) (all 0 x (omega arith)) ∙ ap (λ w. x ∷ w) (filter_all p xs (λ i d within. all (suc i) d (omega (arith, within))))

module _ {X : Type 0} (text : X → List ℕ) where
  abbrev InOrder : List X → Type 0
  InOrder xs = IsSorted (λ a b. slice_cmp nat_cmp (text a) (text b)) xs

  in_order_far : (xs : List X) → InOrder xs → (i j : ℕ) (d : X) → i ≤ j → j < length xs → is_low (text (get_or xs j d)) (text (get_or xs i d)) ≡ false
  in_order_far xs sorted = sorted_far (λ a b. is_low (text a) (text b)) (ranks_by nat_list_cmp_total text) xs sorted

  -- those below a text are the first ones
  pub low_parts : (xs : List X) (t : List ℕ) → InOrder xs → IsPartitionedBy (λ x. is_low (text x) t) xs
  low_parts xs t sorted i j d low within below = not_greater (text (get_or xs i d)) (text (get_or xs j d)) t (in_order_far xs sorted i j d low within) below

  -- where none is below a text, those that begin with it are the first ones
  pub begun_parts : (xs : List X) (t : List ℕ) → InOrder xs → ((i : ℕ) (d : X) → i < length xs → is_low (text (get_or xs i d)) t ≡ false) → IsPartitionedBy (λ x. begins (text x) t) xs
  begun_parts xs t sorted high i j d low within begun = between t (text (get_or xs i d)) (text (get_or xs j d)) (high i d (omega (arith, low, within))) (in_order_far xs sorted i j d low within) begun

  pub in_order_behind : (n : ℕ) (xs : List X) → InOrder xs → InOrder (drop n xs)
  in_order_behind n xs sorted k d low within =
      let place : n + k + 1 ≡ n + (k + 1) = omega arith in
      ap (λ x. is_low (text x) (text (get_or (drop n xs) k d))) (get_or-drop n xs (k + 1) d) ∙ ap (λ x. is_low (text (get_or xs (n + (k + 1)) d)) (text x)) (get_or-drop n xs k d)
      ∙ subst (λ m. is_low (text (get_or xs m d)) (text (get_or xs (n + k) d)) ≡ false) place (sorted (n + k) d (omega arith) (omega (arith, within, length-drop n xs)))

  -- behind those below a text, those that begin with it are the first ones
  pub begun_behind : (xs behind : List X) (t : List ℕ) (a : ℕ) → InOrder xs → behind ≡ drop a xs → IsPartitionPoint (λ x. is_low (text x) t ≡ true) (λ x. is_low (text x) t ≡ false) xs a → IsPartitionedBy (λ x. begins (text x) t) behind
  begun_behind xs behind t a sorted is low = begun_parts behind t (subst InOrder (sym is) (in_order_behind a xs sorted)) (λ i d within.
      ap (λ w. is_low (text (get_or w i d)) t) is ∙ ap (λ x. is_low (text x) t) (get_or-drop a xs i d) ∙ low.1 (a + i) d (omega arith) (omega (arith, within, ap length is, length-drop a xs)))

  -- those that begin with a text stand behind those below it, before all others
  pub begun_between : (xs behind : List X) (t : List ℕ) (a b : ℕ) → a ≤ length xs → behind ≡ drop a xs → b ≤ length behind
      → IsPartitionPoint (λ x. is_low (text x) t ≡ true) (λ x. is_low (text x) t ≡ false) xs a
      → IsPartitionPoint (λ x. begins (text x) t ≡ true) (λ x. begins (text x) t ≡ false) behind b
      → take b behind ≡ filter (λ x. begins (text x) t) xs
  begun_between xs behind t a b within is within_behind low begun =
      let front : filter (λ x. begins (text x) t) (take a xs) ≡ [] = filter_none (λ x. begins (text x) t) (take a xs) (λ i d below.
      let first : i < a = omega (arith, below, length-take-le a xs within) in
      ap (λ x. begins (text x) t) (get_or-take a xs i d first) ∙ low_not_begun t (text (get_or xs i d)) (low.0 i d (omega arith) first)) in
      let middle : filter (λ x. begins (text x) t) (take b behind) ≡ take b behind = filter_all (λ x. begins (text x) t) (take b behind) (λ i d below.
      let first : i < b = omega (arith, below, length-take-le b behind within_behind) in
      ap (λ x. begins (text x) t) (get_or-take b behind i d first) ∙ begun.0 i d (omega arith) first) in
      let last : filter (λ x. begins (text x) t) (drop b behind) ≡ [] = filter_none (λ x. begins (text x) t) (drop b behind) (λ i d below.
      ap (λ x. begins (text x) t) (get_or-drop b behind i d) ∙ begun.1 (b + i) d (omega arith) (omega (arith, below, length-drop b behind))) in
      sym (ap (filter (λ x. begins (text x) t)) (sym (take-append-drop a xs)) ∙ filter-append (λ x. begins (text x) t) (take a xs) (drop a xs)
      ∙ ap (λ w. w ++ filter (λ x. begins (text x) t) (drop a xs)) front
      ∙ ap (filter (λ x. begins (text x) t)) (sym is)
      ∙ ap (filter (λ x. begins (text x) t)) (sym (take-append-drop b behind)) ∙ filter-append (λ x. begins (text x) t) (take b behind) (drop b behind)
      ∙ ap (λ w. w ++ filter (λ x. begins (text x) t) (drop b behind)) middle ∙ ap (λ w. take b behind ++ w) last ∙ append-nil (take b behind))
