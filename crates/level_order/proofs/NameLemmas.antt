-- That texts have the same number among names in byte order exactly where they are the same.
use Rattle.std.proofs.Common.{◌≡◌, ◌<◌, ◌≤◌, ℕ, zero, suc, ◌+◌, List, [], ◌∷◌, ◌++◌, length, get_or, take, ap, sym, ◌∙◌, refl, Bool, true, false, cond, ◌||◌, arith, inl, inr, subst}
use Rattle.std.specs.Prelude.{map, ◌==◌}
use Rattle.std.specs.Cmp.{both_ways}
use Rattle.std.specs.Cmp.Lexicographic.{slice_cmp}
use Rattle.std.specs.List.{list_any, flat_map}
use Rattle.std.specs.List.Sorted.{IsSorted, IsPartitionedBy, IsPartitionPoint}
use Rattle.std.specs.Ordering.{is_lt, is_eq, nat_cmp, ordering_reverse}
use Rattle.std.specs.Str.{bytes_eq}
use Rattle.std.specs.declared.cmp.Ordering.{Ordering}
use Rattle.std.specs.declared.cmp.Ordering.TheVariants.{Less, Equal, Greater}
use Rattle.std.proofs.lemmas.Bool.{cases_lt, eq-eqb, eqb-true, or_cases, false≢true}
use Rattle.std.proofs.lemmas.Cmp.{nat_list_cmp_total}
use Rattle.std.proofs.lemmas.List.Folds.{list_any-append}
use Rattle.std.proofs.lemmas.Map.Text.{is_eq-slice_cmp}
use Rattle.std.proofs.lemmas.Slice.Eq.{bytes_eq-Decides}
use Rattle.component_dto.specs.TextLists.{has_text}
use Rattle.component_dto.specs.declared.description.Description.{Description}
use Rattle.level_order.specs.InterfaceNames.{is_before, named_by, number_of}

-- ---- where a name would stand

not_greater : (a b c : List ℕ) (o : Ordering) → slice_cmp nat_cmp a b ≡ o → is_lt (slice_cmp nat_cmp b a) ≡ false → is_before b c ≡ true → is_before a c ≡ true
not_greater a b c Less is low below = ap is_lt (nat_list_cmp_total.trans a b c is (before_less (slice_cmp nat_cmp b c) below)) where
  before_less : (o : Ordering) → is_lt o ≡ true → o ≡ Less
  before_less Less e = refl
  before_less Equal e = absurd (false≢true e)
  before_less Greater e = absurd (false≢true e)
not_greater a b c Equal is low below = ap is_lt (nat_list_cmp_total.congr a b c is) ∙ below
not_greater a b c Greater is low below = absurd (false≢true (sym low ∙ ap is_lt (nat_list_cmp_total.antisymm b a ∙ ap ordering_reverse is)))

module _ {X : Type 0} (text : X → List ℕ) where
  -- the names before one are the first ones
  pub sorted_parts : (xs : List X) (t : List ℕ) → IsSorted (λ a b. slice_cmp nat_cmp (text a) (text b)) xs → IsPartitionedBy (λ x. is_before (text x) t) xs
  sorted_parts xs t sorted i zero d low within below = subst (λ n. is_before (text (get_or xs n d)) t ≡ true) (omega (arith, low)) below
  sorted_parts xs t sorted i (suc j) d low within below = elim (cases_lt i (suc j)) [
    | inl earlier ↦ sorted_parts xs t sorted i j d (omega arith) (omega arith)
        (not_greater (text (get_or xs j d)) (text (get_or xs (suc j) d)) t (slice_cmp nat_cmp (text (get_or xs j d)) (text (get_or xs (suc j) d))) refl
        (subst (λ n. is_lt (slice_cmp nat_cmp (text (get_or xs n d)) (text (get_or xs j d))) ≡ false) (omega arith) (sorted j d (omega arith) (omega arith))) below)
    | inr here ↦ subst (λ n. is_before (text (get_or xs n d)) t ≡ true) (omega (arith, low, here)) below
  ]

  -- the place where the names before it end is its number
  pub point_number : (xs : List X) (t : List ℕ) (i : ℕ) → i ≤ length xs → IsPartitionPoint (λ x. is_before (text x) t ≡ true) (λ x. is_before (text x) t ≡ false) xs i → i ≡ number_of (map text xs) t
  point_number [] t i within point = omega (arith, within)
  point_number (x ∷ xs) t zero within point = rw (point.1 0 x (omega arith) (omega arith)) (point_number xs t zero (omega arith) ((λ k d low high. point.0 (suc k) d (omega arith) (omega arith)), (λ k d low high. point.1 (suc k) d (omega arith) (omega arith))))
  point_number (x ∷ xs) t (suc i) within point = rw (point.0 0 x (omega arith) (omega arith)) (ap suc (point_number xs t i (omega arith) ((λ k d low high. point.0 (suc k) d (omega arith) (omega arith)), (λ k d low high. point.1 (suc k) d (omega arith) (omega arith)))))

-- ---- numbers of names

bit : (a b : Bool) (m n : ℕ) → (a ≡ true → b ≡ true) → m ≤ n → cond a (suc m) m ≤ cond b (suc n) n
bit true b m n step le = rw (step refl) (omega (arith, le))
bit false true m n step le = omega (arith, le)
bit false false m n step le = le

not_before : (n t : List ℕ) → bytes_eq n t ≡ true → slice_cmp nat_cmp n t ≡ Equal
not_before n t e = is_equal (slice_cmp nat_cmp n t) (is_eq-slice_cmp n t ∙ e) where
  is_equal : (o : Ordering) → is_eq o ≡ true → o ≡ Equal
  is_equal Less e = absurd (false≢true e)
  is_equal Equal e = refl
  is_equal Greater e = absurd (false≢true e)

less_before : (n t u : List ℕ) → slice_cmp nat_cmp t u ≡ Less → is_before n t ≡ true → is_before n u ≡ true
less_before n t u low e = ap is_lt (nat_list_cmp_total.trans n t u (before_less (slice_cmp nat_cmp n t) e) low) where
  before_less : (o : Ordering) → is_lt o ≡ true → o ≡ Less
  before_less Less e = refl
  before_less Equal e = absurd (false≢true e)
  before_less Greater e = absurd (false≢true e)

number_le : (names : List (List ℕ)) (t u : List ℕ) → slice_cmp nat_cmp t u ≡ Less → number_of names t ≤ number_of names u
number_le [] t u low = omega arith
number_le (n ∷ names) t u low = bit (is_before n t) (is_before n u) (number_of names t) (number_of names u) (less_before n t u low) (number_le names t u low)

number_less : (names : List (List ℕ)) (t u : List ℕ) → slice_cmp nat_cmp t u ≡ Less → has_text names t ≡ true → number_of names t < number_of names u
number_less [] t u low there = absurd (false≢true there)
number_less (n ∷ names) t u low there = elim (or_cases (bytes_eq n t) (has_text names t) there) [
  | inl here ↦ (
      let no : is_before n t ≡ false = ap is_lt (not_before n t here) in
      let yes : is_before n u ≡ true = ap is_lt (nat_list_cmp_total.congr n t u (not_before n t here) ∙ low) in
      rw (no, yes) (omega (arith, number_le names t u low)))
  | inr later ↦ omega (arith, bit (is_before n t) (is_before n u) (suc (number_of names t)) (number_of names u) (less_before n t u low) (omega (arith, number_less names t u low later)), more (is_before n t) (number_of names t))
] where
  more : (b : Bool) (m : ℕ) → cond b (suc (suc m)) (suc m) ≡ suc (cond b (suc m) m)
  more true m = refl
  more false m = refl

-- a name among them has a number below how many they are
pub number_within : (names : List (List ℕ)) (t : List ℕ) → has_text names t ≡ true → number_of names t < length names
number_within [] t there = absurd (false≢true there)
number_within (n ∷ names) t there = elim (or_cases (bytes_eq n t) (has_text names t) there) [
  | inl here ↦ (let no : is_before n t ≡ false = ap is_lt (not_before n t here) in rw no (omega (arith, most names)))
  | inr later ↦ (let rest : number_of names t < length names = number_within names t later in bound (is_before n t) (number_of names t) (length names) rest)
] where
  bound : (b : Bool) (m k : ℕ) → m < k → cond b (suc m) m < suc k
  bound true m k low = omega (arith, low)
  bound false m k low = omega (arith, low)

  most : (ns : List (List ℕ)) → number_of ns t ≤ length ns
  most [] = omega arith
  most (m ∷ ns) = (let rest : number_of ns t ≤ length ns = most ns in le_one (is_before m t) (number_of ns t) (length ns) rest) where
    le_one : (b : Bool) (x k : ℕ) → x ≤ k → cond b (suc x) x ≤ suc k
    le_one true x k low = omega (arith, low)
    le_one false x k low = omega (arith, low)

pub same_numbers : (names : List (List ℕ)) (t u : List ℕ) → has_text names t ≡ true → has_text names u ≡ true → bytes_eq t u ≡ (number_of names t == number_of names u)
same_numbers names t u has_t has_u = by_order (slice_cmp nat_cmp t u) refl where
  apart : (m n : ℕ) → (m ≡ n → ⊥) → (m == n) ≡ false
  apart m n different = both_ways (m == n) false (λ e. absurd (different (eqb-true m n e))) (λ e. absurd (false≢true e))

  by_order : (o : Ordering) → slice_cmp nat_cmp t u ≡ o → bytes_eq t u ≡ (number_of names t == number_of names u)
  by_order Less is = sym (is_eq-slice_cmp t u) ∙ ap is_eq is ∙ sym (apart (number_of names t) (number_of names u) (λ same. omega (arith, number_less names t u is has_t, same)))
  by_order Equal is =
      let equal : bytes_eq t u ≡ true = sym (is_eq-slice_cmp t u) ∙ ap is_eq is in
      equal ∙ sym (eq-eqb (number_of names t) (number_of names u) (ap (number_of names) ((bytes_eq-Decides t u).0 equal)))
  by_order Greater is =
      let turned : slice_cmp nat_cmp u t ≡ Less = nat_list_cmp_total.antisymm u t ∙ ap ordering_reverse is in
      sym (is_eq-slice_cmp t u) ∙ ap is_eq is ∙ sym (apart (number_of names t) (number_of names u) (λ same. omega (arith, number_less names u t turned has_u, same)))

-- ---- all names

or_later : (a b : Bool) → b ≡ true → (a || b) ≡ true
or_later true b e = refl
or_later false b e = e

or_first : (a b : Bool) → a ≡ true → (a || b) ≡ true
or_first true b e = refl
or_first false b e = absurd (false≢true e)

-- the names of one description are among those of all
pub named_among : (ds : List Description) (i : ℕ) (d : Description) (t : List ℕ) → i < length ds → has_text (named_by (get_or ds i d)) t ≡ true → has_text (flat_map named_by ds) t ≡ true
named_among [] i d t within there = absurd (omega arith)
named_among (e ∷ ds) zero d t within there = list_any-append (λ n. bytes_eq n t) (named_by e) (flat_map named_by ds) ∙ or_first (has_text (named_by e) t) (has_text (flat_map named_by ds) t) there
named_among (e ∷ ds) (suc i) d t within there = list_any-append (λ n. bytes_eq n t) (named_by e) (flat_map named_by ds) ∙ or_later (has_text (named_by e) t) (has_text (flat_map named_by ds) t) (named_among ds i d t (omega arith) there)

-- at the end of the loop all names are there
pub all_taken : (ds : List Description) (i : ℕ) (names : List (List ℕ)) → length ds ≤ i → names ≡ flat_map named_by (take i ds) → names ≡ flat_map named_by ds
all_taken ds i names past is = is ∙ ap (flat_map named_by) (take_all ds i past) where
  take_all : (xs : List Description) (n : ℕ) → length xs ≤ n → take n xs ≡ xs
  take_all [] zero past = refl
  take_all [] (suc n) past = refl
  take_all (x ∷ xs) zero past = absurd (omega (arith, past))
  take_all (x ∷ xs) (suc n) past = ap (λ w. x ∷ w) (take_all xs n (omega (arith, past)))
