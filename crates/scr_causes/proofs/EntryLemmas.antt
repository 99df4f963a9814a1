-- Services under their interfaces: as many of one interface as there are services that have it, which stand together in byte order.
use Rattle.std.proofs.Common.{◌≡◌, ◌<◌, ◌≤◌, ℕ, suc, ◌+◌, List, [], ◌∷◌, ◌++◌, length, get_or, take, drop, map, ap, sym, ◌∙◌, refl, Bool, true, false, cond, ◌&&◌, ◌||◌, not, add-zero, zero-add, arith, subst, get_or-drop, length-append, length-drop, take-append-drop, get_or-take, length-take-le, append-nil}
use Rattle.std.specs.Borrow.{Bor}
use Rattle.std.specs.List.{filter, sum_by}
use Rattle.std.specs.Cmp.{IsStrictWeakOrder}
use Rattle.std.specs.Cmp.Lexicographic.{slice_cmp}
use Rattle.std.specs.List.Sorted.{IsPermutation, IsSorted, IsPartitionedBy, IsPartitionPoint}
use Rattle.std.specs.Ordering.{is_eq, is_lt, nat_cmp, ordering_reverse}
use Rattle.std.specs.Str.{bytes_eq}
use Rattle.std.specs.declared.cmp.Ordering.{Ordering}
use Rattle.std.specs.declared.cmp.Ordering.TheVariants.{Less, Equal, Greater}
use Rattle.std.proofs.lemmas.Bool.{false≢true}
use Rattle.std.proofs.lemmas.Cmp.{nat_list_cmp_total, tied_itself}
use Rattle.std.proofs.lemmas.List.{map-append, take_more}
use Rattle.std.proofs.lemmas.List.Folds.{list_any-append}
use Rattle.std.proofs.lemmas.List.Elements.{filter-append}
use Rattle.std.proofs.lemmas.List.Sorted.{ranks_by, sorted_far, sum_by-IsPermutation}
use Rattle.std.proofs.lemmas.List.Sums.{sum_by-cons}
use Rattle.std.proofs.lemmas.Map.Text.{is_eq-slice_cmp}
use Rattle.std.proofs.lemmas.Slice.Eq.{bytes_eq-Decides}
use Rattle.prop_map.specs.Words.{one_if}
use Rattle.reference_match.specs.declared.need.Need.{Need}
use Rattle.reference_match.specs.Targets.{meets}
use Rattle.service_registry.specs.declared.row.ServiceRow.{ServiceRow}
use Rattle.service_registry.specs.Services.{has_interface}
use Rattle.text_index.specs.Texts.{has_text}
use Rattle.scr_causes.specs.declared.service_table.Entry.{Entry}
use Rattle.scr_causes.specs.ServiceTables.{AreOf, count_under, entry_cmp, is_under}

abbrev pub is_low : List ℕ → List ℕ → Bool
is_low a b = is_lt (slice_cmp nat_cmp a b)

-- the same text isn't below
same_not_low : (t k : List ℕ) → bytes_eq k t ≡ true → is_low k t ≡ false
same_not_low t k e = ap (λ x. is_low x t) ((bytes_eq-Decides k t).0 e) ∙ ap is_lt (tied_itself nat_list_cmp_total t)

low_not_same : (t k : List ℕ) → is_low k t ≡ true → bytes_eq k t ≡ false
low_not_same t k low = by_test (bytes_eq k t) refl where
  by_test : (b : Bool) → bytes_eq k t ≡ b → b ≡ false
  by_test true is = absurd (false≢true (sym (same_not_low t k is) ∙ low))
  by_test false is = refl

-- what stands between a text and the same text is it
between : (t k l : List ℕ) → is_low k t ≡ false → is_low l k ≡ false → bytes_eq l t ≡ true → bytes_eq k t ≡ true
between t k l high below e = by_order (slice_cmp nat_cmp k t) refl where
  under : is_low t k ≡ false
  under = subst (λ x. is_low x k ≡ false) ((bytes_eq-Decides l t).0 e) below

  by_order : (o : Ordering) → slice_cmp nat_cmp k t ≡ o → bytes_eq k t ≡ true
  by_order Less is = absurd (false≢true (sym high ∙ ap is_lt is))
  by_order Equal is = sym (is_eq-slice_cmp k t) ∙ ap is_eq is
  by_order Greater is = absurd (false≢true (sym under ∙ ap is_lt (nat_list_cmp_total.antisymm t k ∙ ap ordering_reverse is)))

not_greater : (a b c : List ℕ) → is_low b a ≡ false → is_low b c ≡ true → is_low a c ≡ true
not_greater a b c low below = by_order (slice_cmp nat_cmp a b) refl where
  before_less : (o : Ordering) → is_lt o ≡ true → o ≡ Less
  before_less Less e = refl
  before_less Equal e = absurd (false≢true e)
  before_less Greater e = absurd (false≢true e)

  by_order : (o : Ordering) → slice_cmp nat_cmp a b ≡ o → is_low a c ≡ true
  by_order Less is = ap is_lt (nat_list_cmp_total.trans a b c is (before_less (slice_cmp nat_cmp b c) below))
  by_order Equal is = ap is_lt (nat_list_cmp_total.congr a b c is) ∙ below
  by_order Greater is = absurd (false≢true (sym low ∙ ap is_lt (nat_list_cmp_total.antisymm b a ∙ ap ordering_reverse is)))

filter_none : {X : Type 0} (p : X → Bool) (xs : List X) → ((i : ℕ) (d : X) → i < length xs → p (get_or xs i d) ≡ false) → filter p xs ≡ []
filter_none p [] none = refl
filter_none p (x ∷ xs) none = ap (λ b. cond b (x ∷ filter p xs) (filter p xs)) (none 0 x (omega arith)) ∙ filter_none p xs (λ i d within. none (suc i) d (omega (arith, within)))

filter_all : {X : Type 0} (p : X → Bool) (xs : List X) → ((i : ℕ) (d : X) → i < length xs → p (get_or xs i d) ≡ true) → filter p xs ≡ xs
filter_all p [] all = refl
filter_all p (x ∷ xs) all = ap (λ b. cond b (x ∷ filter p xs) (filter p xs)) (all 0 x (omega arith)) ∙ ap (λ w. x ∷ w) (filter_all p xs (λ i d within. all (suc i) d (omega (arith, within))))

module _ {X : Type 0} (text : X → List ℕ) where
  abbrev InOrder : List X → Type 0
  InOrder xs = IsSorted (λ a b. slice_cmp nat_cmp (text a) (text b)) xs

  in_order_far : (xs : List X) → InOrder xs → (i j : ℕ) (d : X) → i ≤ j → j < length xs → is_low (text (get_or xs j d)) (text (get_or xs i d)) ≡ false
  in_order_far xs sorted = sorted_far (λ a b. is_low (text a) (text b)) (ranks_by nat_list_cmp_total text) xs sorted

  -- those below a text are the first ones
  pub low_parts : (xs : List X) (t : List ℕ) → InOrder xs → IsPartitionedBy (λ x. is_low (text x) t) xs
  low_parts xs t sorted i j d low within below = not_greater (text (get_or xs i d)) (text (get_or xs j d)) t (in_order_far xs sorted i j d low within) below

  -- where none is below a text, those with this text are the first ones
  same_parts : (xs : List X) (t : List ℕ) → InOrder xs → ((i : ℕ) (d : X) → i < length xs → is_low (text (get_or xs i d)) t ≡ false) → IsPartitionedBy (λ x. bytes_eq (text x) t) xs
  same_parts xs t sorted high i j d low within same = between t (text (get_or xs i d)) (text (get_or xs j d)) (high i d (omega (arith, low, within))) (in_order_far xs sorted i j d low within) same

  in_order_behind : (n : ℕ) (xs : List X) → InOrder xs → InOrder (drop n xs)
  in_order_behind n xs sorted k d low within =
      let place : n + k + 1 ≡ n + (k + 1) = omega arith in
      ap (λ x. is_low (text x) (text (get_or (drop n xs) k d))) (get_or-drop n xs (k + 1) d) ∙ ap (λ x. is_low (text (get_or xs (n + (k + 1)) d)) (text x)) (get_or-drop n xs k d)
      ∙ subst (λ m. is_low (text (get_or xs m d)) (text (get_or xs (n + k) d)) ≡ false) place (sorted (n + k) d (omega arith) (omega (arith, within, length-drop n xs)))

  -- behind those below a text, those with this text are the first ones
  pub same_behind : (xs behind : List X) (t : List ℕ) (a : ℕ) → InOrder xs → behind ≡ drop a xs → IsPartitionPoint (λ x. is_low (text x) t ≡ true) (λ x. is_low (text x) t ≡ false) xs a → IsPartitionedBy (λ x. bytes_eq (text x) t) behind
  same_behind xs behind t a sorted is low = same_parts behind t (subst InOrder (sym is) (in_order_behind a xs sorted)) (λ i d within.
      ap (λ w. is_low (text (get_or w i d)) t) is ∙ ap (λ x. is_low (text x) t) (get_or-drop a xs i d) ∙ low.1 (a + i) d (omega arith) (omega (arith, within, ap length is, length-drop a xs)))

  -- those with a text stand behind those below it, before all others
  pub same_between : (xs behind : List X) (t : List ℕ) (a b : ℕ) → a ≤ length xs → behind ≡ drop a xs → b ≤ length behind
      → IsPartitionPoint (λ x. is_low (text x) t ≡ true) (λ x. is_low (text x) t ≡ false) xs a
      → IsPartitionPoint (λ x. bytes_eq (text x) t ≡ true) (λ x. bytes_eq (text x) t ≡ false) behind b
      → take b behind ≡ filter (λ x. bytes_eq (text x) t) xs
  same_between xs behind t a b within is within_behind low same =
      let front : filter (λ x. bytes_eq (text x) t) (take a xs) ≡ [] = filter_none (λ x. bytes_eq (text x) t) (take a xs) (λ i d below.
      let first : i < a = omega (arith, below, length-take-le a xs within) in
      ap (λ x. bytes_eq (text x) t) (get_or-take a xs i d first) ∙ low_not_same t (text (get_or xs i d)) (low.0 i d (omega arith) first)) in
      let middle : filter (λ x. bytes_eq (text x) t) (take b behind) ≡ take b behind = filter_all (λ x. bytes_eq (text x) t) (take b behind) (λ i d below.
      let first : i < b = omega (arith, below, length-take-le b behind within_behind) in
      ap (λ x. bytes_eq (text x) t) (get_or-take b behind i d first) ∙ same.0 i d (omega arith) first) in
      let last : filter (λ x. bytes_eq (text x) t) (drop b behind) ≡ [] = filter_none (λ x. bytes_eq (text x) t) (drop b behind) (λ i d below.
      ap (λ x. bytes_eq (text x) t) (get_or-drop b behind i d) ∙ same.1 (b + i) d (omega arith) (omega (arith, below, length-drop b behind))) in
      sym (ap (filter (λ x. bytes_eq (text x) t)) (sym (take-append-drop a xs)) ∙ filter-append (λ x. bytes_eq (text x) t) (take a xs) (drop a xs)
      ∙ ap (λ w. w ++ filter (λ x. bytes_eq (text x) t) (drop a xs)) front
      ∙ ap (filter (λ x. bytes_eq (text x) t)) (sym is)
      ∙ ap (filter (λ x. bytes_eq (text x) t)) (sym (take-append-drop b behind)) ∙ filter-append (λ x. bytes_eq (text x) t) (take b behind) (drop b behind)
      ∙ ap (λ w. w ++ filter (λ x. bytes_eq (text x) t) (drop b behind)) middle ∙ ap (λ w. take b behind ++ w) last ∙ append-nil (take b behind))

-- ---- the order

abbrev pub stands_earlier : Entry → Entry → Bool
stands_earlier a b = is_lt (entry_cmp a b)

pub earlier_ranks : IsStrictWeakOrder stands_earlier
earlier_ranks = ranks_by nat_list_cmp_total (λ (e : Entry). e.interface.now)

-- ---- counts

filter_twice : {X : Type 0} (p q : X → Bool) (xs : List X) → filter q (filter p xs) ≡ filter (λ x. p x && q x) xs
filter_twice p q [] = refl
filter_twice p q (x ∷ xs) = go (p x) (filter_twice p q xs)
  where
    go : (b : Bool) → filter q (filter p xs) ≡ filter (λ y. p y && q y) xs → filter q (cond b (x ∷ filter p xs) (filter p xs)) ≡ cond (b && q x) (x ∷ filter (λ y. p y && q y) xs) (filter (λ y. p y && q y) xs)
    go true rest = ap (λ ys. cond (q x) (x ∷ ys) ys) rest
    go false rest = rest

filter_same : {X : Type 0} (p q : X → Bool) → ((x : X) → p x ≡ q x) → (xs : List X) → filter p xs ≡ filter q xs
filter_same p q each [] = refl
filter_same p q each (x ∷ xs) = ap (λ b. cond b (x ∷ filter p xs) (filter p xs)) (each x) ∙ ap (λ ys. cond (q x) (x ∷ ys) ys) (filter_same p q each xs)

counted_sum : {X : Type 0} (p : X → Bool) (xs : List X) → length (filter p xs) ≡ sum_by (λ x. one_if (p x)) xs
counted_sum p [] = refl
counted_sum p (x ∷ xs) = go (p x) (counted_sum p xs) ∙ sym (sum_by-cons (λ y. one_if (p y)) x xs)
  where
    go : (b : Bool) → length (filter p xs) ≡ sum_by (λ y. one_if (p y)) xs → length (cond b (x ∷ filter p xs) (filter p xs)) ≡ one_if b + sum_by (λ y. one_if (p y)) xs
    go true rest = omega (arith, rest)
    go false rest = omega (arith, rest)

counted_moved : {X : Type 0} (p : X → Bool) (xs ys : List X) → IsPermutation xs ys → length (filter p ys) ≡ length (filter p xs)
counted_moved p xs ys moved = counted_sum p ys ∙ sum_by-IsPermutation (λ x. one_if (p x)) xs ys moved ∙ sym (counted_sum p xs)

-- in whatever order
pub are_of_moved : (rows : List ServiceRow) (xs ys : List Entry) → IsPermutation xs ys → AreOf rows xs → AreOf rows ys
are_of_moved rows xs ys moved are interface test = counted_moved (λ (e : Entry). is_under interface e && test e.row.now) xs ys moved ∙ are interface test

-- those of one interface are as many as have it
pub with_counted : (rows : List ServiceRow) (entries : List Entry) → AreOf rows entries → (interface : List ℕ) → length (filter (is_under interface) entries) ≡ length (filter (has_interface interface) rows)
with_counted rows entries are interface =
    ap length (filter_same (is_under interface) (λ (e : Entry). is_under interface e && true) (λ e. sym (alone (is_under interface e))) entries)
    ∙ are interface (λ r. true)
    ∙ ap length (filter_same (λ (r : ServiceRow). has_interface interface r && true) (has_interface interface) (λ r. alone (has_interface interface r)) rows)
  where
    alone : (b : Bool) → (b && true) ≡ b
    alone true = refl
    alone false = refl

-- and of those as many meet a need as of all
pub meeting_counted : (rows : List ServiceRow) (entries : List Entry) → AreOf rows entries → (n : Need) → length (filter (λ (e : Entry). meets n e.row.now) (filter (is_under n.interface) entries)) ≡ length (filter (meets n) rows)
meeting_counted rows entries are n =
    ap length (filter_twice (is_under n.interface) (λ (e : Entry). meets n e.row.now) entries)
    ∙ are n.interface (meets n)
    ∙ ap length (filter_same (λ (r : ServiceRow). has_interface n.interface r && meets n r) (meets n) (λ r. twice (has_interface n.interface r) _) rows)
  where
    twice : (a b : Bool) → (a && (a && b)) ≡ (a && b)
    twice true b = refl
    twice false b = refl

-- ---- as they are pushed

count_joined : (interface : List ℕ) (test : ServiceRow → Bool) (xs ys : List Entry) → count_under interface test (xs ++ ys) ≡ count_under interface test xs + count_under interface test ys
count_joined interface test xs ys =
    ap length (filter-append (λ (e : Entry). is_under interface e && test e.row.now) xs ys)
    ∙ length-append (filter (λ (e : Entry). is_under interface e && test e.row.now) xs) (filter (λ (e : Entry). is_under interface e && test e.row.now) ys)

one_counted : (interface : List ℕ) (test : ServiceRow → Bool) (e : Entry) → count_under interface test (e ∷ []) ≡ one_if (is_under interface e && test e.row.now)
one_counted interface test e = go (is_under interface e && test e.row.now)
  where
    go : (b : Bool) → length (cond b (e ∷ []) []) ≡ one_if b
    go true = refl
    go false = refl

-- a new one
pub pushed : (interface : List ℕ) (test : ServiceRow → Bool) (xs : List Entry) (e : Entry) (old : Bool) → old ≡ false
    → count_under interface test (xs ++ e ∷ []) ≡ count_under interface test xs + one_if (not old && (bytes_eq e.interface.now interface && test e.row.now))
pushed interface test xs e old new =
    count_joined interface test xs (e ∷ [])
    ∙ ap (λ n. count_under interface test xs + n) (one_counted interface test e)
    ∙ ap (λ b. count_under interface test xs + one_if (not b && (bytes_eq e.interface.now interface && test e.row.now))) (sym new)

pub unpushed : (count : ℕ) (old rest : Bool) → old ≡ true → count ≡ count + one_if (not old && rest)
unpushed count old rest is = sym (add-zero count) ∙ ap (λ b. count + one_if (not b && rest)) (sym is)

-- one more interface of a service
more_of : (a b n t : Bool) → (b ≡ true → n ≡ a) → one_if (a && t) + one_if (not n && (b && t)) ≡ one_if ((a || b) && t)
more_of true false true t is = add-zero (one_if t)
more_of true false false t is = add-zero (one_if t)
more_of false false true t is = refl
more_of false false false t is = refl
more_of true true n t is = ap (λ m. one_if t + one_if (not m && t)) (is refl) ∙ add-zero (one_if t)
more_of false true n t is = ap (λ m. 0 + one_if (not m && t)) (is refl) ∙ zero-add (one_if t)

pub has_more : (names : List (List ℕ)) (i : ℕ) (x text : List ℕ) → i < length names → x ≡ get_or names i x → has_text (take (i + 1) names) text ≡ (has_text (take i names) text || bytes_eq x text)
has_more names i x text within is =
    ap (λ ns. has_text ns text) (take_more names i x within ∙ ap (λ y. take i names ++ y ∷ []) (sym is))
    ∙ list_any-append (λ t. bytes_eq t text) (take i names) (x ∷ [])
    ∙ ap (λ b. has_text (take i names) text || b) (last (bytes_eq x text))
  where
    last : (b : Bool) → (b || false) ≡ b
    last true = refl
    last false = refl

pub more_counted : (names : List (List ℕ)) (i : ℕ) (x interface : List ℕ) (t : Bool) (start before now : ℕ) → i < length names → x ≡ get_or names i x
    → before ≡ start + one_if (has_text (take i names) interface && t)
    → now ≡ before + one_if (not (has_text (take i names) x) && (bytes_eq x interface && t))
    → now ≡ start + one_if (has_text (take (i + 1) names) interface && t)
more_counted names i x interface t start before now within is was more =
    let a = has_text (take i names) interface in
    let n = has_text (take i names) x in
    let grown : has_text (take (i + 1) names) interface ≡ (a || bytes_eq x interface) = has_more names i x interface within is in
    let step : one_if (a && t) + one_if (not n && (bytes_eq x interface && t)) ≡ one_if ((a || bytes_eq x interface) && t)
    = more_of a (bytes_eq x interface) n t (λ same. ap (has_text (take i names)) ((bytes_eq-Decides x interface).0 same)) in
    more ∙ ap (λ k. k + one_if (not n && (bytes_eq x interface && t))) was
    ∙ joined start (one_if (a && t)) (one_if (not n && (bytes_eq x interface && t)))
    ∙ ap (λ k. start + k) (step ∙ ap (λ b. one_if (b && t)) (sym grown))
  where
    joined : (k l m : ℕ) → k + l + m ≡ k + (l + m)
    joined k l m = omega arith

-- and it is found then
pub more_seen : (names : List (List ℕ)) (i : ℕ) (x text : List ℕ) (old new : Bool) → i < length names → x ≡ get_or names i x
    → old ≡ has_text (take i names) text → new ≡ (bytes_eq x text || old) → new ≡ has_text (take (i + 1) names) text
more_seen names i x text old new within is was more =
    more ∙ turned (bytes_eq x text) old ∙ ap (λ b. b || bytes_eq x text) was ∙ sym (has_more names i x text within is)
  where
    turned : (a b : Bool) → (a || b) ≡ (b || a)
    turned true true = refl
    turned true false = refl
    turned false true = refl
    turned false false = refl

-- one more service
pub more_rows : (rows : List (Bor ServiceRow)) (i : ℕ) (row : Bor ServiceRow) (xs ys : List Entry) → i < length rows → row ≡ get_or rows i row
    → AreOf (map (λ (r : Bor ServiceRow). r.now) (take i rows)) xs
    → ((interface : List ℕ) (test : ServiceRow → Bool) → count_under interface test ys ≡ count_under interface test xs + one_if (has_interface interface row.now && test row.now))
    → AreOf (map (λ (r : Bor ServiceRow). r.now) (take (i + 1) rows)) ys
more_rows rows i row xs ys within is are more interface test =
    let seen = map (λ (r : Bor ServiceRow). r.now) (take i rows) in
    let p = (λ (r : ServiceRow). has_interface interface r && test r) in
    let grown : map (λ (r : Bor ServiceRow). r.now) (take (i + 1) rows) ≡ seen ++ row.now ∷ []
    = ap (map (λ (r : Bor ServiceRow). r.now)) (take_more rows i row within ∙ ap (λ y. take i rows ++ y ∷ []) (sym is)) ∙ map-append (λ (r : Bor ServiceRow). r.now) (take i rows) (row ∷ []) in
    more interface test ∙ ap (λ n. n + one_if (p row.now)) (are interface test)
    ∙ ap (λ n. length (filter p seen) + n) (sym (alone (p row.now) row.now))
    ∙ sym (length-append (filter p seen) (filter p (row.now ∷ [])))
    ∙ ap length (sym (filter-append p seen (row.now ∷ [])))
    ∙ ap (λ rs. length (filter p rs)) (sym grown)
  where
    alone : (b : Bool) (r : ServiceRow) → length (cond b (r ∷ []) []) ≡ one_if b
    alone true r = refl
    alone false r = refl
