-- What undoes a change gives the table as it was.
use Rattle.std.proofs.Common.{◌≡◌, ◌<◌, ◌≤◌, ℕ, zero, suc, List, [], ◌∷◌, ap, sym, subst, ◌∙◌, refl, cond, arith, Bool, true, false, length, get_or, Option, Some, None, ◌-◌, ◌⊎◌, inl, inr}
use Rattle.std.proofs.Math.ListN.{set}
use Rattle.std.proofs.lemmas.Bool.{cases_lt, le-leb, leb-true, lt-leb, ne_eqb}
use Rattle.std.proofs.lemmas.Bool.Decides.{nat_tests}
use Rattle.std.proofs.lemmas.List.{get_or_default, length-set, set-get_or}
use Rattle.std.proofs.lemmas.List.Elements.{All-cons, filter_agree}
use Rattle.std.proofs.lemmas.Option.{slice_get-get_or}
use Rattle.std.specs.Cmp.{IsTotalOrder, nat_cmp_is, nat_cmp_total, on_total, ranked}
use Rattle.std.specs.List.{All, AllPairs}
use Rattle.std.specs.List.Sorted.{IsBinarySearchResult, IsSearchInRange}
use Rattle.std.specs.Ordering.{is_eq, nat_cmp}
use Rattle.std.specs.Prelude.{◌&&◌, ◌==◌, filter, insert, is_none, map, nat_le, not, option_map, slice_get, Ok, Err, Result}
use Rattle.std.specs.declared.cmp.Ordering.{Ordering}
use Rattle.std.specs.declared.cmp.Ordering.TheVariants.{Less, Equal}
use Rattle.prop_map.specs.declared.properties.Property.{Property}
use Rattle.prop_map.specs.Words.{insert_by}
use Rattle.row_places.specs.RowPlaces.{IsPlaceOrGap, NoneOf, OnlyAt}
use Rattle.row_places.proofs.RowOrderLaws as order
use Rattle.row_places.proofs.RowPlaceLaws.{filter_none, find_none, find_only, map_none, map_only, none_found, only_passes, only_within, place_agrees}
use Rattle.service_registry.specs.declared.row.ServiceRow.{ServiceRow}
use Rattle.service_registry.specs.Registries.{IsNumbered, Registered, has_number, row_of, set_row, unregistered, with_properties}
use Rattle.service_registry.specs.Undoing.{has_lower_number, is_missing, with_row, with_row_back}
use Rattle.service_registry.proofs.Found.{as_table, found}

abbrev Ascending : List ServiceRow → Type 0
Ascending rows = AllPairs (λ (a b : ServiceRow). a.id < b.id) rows

-- a service stands among the rows, and no other has its number
pub record StandsIn (number : ℕ) (rows : List ServiceRow) (row : ServiceRow) : Type 0 where
  pub place : ℕ
  pub only : OnlyAt (has_number number) place rows
  pub is : row ≡ get_or rows place row

abbrev row_or : ServiceRow → Option ServiceRow → ServiceRow
row_or d None = d
row_or d (Some r) = r

none_above : (n : ℕ) (rows : List ServiceRow) → All (λ (r : ServiceRow). n < r.id) rows → NoneOf (has_number n) rows
none_above n [] above = tt
none_above n (r ∷ rows) above = (ne_eqb r.id n (λ e. omega (arith, e, above 0 r (omega arith))), none_above n rows (λ k d within. above (suc k) d (omega (arith, within))))

rest_of : (r : ServiceRow) (rows : List ServiceRow) → Ascending (r ∷ rows) → Ascending rows
rest_of r rows pairs i j d less within = pairs (suc i) (suc j) d (omega (arith, less)) (omega (arith, within))

numbers_tell : (a b : ℕ) → (a == b) ≡ true → a ≡ b
numbers_tell a b e = grind (arith, nat_tests)

pub stands : (n : ℕ) (rows : List ServiceRow) (row : ServiceRow) → Ascending rows → row_of rows n ≡ Some row → StandsIn n rows row
stands n [] row pairs e = absurd (none e) where
  none : None ≡ Some row → ⊥
  none h = cc
stands n (r ∷ rows) row pairs e = by_test (has_number n r) refl (λ f. stands n rows row (rest_of r rows pairs) f) where
  by_test : (b : Bool) → has_number n r ≡ b → (row_of rows n ≡ Some row → StandsIn n rows row) → StandsIn n (r ∷ rows) row
  by_test true t more = record {
    place = 0;
    only = (t, none_above n rows (λ k d within. let same : r.id ≡ n = numbers_tell r.id n t in let above : r.id < (get_or rows k d).id = pairs 0 (suc k) d (omega arith) (omega (arith, within)) in omega (arith, same, above)));
    is = sym (ap (row_or row) (sym (ap (λ b. cond b (Some r) (row_of rows n)) t) ∙ e));
  }
  by_test false t more = let there = more (sym (ap (λ b. cond b (Some r) (row_of rows n)) t) ∙ e) in record { place = suc there.place; only = (t, there.only); is = there.is }

-- without it none has its number
pub gone : (n : ℕ) (rows : List ServiceRow) → row_of (filter (λ (r : ServiceRow). not (has_number n r)) rows) n ≡ None
gone n [] = refl
gone n (r ∷ rows) = by_test (has_number n r) refl (gone n rows) where
  by_test : (b : Bool) → has_number n r ≡ b → row_of (filter (λ (s : ServiceRow). not (has_number n s)) rows) n ≡ None
      → row_of (cond (not (has_number n r)) (r ∷ filter (λ (s : ServiceRow). not (has_number n s)) rows) (filter (λ (s : ServiceRow). not (has_number n s)) rows)) n ≡ None
  by_test true t more = ap (λ b. row_of (cond (not b) (r ∷ filter (λ (s : ServiceRow). not (has_number n s)) rows) (filter (λ (s : ServiceRow). not (has_number n s)) rows)) n) t ∙ more
  by_test false t more =
      ap (λ b. row_of (cond (not b) (r ∷ filter (λ (s : ServiceRow). not (has_number n s)) rows) (filter (λ (s : ServiceRow). not (has_number n s)) rows)) n) t
      ∙ ap (λ b. cond b (Some r) (row_of (filter (λ (s : ServiceRow). not (has_number n s)) rows) n)) t ∙ more

-- the order of the rows
abbrev pub by_number : ServiceRow → ServiceRow → Ordering
by_number a b = nat_cmp a.id b.id

total : IsTotalOrder by_number
total = on_total (λ (r : ServiceRow). r.id) nat_cmp_total

tests_agree : (a b : ℕ) → is_eq (nat_cmp a b) ≡ (a == b)
tests_agree a b = grind (arith, nat_tests)

precede : (rows : List ServiceRow) → Ascending rows → AllPairs (λ (a b : ServiceRow). by_number a b ≡ Less) rows
precede rows pairs i j d less within = sym (nat_cmp_is (get_or rows i d).id (get_or rows j d).id Less (pairs i j d less within))

rows_back : (row : ServiceRow) (rows : List ServiceRow) → Ascending rows → StandsIn row.id rows row → insert_by has_lower_number row (filter (λ (r : ServiceRow). not (has_number row.id r)) rows) ≡ rows
rows_back row rows pairs s =
    ap (insert_by has_lower_number row) (filter_agree (λ (r : ServiceRow). not (has_number row.id r)) (λ (r : ServiceRow). not (is_eq (by_number r row))) (λ r. ap not (sym (tests_agree r.id row.id))) rows)
    ∙ order.exchanged by_number total row row (sym (nat_cmp_is row.id row.id Equal refl)) s.place rows (precede rows pairs)
    (place_agrees (has_number row.id) (λ (r : ServiceRow). is_eq (by_number r row)) (λ r. sym (tests_agree r.id row.id)) (Some s.place) rows s.only)
    ∙ ap (set rows s.place) s.is ∙ set-get_or rows s.place row

missing : (row : ServiceRow) (before : Registered) → IsNumbered before → StandsIn row.id before.rows row → is_missing row (unregistered row.id before) ≡ true
missing row before numbered s =
    let within : s.place < length before.rows = only_within (has_number row.id) s.place before.rows s.only in
    let given : row.id ≤ before.numbered = subst (λ (r : ServiceRow). r.id ≤ before.numbered) (sym s.is) (numbered.1 s.place row within) in
    ap (λ b. b && is_none (row_of (unregistered row.id before).rows row.id)) (le-leb row.id before.numbered given) ∙ ap is_none (gone row.id before.rows)

-- a row that was taken out, put back
pub put_back : (row : ServiceRow) (before : Registered) → IsNumbered before → row_of before.rows row.id ≡ Some row → with_row_back row (unregistered row.id before) ≡ before
put_back row before numbered there =
    let s = stands row.id before.rows row numbered.0 there in
    ap (λ b. cond b (as_table (insert_by has_lower_number row (filter (λ (r : ServiceRow). not (has_number row.id r)) before.rows)) before.numbered) (unregistered row.id before)) (missing row before numbered s)
    ∙ ap (λ l. as_table l before.numbered) (rows_back row before.rows numbered.0 s)

-- a row that is exchanged
abbrev with_item : ℕ → ServiceRow → ServiceRow → ServiceRow
with_item n row r = cond (has_number n r) row r

twice : (n k : ℕ) (row other : ServiceRow) (rows : List ServiceRow) → other.id ≡ n → OnlyAt (has_number n) k rows → row ≡ get_or rows k row → map (with_item n row) (map (with_item n other) rows) ≡ rows
twice n k row other [] same only is = absurd only
twice n zero row other (r ∷ rows) same only is =
    ap (λ b. with_item n row (cond b other r) ∷ map (with_item n row) (map (with_item n other) rows)) only.0
    ∙ ap (λ b. cond b row other ∷ map (with_item n row) (map (with_item n other) rows)) (numbers_eq other.id n same)
    ∙ ap (λ l. row ∷ map (with_item n row) l) (map_none (has_number n) (λ r. other) rows only.1)
    ∙ ap (λ l. row ∷ l) (map_none (has_number n) (λ r. row) rows only.1) ∙ ap (λ x. x ∷ rows) is where
      numbers_eq : (a b : ℕ) → a ≡ b → (a == b) ≡ true
      numbers_eq a b e = grind (arith, nat_tests)
twice n (suc k) row other (r ∷ rows) same only is =
    ap (λ b. with_item n row (cond b other r) ∷ map (with_item n row) (map (with_item n other) rows)) only.0
    ∙ ap (λ b. cond b row r ∷ map (with_item n row) (map (with_item n other) rows)) only.0
    ∙ ap (λ l. r ∷ l) (twice n k row other rows same only.1 is)

pub exchanged_back : (row other : ServiceRow) (before : Registered) → IsNumbered before → other.id ≡ row.id → row_of before.rows row.id ≡ Some row → with_row row (with_row other before) ≡ before
exchanged_back row other before numbered same there =
    let s = stands row.id before.rows row numbered.0 there in
    ap (λ n. as_table (map (with_item row.id row) (map (with_item n other) before.rows)) before.numbered) same
    ∙ ap (λ l. as_table l before.numbered) (twice row.id s.place row other before.rows same s.only s.is)

-- a row with other properties in its own place
changed_by : (row : ServiceRow) (given : List Property) (rows : List ServiceRow) (o : Option ServiceRow) → row_of rows row.id ≡ o → option_map (set_row given) o ≡ Some row → Ascending rows
    → map (with_item row.id row) rows ≡ map (λ (r : ServiceRow). cond (has_number row.id r) (set_row given r) r) rows
changed_by row given rows None there is pairs = absurd (none is) where
  none : None ≡ Some row → ⊥
  none h = cc
changed_by row given rows (Some was) there is pairs =
    let s = stands row.id rows was pairs there in
    let now : set_row given was ≡ row = ap (row_or row) is in
    map_only (has_number row.id) (λ r. row) s.place rows was s.only ∙ ap (set rows s.place) (sym now ∙ ap (set_row given) s.is) ∙ sym (map_only (has_number row.id) (set_row given) s.place rows was s.only)

pub changed : (row : ServiceRow) (given : List Property) (t : Registered) → IsNumbered t → option_map (set_row given) (row_of t.rows row.id) ≡ Some row → with_row row t ≡ with_properties row.id given t
changed row given t numbered is = ap (λ l. as_table l t.numbered) (changed_by row given t.rows (row_of t.rows row.id) refl is numbered.0)

-- the gap where a row of a number would stand
abbrev sought : ℕ → ServiceRow
sought n = record { id = n; bundle = 0; interfaces = []; properties = []; revision = 0; direct = false }

-- the tests of a number by the order of the rows
abbrev is_at : ℕ → ServiceRow → Bool
is_at n r = is_eq (nat_cmp r.id n)

pub place_or_gap_is : (n : ℕ) (rows : List ServiceRow) (r : Result ℕ ℕ) → Ascending rows → IsBinarySearchResult (λ (s : ServiceRow). nat_cmp s.id n) rows r → IsSearchInRange r (length rows)
    → IsPlaceOrGap (λ (s : ServiceRow). nat_cmp s.id n) r rows
place_or_gap_is n rows r pairs found within = order.placed by_number total (sought n) rows r (precede rows pairs) found within

-- in the gap no row has the number
none_at : (n gap : ℕ) (rows : List ServiceRow) → IsPlaceOrGap (λ (s : ServiceRow). nat_cmp s.id n) (Err gap) rows → NoneOf (is_at n) rows
none_at n gap rows at = none_found (order.Precedes by_number total) (λ (s : ServiceRow). nat_cmp s.id n) (order.behind by_number total (sought n)) gap rows at.1

not_there : (n gap : ℕ) (rows : List ServiceRow) → IsPlaceOrGap (λ (s : ServiceRow). nat_cmp s.id n) (Err gap) rows → row_of rows n ≡ None
not_there n gap rows at = find_none (has_number n) rows (place_agrees (is_at n) (has_number n) (λ (s : ServiceRow). tests_agree s.id n) None rows (none_at n gap rows at))

inserted_at : (row : ServiceRow) (gap : ℕ) (rows : List ServiceRow) → IsPlaceOrGap (λ (s : ServiceRow). nat_cmp s.id row.id) (Err gap) rows → insert_by has_lower_number row rows ≡ insert rows gap row
inserted_at row gap rows at =
    ap (insert_by has_lower_number row) (sym (filter_none (is_at row.id) rows (none_at row.id gap rows at)))
    ∙ order.inserted by_number total row row (sym (nat_cmp_is row.id row.id Equal refl)) gap rows at

-- put back into the gap
pub into_gap : (row : ServiceRow) (gap : ℕ) (t : Registered) → IsPlaceOrGap (λ (s : ServiceRow). nat_cmp s.id row.id) (Err gap) t.rows → row.id ≤ t.numbered → as_table (insert t.rows gap row) t.numbered ≡ with_row_back row t
into_gap row gap t at given =
    sym (ap (λ b. cond (b && is_none (row_of t.rows row.id)) (as_table (insert_by has_lower_number row t.rows) t.numbered) t) (le-leb row.id t.numbered given)
    ∙ ap (λ o. cond (is_none o) (as_table (insert_by has_lower_number row t.rows) t.numbered) t) (not_there row.id gap t.rows at)
    ∙ ap (λ l. as_table l t.numbered) (inserted_at row gap t.rows at))

-- where a row has the number, or it was never given, nothing changes
pub stays_with : (row : ServiceRow) (place : ℕ) (t : Registered) → IsPlaceOrGap (λ (s : ServiceRow). nat_cmp s.id row.id) (Ok place) t.rows → t ≡ with_row_back row t
stays_with row place t at =
    let there = find_only (has_number row.id) place t.rows (place_agrees (is_at row.id) (has_number row.id) (λ (s : ServiceRow). tests_agree s.id row.id) (Some place) t.rows at) in
    let some = slice_get-get_or t.rows place row (only_within (is_at row.id) place t.rows at) in
    sym (ap (λ o. cond (nat_le row.id t.numbered && is_none o) (as_table (insert_by has_lower_number row t.rows) t.numbered) t) (there ∙ some)
    ∙ ap (λ b. cond b (as_table (insert_by has_lower_number row t.rows) t.numbered) t) (no_and (nat_le row.id t.numbered))) where
      no_and : (b : Bool) → (b && false) ≡ false
      no_and true = refl
      no_and false = refl

pub stays_without : (row : ServiceRow) (t : Registered) → t.numbered < row.id → t ≡ with_row_back row t
stays_without row t above = sym (ap (λ b. cond (b && is_none (row_of t.rows row.id)) (as_table (insert_by has_lower_number row t.rows) t.numbered) t) (lt-leb row.id t.numbered above))

-- with it the table is in order
none_of : (n : ℕ) (rows : List ServiceRow) → row_of rows n ≡ None → NoneOf (has_number n) rows
none_of n [] e = tt
none_of n (r ∷ rows) e = by_test (has_number n r) refl (λ f. none_of n rows f) where
  by_test : (b : Bool) → has_number n r ≡ b → (row_of rows n ≡ None → NoneOf (has_number n) rows) → NoneOf (has_number n) (r ∷ rows)
  by_test true t more = let f : Some r ≡ None = sym (ap (λ b. cond b (Some r) (row_of rows n)) t) ∙ e in absurd (clash f) where
    clash : Some r ≡ None → ⊥
    clash h = cc
  by_test false t more = (t, more (sym (ap (λ b. cond b (Some r) (row_of rows n)) t) ∙ e))

all_with : (n : ℕ) (row : ServiceRow) (rows : List ServiceRow) → row.id ≤ n → All (λ (r : ServiceRow). r.id ≤ n) rows → All (λ (r : ServiceRow). r.id ≤ n) (insert_by has_lower_number row rows)
all_with n row [] low all = All-cons (λ (r : ServiceRow). r.id ≤ n) row [] low all
all_with n row (r ∷ rows) low all = by_test (has_lower_number row r) (all_with n row rows low (λ k d within. all (suc k) d (omega (arith, within)))) where
  by_test : (b : Bool) → All (λ (s : ServiceRow). s.id ≤ n) (insert_by has_lower_number row rows) → All (λ (s : ServiceRow). s.id ≤ n) (cond b (row ∷ r ∷ rows) (r ∷ insert_by has_lower_number row rows))
  by_test true more = All-cons (λ (s : ServiceRow). s.id ≤ n) row (r ∷ rows) low all
  by_test false more = All-cons (λ (s : ServiceRow). s.id ≤ n) r (insert_by has_lower_number row rows) (all 0 r (omega arith)) more

ascends : (rows : List ServiceRow) → AllPairs (λ (a b : ServiceRow). by_number a b ≡ Less) rows → Ascending rows
ascends rows pairs i j d less within = ranked (get_or rows i d).id (get_or rows j d).id Less (sym (pairs i j d less within))

numbered_by : (row : ServiceRow) (t : Registered) → IsNumbered t → (g : Bool) → nat_le row.id t.numbered ≡ g → (o : Option ServiceRow) → row_of t.rows row.id ≡ o
    → IsNumbered (cond (g && is_none o) (as_table (insert_by has_lower_number row t.rows) t.numbered) t)
numbered_by row t numbered false e o f = numbered
numbered_by row t numbered true e (Some r) f = numbered
numbered_by row t numbered true e None f =
    let none : NoneOf (is_at row.id) t.rows = place_agrees (has_number row.id) (is_at row.id) (λ (s : ServiceRow). sym (tests_agree s.id row.id)) None t.rows (none_of row.id t.rows f) in
    let with : AllPairs (λ (a b : ServiceRow). by_number a b ≡ Less) (insert_by has_lower_number row t.rows) =
    subst (λ l. AllPairs (λ (a b : ServiceRow). by_number a b ≡ Less) (insert_by has_lower_number row l)) (filter_none (is_at row.id) t.rows none)
    (order.ordered_with by_number total row row (sym (nat_cmp_is row.id row.id Equal refl)) t.rows (precede t.rows numbered.0)) in
    (ascends (insert_by has_lower_number row t.rows) with, all_with t.numbered row t.rows (leb-true row.id t.numbered e) numbered.1)

pub numbered_back : (row : ServiceRow) (t : Registered) → IsNumbered t → IsNumbered (with_row_back row t)
numbered_back row t numbered = numbered_by row t numbered (nat_le row.id t.numbered) refl (row_of t.rows row.id) refl

-- numbers that were given last, taken back
pub last_is_highest : (rows : List ServiceRow) (d : ServiceRow) → Ascending rows → All (λ (r : ServiceRow). r.id ≤ (get_or rows (length rows - 1) d).id) rows
last_is_highest rows d pairs k e within = by_cases (cases_lt k (length rows - 1)) where
  by_cases : (k < length rows - 1) ⊎ (length rows - 1 ≤ k) → (get_or rows k e).id ≤ (get_or rows (length rows - 1) d).id
  by_cases (inl less) = let above = pairs k (length rows - 1) d less (omega (arith, within)) in let same = get_or_default rows k e d within in subst (λ (r : ServiceRow). r.id ≤ (get_or rows (length rows - 1) d).id) (sym same) (omega (arith, above))
  by_cases (inr more) = let last : k ≡ length rows - 1 = omega (arith, more, within) in let same = get_or_default rows k e d within in
      subst (λ (r : ServiceRow). r.id ≤ (get_or rows (length rows - 1) d).id) (sym same) (subst (λ i. (get_or rows i d).id ≤ (get_or rows (length rows - 1) d).id) (sym last) (omega arith))

-- a row written at the place of its number
pub written : (row d : ServiceRow) (place numbered : ℕ) (xs rows : List ServiceRow) → xs ≡ rows → OnlyAt (has_number row.id) place xs → as_table (set rows place row) numbered ≡ with_row row (as_table rows numbered)
written row d place numbered xs rows same only =
    ap (λ l. as_table l numbered)
    (ap (λ l. set l place row) (sym same) ∙ sym (map_only (has_number row.id) (λ r. row) place xs d only) ∙ ap (map (with_item row.id row)) same)

pub none_written : (row : ServiceRow) (numbered : ℕ) (xs rows : List ServiceRow) → xs ≡ rows → NoneOf (has_number row.id) xs → as_table rows numbered ≡ with_row row (as_table rows numbered)
none_written row numbered xs rows same none = ap (λ l. as_table l numbered) (sym same ∙ sym (map_none (has_number row.id) (λ r. row) xs none) ∙ ap (map (with_item row.id row)) same)

-- the numbers are as they were
ids_kept : (k : ℕ) (row : ServiceRow) (rows : List ServiceRow) → OnlyAt (has_number row.id) k rows → (i : ℕ) (d : ServiceRow) → (get_or (set rows k row) i d).id ≡ (get_or rows i d).id
ids_kept k row [] only i d = absurd only
ids_kept zero row (r ∷ rows) only zero d = sym (numbers_tell r.id row.id only.0)
ids_kept zero row (r ∷ rows) only (suc i) d = refl
ids_kept (suc k) row (r ∷ rows) only zero d = refl
ids_kept (suc k) row (r ∷ rows) only (suc i) d = ids_kept k row rows only.1 i d

pub numbered_written : (k numbered : ℕ) (row : ServiceRow) (xs rows : List ServiceRow) → xs ≡ rows → IsNumbered (as_table rows numbered) → OnlyAt (has_number row.id) k xs → IsNumbered (as_table (set rows k row) numbered)
numbered_written k numbered row xs rows same table only =
    let here : OnlyAt (has_number row.id) k rows = subst (OnlyAt (has_number row.id) k) same only in (
      (λ i j d less within. omega (arith, length-set rows k row, within, ids_kept k row rows here i d, ids_kept k row rows here j d, table.0 i j d less (omega (arith, length-set rows k row, within)))),
      (λ j d within. omega (arith, ids_kept k row rows here j d, table.1 j d (omega (arith, length-set rows k row, within)))),
    )

-- a changed row
pub changed_there : (given : List Property) (service place numbered : ℕ) (xs rows : List ServiceRow) (t : Registered) (row d : ServiceRow) → xs ≡ rows → as_table rows numbered ≡ t
    → OnlyAt (has_number service) place xs → place < length xs → row ≡ set_row given (get_or rows place d) → option_map (set_row given) (row_of t.rows service) ≡ Some row
changed_there given service place numbered xs rows t row d same view only within is =
    ap (λ (u : Registered). option_map (set_row given) (row_of u.rows service)) (sym view)
    ∙ ap (option_map (set_row given)) (ap (λ l. row_of l service) (sym same) ∙ found service place xs d only within)
    ∙ ap Some (ap (λ l. set_row given (get_or l place d)) same ∙ sym is)

pub changed_number : (given : List Property) (service place : ℕ) (xs rows : List ServiceRow) (row d : ServiceRow) → xs ≡ rows → OnlyAt (has_number service) place xs → row ≡ set_row given (get_or rows place d) → row.id ≡ service
changed_number given service place xs rows row d same only is =
    ap (λ (r : ServiceRow). r.id) is
    ∙ numbers_tell (get_or rows place d).id service (only_passes (has_number service) place rows d (subst (OnlyAt (has_number service) place) same only))

pub last_highest : (rows : List ServiceRow) (row : ServiceRow) → Ascending rows → Some row ≡ slice_get rows (length rows - 1) → All (λ (r : ServiceRow). r.id ≤ row.id) rows
last_highest rows row pairs is k d within =
    let last : length rows - 1 < length rows = omega (arith, within) in
    let same : row ≡ get_or rows (length rows - 1) row = ap (row_or row) (is ∙ slice_get-get_or rows (length rows - 1) row last) in
    subst (λ (r : ServiceRow). (get_or rows k d).id ≤ r.id) (sym same) (last_is_highest rows row pairs k d within)
