-- What a change of one row, a row more and a row less leave of numbers, states and counts.
use Rattle.std.proofs.Common.{◌≡◌, ◌<◌, ◌≤◌, ◌+◌, ℕ, zero, suc, List, [], ◌∷◌, ◌++◌, ap, sym, subst, ◌∙◌, refl, cond, arith, Bool, true, false, length, get_or, Option, Some}
use Rattle.std.proofs.Math.ListN.{set}
use Rattle.std.proofs.lemmas.List.{length-set}
use Rattle.std.proofs.lemmas.List.Elements.{All-push, All-set}
use Rattle.std.proofs.lemmas.List.Quantifiers.{all_pairs_push, all_pairs_remove}
use Rattle.std.proofs.lemmas.List.Sums.{sum_by-cons, sum_by-insert, sum_by-remove, sum_by-set}
use Rattle.std.proofs.lemmas.Bool.{false≢true}
use Rattle.std.proofs.lemmas.Option.{slice_get-get_or}
use Rattle.std.specs.Prelude.{map, find, insert, remove}
use Rattle.std.specs.List.{All, count_by}
use Rattle.std.specs.Option.{option_map_or}
use Rattle.row_places.specs.RowPlaces.{NoneOf, OnlyAt}
use Rattle.osgi_version.specs.declared.version.Version.{Version}
use Rattle.row_places.proofs.RowPlaceLaws.{find_none, find_only, map_none, map_only, only_within}
use Rattle.bundle_life.specs.declared.bundle.BundleLife.{BundleLife}
use Rattle.bundle_life.specs.declared.bundle.BundleState.{BundleState}
use Rattle.bundle_life.specs.declared.bundle.BundleState.TheVariants.{Installed, Resolved, Stopping, Active}
use Rattle.bundle_life.specs.Lives.{in_state, is_active, is_stopping, renamed, state_is}
use Rattle.bundle_life.specs.Numbers.{AreNumbered, IsGiven, has_number, stops}
use Rattle.prop_map.specs.Words.{one_if}
use Rattle.bundle_life.specs.Undoing.{owing}

-- ---- numbers

number_at : (rows : List BundleLife) (k : ℕ) (y d : BundleLife) → k < length rows → y.number ≡ (get_or rows k d).number → (i : ℕ) (e : BundleLife) → i < length rows → (get_or (set rows k y) i e).number ≡ (get_or rows i e).number
number_at [] k y d within same i e inside = absurd (omega (arith, within))
number_at (b ∷ bs) zero y d within same zero e inside = same
number_at (b ∷ bs) zero y d within same (suc i) e inside = refl
number_at (b ∷ bs) (suc k) y d within same zero e inside = refl
number_at (b ∷ bs) (suc k) y d within same (suc i) e inside = number_at bs k y d (omega (arith, within)) same i e (omega (arith, inside))

-- a row exchanged for one of the same number
pub numbered_set : (numbered : ℕ) (rows : List BundleLife) (k : ℕ) (y d : BundleLife) → k < length rows → y.number ≡ (get_or rows k d).number → AreNumbered numbered rows → AreNumbered numbered (set rows k y)
numbered_set numbered rows k y d within same ok = (
  (λ i j e lt inside. let wide : j < length rows = omega (arith, inside, length-set {A = BundleLife}) in
      let at_i = number_at rows k y d within same i e (omega (arith, lt, wide)) in
      let at_j = number_at rows k y d within same j e wide in
      omega (arith, ok.0 i j e lt wide, at_i, at_j)),
  All-set (IsGiven numbered) rows k y (subst (λ n. (0 < n) × (n ≤ numbered)) (sym same) (ok.1 k d within)) ok.1,
)

raised : (numbered : ℕ) (rows : List BundleLife) → All (IsGiven numbered) rows → All (IsGiven (numbered + 1)) rows
raised numbered rows given k d within = let g = given k d within in (g.0, omega (arith, g.1))

-- a row more, with the next number
pub numbered_push : (numbered : ℕ) (rows : List BundleLife) (b : BundleLife) → b.number ≡ numbered + 1 → AreNumbered numbered rows → AreNumbered (numbered + 1) (rows ++ b ∷ [])
numbered_push numbered rows b is ok = (
  all_pairs_push (λ (x y : BundleLife). x.number < y.number) rows b ok.0 (λ k d within. omega (arith, is, (ok.1 k d within).1)),
  All-push (IsGiven (numbered + 1)) rows b (raised numbered rows ok.1) (omega (arith, is), omega (arith, is)),
)

All_remove : (P : BundleLife → Type 0) (rows : List BundleLife) (k : ℕ) → All P rows → All P (remove rows k)
All_remove P [] zero all i d within = all i d within
All_remove P [] (suc k) all i d within = all i d within
All_remove P (b ∷ bs) zero all i d within = all (suc i) d (omega (arith, within))
All_remove P (b ∷ bs) (suc k) all zero d within = all zero d (omega arith)
All_remove P (b ∷ bs) (suc k) all (suc i) d within = All_remove P bs k (λ j e h. all (suc j) e (omega (arith, h))) i d (omega (arith, within))

-- a row less
pub numbered_remove : (numbered : ℕ) (rows : List BundleLife) (k : ℕ) → k < length rows → AreNumbered numbered rows → AreNumbered numbered (remove rows k)
numbered_remove numbered rows k within ok = (all_pairs_remove (λ (x y : BundleLife). x.number < y.number) rows k within ok.0, All_remove (IsGiven numbered) rows k ok.1)

-- ---- states

-- the state of the bundle at the place of its number
pub state_at : (test : BundleState → Bool) (number k : ℕ) (rows : List BundleLife) (d : BundleLife) → OnlyAt (has_number number) k rows → state_is test rows number ≡ test (get_or rows k d).state
state_at test number k rows d only =
    ap (λ (o : Option BundleLife). option_map_or (λ (b : BundleLife). test b.state) o false) (find_only (has_number number) k rows only ∙ slice_get-get_or rows k d (only_within (has_number number) k rows only))

pub state_nowhere : (test : BundleState → Bool) (number : ℕ) (rows : List BundleLife) → NoneOf (has_number number) rows → state_is test rows number ≡ false
state_nowhere test number rows none = ap (λ (o : Option BundleLife). option_map_or (λ (b : BundleLife). test b.state) o false) (find_none (has_number number) rows none)

-- ---- how many are STOPPING

counts_set : (rows : List BundleLife) (k : ℕ) (y d : BundleLife) → k < length rows → count_by stops (set rows k y) + one_if (stops (get_or rows k d)) ≡ count_by stops rows + one_if (stops y)
counts_set rows k y d within = sum_by-set (λ (b : BundleLife). cond (stops b) 1 0) rows k y d within

-- a bundle that isn't STOPPING stays so
pub count_leaves : (number k : ℕ) (rows : List BundleLife) (y d : BundleLife) → OnlyAt (has_number number) k rows → state_is is_stopping rows number ≡ false → stops y ≡ false → count_by stops (set rows k y) ≡ count_by stops rows
count_leaves number k rows y d only before after =
    let was : one_if (stops (get_or rows k d)) ≡ 0 = ap one_if (sym (state_at is_stopping number k rows d only) ∙ before) in
    let is : one_if (stops y) ≡ 0 = ap one_if after in
    omega (arith, counts_set rows k y d (only_within (has_number number) k rows only), was, is)

pub active_isnt : (s : BundleState) → is_active s ≡ true → is_stopping s ≡ false
active_isnt Active h = refl
active_isnt Installed h = refl
active_isnt Resolved h = refl
active_isnt Stopping h = absurd (false≢true h)

-- an ACTIVE bundle gets STOPPING
pub count_begins : (number k : ℕ) (rows : List BundleLife) (y d : BundleLife) → OnlyAt (has_number number) k rows → state_is is_active rows number ≡ true → stops y ≡ true → count_by stops (set rows k y) ≡ count_by stops rows + 1
count_begins number k rows y d only before after =
    let was : one_if (stops (get_or rows k d)) ≡ 0 = ap one_if (active_isnt (get_or rows k d).state (sym (state_at is_active number k rows d only) ∙ before)) in
    let is : one_if (stops y) ≡ 1 = ap one_if after in
    omega (arith, counts_set rows k y d (only_within (has_number number) k rows only), was, is)

-- a STOPPING bundle isn't any longer
pub count_completes : (number k : ℕ) (rows : List BundleLife) (y d : BundleLife) → OnlyAt (has_number number) k rows → state_is is_stopping rows number ≡ true → stops y ≡ false → count_by stops (set rows k y) + 1 ≡ count_by stops rows
count_completes number k rows y d only before after =
    let was : one_if (stops (get_or rows k d)) ≡ 1 = ap one_if (sym (state_at is_stopping number k rows d only) ∙ before) in
    let is : one_if (stops y) ≡ 0 = ap one_if after in
    omega (arith, counts_set rows k y d (only_within (has_number number) k rows only), was, is)

-- a bundle that isn't STOPPING goes
pub count_removed : (number k : ℕ) (rows : List BundleLife) (d : BundleLife) → OnlyAt (has_number number) k rows → state_is is_stopping rows number ≡ false → count_by stops (remove rows k) ≡ count_by stops rows
count_removed number k rows d only before =
    let was : one_if (stops (get_or rows k d)) ≡ 0 = ap one_if (sym (state_at is_stopping number k rows d only) ∙ before) in
    omega (arith, sum_by-remove (λ (b : BundleLife). cond (stops b) 1 0) rows k d (only_within (has_number number) k rows only), was)

-- a row in the place of the one of its number, and one where none had it
pub count_exchanged : (number k : ℕ) (rows : List BundleLife) (y d : BundleLife) → OnlyAt (has_number number) k rows → count_by stops (set rows k y) + owing (state_is is_stopping rows number) ≡ count_by stops rows + owing (stops y)
count_exchanged number k rows y d only =
    let was : one_if (stops (get_or rows k d)) ≡ owing (state_is is_stopping rows number) = ap one_if (sym (state_at is_stopping number k rows d only)) in
    omega (arith, counts_set rows k y d (only_within (has_number number) k rows only), was)

pub count_inserted : (number gap : ℕ) (rows : List BundleLife) (y : BundleLife) → NoneOf (has_number number) rows → count_by stops (insert rows gap y) + owing (state_is is_stopping rows number) ≡ count_by stops rows + owing (stops y)
count_inserted number gap rows y none =
    let was : owing (state_is is_stopping rows number) ≡ 0 = ap owing (state_nowhere is_stopping number rows none) in
    omega (arith, sum_by-insert (λ (b : BundleLife). cond (stops b) 1 0) rows gap y, was)

-- a STOPPING bundle counts
pub count_one : (number : ℕ) (rows : List BundleLife) → owing (state_is is_stopping rows number) ≤ count_by stops rows
count_one number [] = omega arith
count_one number (b ∷ bs) = subst (λ n. owing (state_is is_stopping (b ∷ bs) number) ≤ n) (sym (sum_by-cons (λ (c : BundleLife). cond (stops c) 1 0) b bs)) (by_test (has_number number b) (count_one number bs)) where
  by_test : (t : Bool) → owing (state_is is_stopping bs number) ≤ count_by stops bs
      → owing (option_map_or (λ (c : BundleLife). is_stopping c.state) (cond t (Some b) (find (has_number number) bs)) false) ≤ one_if (stops b) + count_by stops bs
  by_test true more = omega arith
  by_test false more = omega (arith, more)

-- ---- a change at the place of a number is the map that the definitions have

pub state_set : (number k : ℕ) (state : BundleState) (rows : List BundleLife) (row : BundleLife) → OnlyAt (has_number number) k rows → row ≡ get_or rows k row → set rows k (record row { state = state }) ≡ map (in_state number state) rows
state_set number k state rows row only is =
    ap (λ (b : BundleLife). set rows k (record b { state = state })) is ∙ sym (map_only (has_number number) (λ (b : BundleLife). record b { state = state }) k rows row only)

pub state_unset : (number : ℕ) (state : BundleState) (rows : List BundleLife) → NoneOf (has_number number) rows → rows ≡ map (in_state number state) rows
state_unset number state rows none = sym (map_none (has_number number) (λ (b : BundleLife). record b { state = state }) rows none)

pub name_set : (number k : ℕ) (name : List ℕ) (version : Version) (rows : List BundleLife) (row : BundleLife) → OnlyAt (has_number number) k rows → row ≡ get_or rows k row
    → set rows k (record row { name = name; version = version; state = Installed }) ≡ map (renamed number name version) rows
name_set number k name version rows row only is =
    ap (λ (b : BundleLife). set rows k (record b { name = name; version = version; state = Installed })) is
    ∙ sym (map_only (has_number number) (λ (b : BundleLife). record b { name = name; version = version; state = Installed }) k rows row only)

pub name_unset : (number : ℕ) (name : List ℕ) (version : Version) (rows : List BundleLife) → NoneOf (has_number number) rows → rows ≡ map (renamed number name version) rows
name_unset number name version rows none = sym (map_none (has_number number) (λ (b : BundleLife). record b { name = name; version = version; state = Installed }) rows none)
