-- Rows that are taken out one after another.
use Rattle.std.proofs.Common.{◌≡◌, ◌≢◌, ◌+◌, ◌<◌, ℕ, zero, suc, List, [], ◌∷◌, ◌++◌, ap, sym, ◌∙◌, refl, cond, arith, Bool, true, false, length, get_or, take, drop, append_assoc}
use Rattle.std.proofs.lemmas.Bool.{ne_eqb, eq-eqb}
use Rattle.std.proofs.lemmas.List.Elements.{filter-append}
use Rattle.std.proofs.lemmas.List.Folds.{find-append}
use Rattle.std.proofs.Math.Seq.{take-suc, drop-cons}
use Rattle.std.specs.List.{AllPairs}
use Rattle.std.specs.Option.{option_or}
use Rattle.std.specs.Prelude.{◌==◌, filter, not, Some, None}
use Rattle.row_places.specs.RowPlaces.{NoneOf}
use Rattle.row_places.proofs.RowPlaceLaws.{filter_none, find_none}
use Rattle.service_registry.specs.declared.row.ServiceRow.{ServiceRow}
use Rattle.service_registry.specs.Registries.{Registered, has_number, refusal, refusal_for, row_of, unregistered}
use Rattle.service_registry.specs.declared.fault.RegistryFault.TheVariants.{NotOwner}

abbrev pub Ascending : List ServiceRow → Type 0
Ascending rows = AllPairs (λ (a b : ServiceRow). a.id < b.id) rows

abbrev pub is_of_another : ℕ → ServiceRow → Bool
is_of_another bundle r = not (r.bundle == bundle)

rest_of : (r : ServiceRow) (rows : List ServiceRow) → Ascending (r ∷ rows) → Ascending rows
rest_of r rows pairs i j d less within = pairs (suc i) (suc j) d (omega (arith, less)) (omega (arith, within))

-- no other row has the number of one
none_before : (rows : List ServiceRow) (i : ℕ) (d : ServiceRow) → Ascending rows → i < length rows → NoneOf (has_number (get_or rows i d).id) (take i rows)
none_before [] i d pairs within = absurd (omega (arith, within))
none_before (r ∷ rows) zero d pairs within = tt
none_before (r ∷ rows) (suc i) d pairs within = (
  ne_eqb r.id (get_or rows i d).id (λ e. let less : r.id < (get_or rows i d).id = pairs 0 (suc i) d (omega arith) (omega (arith, within)) in omega (arith, e, less)),
  none_before rows i d (rest_of r rows pairs) (omega (arith, within)),
)

none_above : (n : ℕ) (rows : List ServiceRow) → ((k : ℕ) (d : ServiceRow) → k < length rows → n < (get_or rows k d).id) → NoneOf (has_number n) rows
none_above n [] above = tt
none_above n (r ∷ rows) above = (ne_eqb r.id n (λ e. omega (arith, e, above 0 r (omega arith))), none_above n rows (λ k d within. above (suc k) d (omega (arith, within))))

none_after : (rows : List ServiceRow) (i : ℕ) (d : ServiceRow) → Ascending rows → i < length rows → NoneOf (has_number (get_or rows i d).id) (drop (suc i) rows)
none_after [] i d pairs within = absurd (omega (arith, within))
none_after (r ∷ rows) zero d pairs within = none_above r.id rows (λ k e inside. pairs 0 (suc k) e (omega arith) (omega (arith, inside)))
none_after (r ∷ rows) (suc i) d pairs within = none_after rows i d (rest_of r rows pairs) (omega (arith, within))

none_kept : (test keep : ServiceRow → Bool) (rows : List ServiceRow) → NoneOf test rows → NoneOf test (filter keep rows)
none_kept test keep [] none = tt
none_kept test keep (r ∷ rows) none = go (keep r) (none_kept test keep rows none.1)
  where
    go : (b : Bool) → NoneOf test (filter keep rows) → NoneOf test (cond b (r ∷ filter keep rows) (filter keep rows))
    go true rest = (none.0, rest)
    go false rest = rest

-- a row between rows of other numbers
module _ (before after : List ServiceRow) (r : ServiceRow) (none : NoneOf (has_number r.id) before) (nor : NoneOf (has_number r.id) after) where
  there : row_of (before ++ r ∷ after) r.id ≡ Some r
  there =
      find-append (has_number r.id) before (r ∷ after) ∙ ap (λ o. option_or o (row_of (r ∷ after) r.id)) (find_none (has_number r.id) before none)
      ∙ ap (λ b. cond b (Some r) (row_of after r.id)) (eq-eqb r.id r.id refl)

  taken : filter (λ (x : ServiceRow). not (has_number r.id x)) (before ++ r ∷ after) ≡ before ++ after
  taken =
      filter-append (λ (x : ServiceRow). not (has_number r.id x)) before (r ∷ after)
      ∙ ap (λ xs. xs ++ filter (λ (x : ServiceRow). not (has_number r.id x)) (r ∷ after)) (filter_none (has_number r.id) before none)
      ∙ ap (λ b. before ++ cond (not b) (r ∷ filter (λ (x : ServiceRow). not (has_number r.id x)) after) (filter (λ (x : ServiceRow). not (has_number r.id x)) after)) (eq-eqb r.id r.id refl)
      ∙ ap (λ xs. before ++ xs) (filter_none (has_number r.id) after nor)

-- the rows that are left when so many were looked at
abbrev pub left_at : ℕ → ℕ → List ServiceRow → List ServiceRow
left_at bundle i rows = filter (is_of_another bundle) (take i rows) ++ drop i rows

module _ (bundle i : ℕ) (rows : List ServiceRow) (d : ServiceRow) (pairs : Ascending rows) (within : i < length rows) where
  split : left_at bundle i rows ≡ filter (is_of_another bundle) (take i rows) ++ get_or rows i d ∷ drop (suc i) rows
  split = ap (λ xs. filter (is_of_another bundle) (take i rows) ++ xs) (drop-cons rows i d within)

  none_left : NoneOf (has_number (get_or rows i d).id) (filter (is_of_another bundle) (take i rows))
  none_left = none_kept (has_number (get_or rows i d).id) (is_of_another bundle) (take i rows) (none_before rows i d pairs within)

  pub is_there : row_of (left_at bundle i rows) (get_or rows i d).id ≡ Some (get_or rows i d)
  is_there = ap (λ xs. row_of xs (get_or rows i d).id) split ∙ there (filter (is_of_another bundle) (take i rows)) (drop (suc i) rows) (get_or rows i d) none_left (none_after rows i d pairs within)

  looked : (b : Bool) → is_of_another bundle (get_or rows i d) ≡ b → filter (is_of_another bundle) (take (suc i) rows) ≡ filter (is_of_another bundle) (take i rows) ++ cond b (get_or rows i d ∷ []) []
  looked b is =
      ap (filter (is_of_another bundle)) (take-suc rows i d within) ∙ filter-append (is_of_another bundle) (take i rows) (get_or rows i d ∷ [])
      ∙ ap (λ v. filter (is_of_another bundle) (take i rows) ++ cond v (get_or rows i d ∷ []) []) is

  -- a row of another bundle stays
  pub stays : is_of_another bundle (get_or rows i d) ≡ true → left_at bundle i rows ≡ left_at bundle (suc i) rows
  stays other =
      split ∙ sym (append_assoc (filter (is_of_another bundle) (take i rows)) (get_or rows i d ∷ []) (drop (suc i) rows))
      ∙ ap (λ xs. xs ++ drop (suc i) rows) (sym (looked true other))

  -- one of the bundle is taken out
  pub leaves : is_of_another bundle (get_or rows i d) ≡ false → filter (λ (x : ServiceRow). not (has_number (get_or rows i d).id x)) (left_at bundle i rows) ≡ left_at bundle (suc i) rows
  leaves own =
      ap (filter (λ (x : ServiceRow). not (has_number (get_or rows i d).id x))) split
      ∙ taken (filter (is_of_another bundle) (take i rows)) (drop (suc i) rows) (get_or rows i d) none_left (none_after rows i d pairs within)
      ∙ ap (λ xs. xs ++ drop (suc i) rows) (sym (append_none (filter (is_of_another bundle) (take i rows))) ∙ sym (looked false own))
    where
      append_none : (xs : List ServiceRow) → xs ++ [] ≡ xs
      append_none [] = refl
      append_none (x ∷ xs) = ap (λ ys. x ∷ ys) (append_none xs)

-- ---- one row of a table that so many rows were looked at

next : (i : ℕ) → i + 1 ≡ suc i
next i = omega arith

module _ (bundle i : ℕ) (rows : List ServiceRow) (r : ServiceRow) (pairs : Ascending rows) (within : i < length rows) (is : r ≡ get_or rows i r) (remaining : Registered) (left : remaining.rows ≡ left_at bundle i rows) where
  known : row_of remaining.rows r.id ≡ Some r
  known =
      ap (λ xs. row_of xs r.id) left ∙ ap (λ (x : ServiceRow). row_of (left_at bundle i rows) x.id) is
      ∙ is_there bundle i rows r pairs within ∙ ap (λ (x : ServiceRow). Some x) (sym is)

  pub may_leave : r.bundle ≡ bundle → refusal bundle r.id remaining ≡ None
  may_leave own = ap (refusal_for bundle r.id) known ∙ ap (λ b. cond b None (Some (NotOwner r.bundle))) (eq-eqb r.bundle bundle own)

  own_test : r.bundle ≡ bundle → is_of_another bundle (get_or rows i r) ≡ false
  own_test own = ap (is_of_another bundle) (sym is) ∙ ap not (eq-eqb r.bundle bundle own)

  other_test : r.bundle ≢ bundle → is_of_another bundle (get_or rows i r) ≡ true
  other_test other = ap (is_of_another bundle) (sym is) ∙ ap not (ne_eqb r.bundle bundle other)

  pub left_without : r.bundle ≡ bundle → (unregistered r.id remaining).rows ≡ left_at bundle (i + 1) rows
  left_without own =
      ap (filter (λ (x : ServiceRow). not (has_number r.id x))) left
      ∙ ap (λ (y : ServiceRow). filter (λ (x : ServiceRow). not (has_number y.id x)) (left_at bundle i rows)) is
      ∙ leaves bundle i rows r pairs within (own_test own) ∙ ap (λ n. left_at bundle n rows) (sym (next i))

  pub left_with : r.bundle ≢ bundle → remaining.rows ≡ left_at bundle (i + 1) rows
  left_with other = left ∙ stays bundle i rows r pairs within (other_test other) ∙ ap (λ n. left_at bundle n rows) (sym (next i))
