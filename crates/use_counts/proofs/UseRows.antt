-- What a get more and a get less make of the rows, and that these stay in order and counted.
use Rattle.std.proofs.Common.{◌≡◌, ◌<◌, ◌≤◌, ◌+◌, ◌^◌, ℕ, suc, List, [], ◌∷◌, ap, lit<, sym, ◌∙◌, refl, cond, arith, Bool, true, false, get_or, Option, Some, Err}
use Rattle.std.proofs.Math.ListN.{set}
use Rattle.std.proofs.lemmas.Bool.{eq-eqb, eqb-false, ne_eqb}
use Rattle.std.proofs.lemmas.List.Elements.{All-cons, All-filter, All-tail}
use Rattle.std.proofs.lemmas.List.Kept.{AllPairs-filter}
use Rattle.std.proofs.lemmas.Option.{slice_get-get_or}
use Rattle.std.specs.Cmp.{IsTotalOrder, nat_cmp_total, on_total, then_total}
use Rattle.std.specs.List.{All}
use Rattle.std.specs.Option.{option_map_or}
use Rattle.std.specs.Ordering.{is_eq, ordering_reverse}
use Rattle.std.specs.Prelude.{◌==◌, filter, find, not, remove}
use Rattle.std.specs.declared.cmp.Ordering.{Ordering}
use Rattle.std.specs.declared.cmp.Ordering.TheVariants.{Less, Equal, Greater}
use Rattle.prop_map.specs.Words.{insert_by}
use Rattle.row_places.specs.RowPlaces.{IsPlaceOrGap, OnlyAt}
use Rattle.row_places.proofs.RowOrderLaws.{behind, exchanged, inserted, ordered_with}
use Rattle.row_places.proofs.RowPlaceLaws.{filter_only, find_none, find_only, none_found, only_within}
use Rattle.std.specs.Prelude.{insert}
use Rattle.use_counts.specs.declared.uses.Holder.{Holder}
use Rattle.use_counts.specs.declared.uses.Holder.TheVariants.{Shell, Token}
use Rattle.use_counts.specs.declared.uses.UseRow.{UseRow}
use Rattle.use_counts.specs.Refusals.{AreOrdered, AreUses, IsCounted}
use Rattle.use_counts.specs.Uses.{after_get, after_unget, held_by, holder_count, is_use, no_use, one_less, one_more, total, use_before, use_cmp, use_count, use_of, without_use}

pub use_cmp_total : IsTotalOrder use_cmp
use_cmp_total = then_total (on_total (λ (u : UseRow). u.service) nat_cmp_total) (on_total (λ (u : UseRow). u.bundle) nat_cmp_total)

-- ---- one row

pub total_more : (holder : Holder) (u : UseRow) → total (one_more holder u) ≡ total u + 1
total_more Shell u = omega arith
total_more Token u = omega arith

pub total_less : (holder : Holder) (u : UseRow) → 0 < held_by holder u → total (one_less holder u) + 1 ≡ total u
total_less Shell u held = omega (arith, held)
total_less Token u held = omega (arith, held)

pub held_within : (holder : Holder) (u : UseRow) → held_by holder u ≤ total u
held_within Shell u = omega arith
held_within Token u = omega arith

pub held_none : (holder : Holder) (bundle service : ℕ) → held_by holder (no_use bundle service) ≡ 0
held_none Shell bundle service = refl
held_none Token bundle service = refl

pub more_ties : (holder : Holder) (u v : UseRow) → use_cmp u v ≡ Equal → use_cmp (one_more holder u) v ≡ Equal
more_ties Shell u v e = e
more_ties Token u v e = e

pub less_ties : (holder : Holder) (u v : UseRow) → use_cmp u v ≡ Equal → use_cmp (one_less holder u) v ≡ Equal
less_ties Shell u v e = e
less_ties Token u v e = e

pub is_equal : (o : Ordering) → is_eq o ≡ true → o ≡ Equal
is_equal Less e = cc
is_equal Equal e = refl
is_equal Greater e = cc

pub own_tie : (o : Ordering) → o ≡ ordering_reverse o → o ≡ Equal
own_tie Less e = cc
own_tie Equal e = refl
own_tie Greater e = cc

-- a filter leaves rows in order and counted
pub uses_filtered : (test : UseRow → Bool) (us : List UseRow) → AreUses us → AreUses (filter test us)
uses_filtered test us ok = (AllPairs-filter (λ (u v : UseRow). use_cmp u v ≡ Less) test us ok.0, All-filter test IsCounted us ok.1)

pub uses_rest : (u : UseRow) (us : List UseRow) → AreUses (u ∷ us) → AreUses us
uses_rest u us ok = ((λ i j d lt within. ok.0 (suc i) (suc j) d (omega (arith, lt)) (omega (arith, within))), All-tail IsCounted u us ok.1)

-- ---- the rows of a bundle and a service

module _ (bundle service : ℕ) where
  abbrev order : UseRow → Ordering
  order u = use_cmp u (no_use bundle service)

  pub use_ties : (us : List UseRow) → use_cmp (use_of bundle service us) (no_use bundle service) ≡ Equal
  use_ties [] = own_tie (order (no_use bundle service)) (use_cmp_total.antisymm (no_use bundle service) (no_use bundle service))
  use_ties (u ∷ us) = by_test (is_use bundle service u) refl (use_ties us) where
    by_test : (b : Bool) → is_use bundle service u ≡ b → use_cmp (use_of bundle service us) (no_use bundle service) ≡ Equal
        → use_cmp (option_map_or (λ (x : UseRow). x) (cond b (Some u) (find (is_use bundle service) us)) (no_use bundle service)) (no_use bundle service) ≡ Equal
    by_test true e rest = is_equal (order u) e
    by_test false e rest = rest

  pub use_there : (place : ℕ) (us : List UseRow) (d : UseRow) → OnlyAt (is_use bundle service) place us → use_of bundle service us ≡ get_or us place d
  use_there place us d only =
      ap (λ (o : Option UseRow). option_map_or (λ (u : UseRow). u) o (no_use bundle service))
      (find_only (is_use bundle service) place us only ∙ slice_get-get_or us place d (only_within (is_use bundle service) place us only))

  pub use_nowhere : (gap : ℕ) (us : List UseRow) → AreOrdered us → IsPlaceOrGap order (Err gap) us → use_of bundle service us ≡ no_use bundle service
  use_nowhere gap us ordered place =
      ap (λ (o : Option UseRow). option_map_or (λ (u : UseRow). u) o (no_use bundle service))
      (find_none (is_use bundle service) us (none_found (λ (u v : UseRow). use_cmp u v ≡ Less) order (behind use_cmp use_cmp_total (no_use bundle service)) gap us place.1))

  -- the same for the row that was read there
  pub use_read : (place : ℕ) (us : List UseRow) (row : UseRow) → OnlyAt (is_use bundle service) place us → row ≡ get_or us place row → use_of bundle service us ≡ row
  use_read place us row only is = use_there place us row only ∙ sym is

  -- a holder's gets, as they were counted there
  pub held_read : (holder : Holder) (place count : ℕ) (us : List UseRow) (row : UseRow) → OnlyAt (is_use bundle service) place us → row ≡ get_or us place row → count ≡ held_by holder row → holder_count holder bundle service us ≡ count
  held_read holder place count us row only is counts = ap (held_by holder) (use_read place us row only is) ∙ sym counts

  pub held_some : (holder : Holder) (place count : ℕ) (us : List UseRow) (row : UseRow) → OnlyAt (is_use bundle service) place us → row ≡ get_or us place row → count ≡ held_by holder row → (count ≡ 0 → ⊥)
      → 0 < holder_count holder bundle service us
  held_some holder place count us row only is counts some = let e = held_read holder place count us row only is counts in omega (arith, e, some)

  -- what is left of its gets
  pub left_count : (holder : Holder) (place count : ℕ) (us : List UseRow) (row less : UseRow) → OnlyAt (is_use bundle service) place us → row ≡ get_or us place row → 0 < holder_count holder bundle service us
      → less ≡ one_less holder row → count ≡ total less → count + 1 ≡ use_count bundle service us
  left_count holder place count us row less only is held made counts =
      let there = use_read place us row only is in
      let one : total (one_less holder (use_of bundle service us)) + 1 ≡ total (use_of bundle service us) = total_less holder (use_of bundle service us) held in
      ap (λ n. n + 1) (counts ∙ ap total (made ∙ ap (one_less holder) (sym there))) ∙ one

  -- ---- with a row in its place

  All_inserted : (P : UseRow → Type 0) (y : UseRow) (us : List UseRow) → P y → All P us → All P (insert_by use_before y us)
  All_inserted P y [] py all = All-cons P y [] py all
  All_inserted P y (u ∷ us) py all = by_test (All_inserted P y us py (All-tail P u us all)) (use_before y u) where
    by_test : All P (insert_by use_before y us) → (b : Bool) → All P (cond b (y ∷ u ∷ us) (u ∷ insert_by use_before y us))
    by_test more true = All-cons P y (u ∷ us) py all
    by_test more false = All-cons P u (insert_by use_before y us) (all 0 u (omega arith)) more

  pub uses_with : (y : UseRow) (us : List UseRow) → order y ≡ Equal → IsCounted y → AreUses us → AreUses (insert_by use_before y (without_use bundle service us))
  uses_with y us ties counted ok = (
    ordered_with use_cmp use_cmp_total (no_use bundle service) y ties us ok.0,
    All_inserted IsCounted y (without_use bundle service us) counted (All-filter (λ (u : UseRow). not (is_use bundle service u)) IsCounted us ok.1),
  )

  uses_without : (us : List UseRow) → AreUses us → AreUses (without_use bundle service us)
  uses_without us ok = uses_filtered (λ (u : UseRow). not (is_use bundle service u)) us ok

  -- the row found is counted, also where there is none
  pub small_use : (us : List UseRow) → AreUses us → use_count bundle service us < 2 ^ 32
  small_use [] ok = lit< tt
  small_use (u ∷ us) ok = by_test (small_use us (uses_rest u us ok)) (is_use bundle service u) where
    by_test : use_count bundle service us < 2 ^ 32 → (b : Bool) → total (option_map_or (λ (x : UseRow). x) (cond b (Some u) (find (is_use bundle service) us)) (no_use bundle service)) < 2 ^ 32
    by_test rest true = (ok.1 0 u (omega arith)).1
    by_test rest false = rest

  -- ---- a get more

  pub uses_after_get : (holder : Holder) (us : List UseRow) → use_count bundle service us + 1 < 2 ^ 32 → AreUses us → AreUses (after_get bundle service holder us)
  uses_after_get holder us small ok =
      let more = total_more holder (use_of bundle service us) in
      uses_with (one_more holder (use_of bundle service us)) us (more_ties holder (use_of bundle service us) (no_use bundle service) (use_ties us)) (omega (arith, more), omega (arith, more, small)) ok

  pub got_there : (holder : Holder) (place : ℕ) (us : List UseRow) (row d : UseRow) → AreOrdered us → OnlyAt (is_use bundle service) place us → row ≡ one_more holder (get_or us place d)
      → set us place row ≡ after_get bundle service holder us
  got_there holder place us row d ordered only is =
      ap (set us place) (is ∙ ap (one_more holder) (sym (use_there place us d only)))
      ∙ sym (exchanged use_cmp use_cmp_total (no_use bundle service) (one_more holder (use_of bundle service us)) (more_ties holder (use_of bundle service us) (no_use bundle service) (use_ties us)) place us ordered only)

  pub got_first : (holder : Holder) (gap : ℕ) (us : List UseRow) (row : UseRow) → AreOrdered us → IsPlaceOrGap order (Err gap) us → row ≡ one_more holder (no_use bundle service)
      → insert us gap row ≡ after_get bundle service holder us
  got_first holder gap us row ordered place is =
      ap (insert us gap) (is ∙ ap (one_more holder) (sym (use_nowhere gap us ordered place)))
      ∙ sym (inserted use_cmp use_cmp_total (no_use bundle service) (one_more holder (use_of bundle service us)) (more_ties holder (use_of bundle service us) (no_use bundle service) (use_ties us)) gap us place)

  -- ---- a get less

  pub count_there : (place : ℕ) (us : List UseRow) (d : UseRow) → OnlyAt (is_use bundle service) place us → AreUses us → IsCounted (get_or us place d)
  count_there place us d only ok = ok.1 place d (only_within (is_use bundle service) place us only)

  abbrev less_of : Holder → List UseRow → UseRow
  less_of holder us = one_less holder (use_of bundle service us)

  pub uses_after_unget : (holder : Holder) (us : List UseRow) → 0 < holder_count holder bundle service us → use_count bundle service us < 2 ^ 32 → AreUses us → AreUses (after_unget bundle service holder us)
  uses_after_unget holder us held small ok = by_test (total (less_of holder us) == 0) refl where
    counted : (total (less_of holder us) == 0) ≡ false → IsCounted (less_of holder us)
    counted f = let less = total_less holder (use_of bundle service us) held in let some = eqb-false (total (less_of holder us)) 0 f in (omega (arith, some), omega (arith, less, small))

    by_test : (b : Bool) → (total (less_of holder us) == 0) ≡ b → AreUses (cond b (without_use bundle service us) (insert_by use_before (less_of holder us) (without_use bundle service us)))
    by_test true e = uses_without us ok
    by_test false e = uses_with (less_of holder us) us (less_ties holder (use_of bundle service us) (no_use bundle service) (use_ties us)) (counted e) ok

  pub ungot_last : (holder : Holder) (place : ℕ) (us : List UseRow) (row d : UseRow) → OnlyAt (is_use bundle service) place us → row ≡ one_less holder (get_or us place d) → total row ≡ 0
      → remove us place ≡ after_unget bundle service holder us
  ungot_last holder place us row d only is none =
      let left : total (less_of holder us) ≡ 0 = ap (λ (u : UseRow). total (one_less holder u)) (use_there place us d only) ∙ ap total (sym is) ∙ none in
      sym (filter_only (is_use bundle service) place us only)
      ∙ sym (ap (λ b. cond b (without_use bundle service us) (insert_by use_before (less_of holder us) (without_use bundle service us))) (eq-eqb (total (less_of holder us)) 0 left))

  pub ungot_more : (holder : Holder) (place : ℕ) (us : List UseRow) (row d : UseRow) → AreOrdered us → OnlyAt (is_use bundle service) place us → row ≡ one_less holder (get_or us place d) → (total row ≡ 0 → ⊥)
      → set us place row ≡ after_unget bundle service holder us
  ungot_more holder place us row d ordered only is some =
      let same : row ≡ less_of holder us = is ∙ ap (one_less holder) (sym (use_there place us d only)) in
      ap (set us place) same
      ∙ sym (exchanged use_cmp use_cmp_total (no_use bundle service) (less_of holder us) (less_ties holder (use_of bundle service us) (no_use bundle service) (use_ties us)) place us ordered only)
      ∙ sym (ap (λ b. cond b (without_use bundle service us) (insert_by use_before (less_of holder us) (without_use bundle service us)))
      (ne_eqb (total (less_of holder us)) 0 (λ none. some (ap total same ∙ none))))
