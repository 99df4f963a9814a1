-- What undoes a change gives the gets as they were.
use Rattle.std.proofs.Common.{◌≡◌, ◌≤◌, ℕ, suc, zero, List, [], ◌∷◌, ap, sym, subst, ◌∙◌, ◌+◌, ◌-◌, refl, cond, arith, Bool, true, false, length, get_or, Option, Some, None, Ok, Err, Result}
use Rattle.std.proofs.Math.ListN.{set}
use Rattle.std.proofs.lemmas.Bool.{ne_eqb}
use Rattle.std.proofs.lemmas.List.Elements.{All-filter, All-tail}
use Rattle.std.specs.Cmp.{ranked}
use Rattle.std.specs.List.{All}
use Rattle.std.specs.Option.{option_map_or}
use Rattle.std.specs.Ordering.{is_eq, is_lt, nat_cmp, ordering_reverse, ordering_then}
use Rattle.std.specs.Prelude.{◌==◌, filter, find, insert, not, IfOk, OnOk}
use Rattle.std.specs.declared.cmp.Ordering.{Ordering}
use Rattle.std.specs.declared.cmp.Ordering.TheVariants.{Less, Equal, Greater}
use Rattle.prop_map.specs.Words.{insert_by}
use Rattle.row_places.specs.RowPlaces.{IsPlaceOrGap, NoneOf, OnlyAt}
use Rattle.row_places.proofs.RowOrderLaws.{behind, exchanged, inserted}
use Rattle.row_places.proofs.RowPlaceLaws.{filter_none, none_found}
use Rattle.use_counts.specs.declared.uses.Holder.{Holder}
use Rattle.use_counts.specs.declared.uses.Holder.TheVariants.{Shell, Token}
use Rattle.use_counts.specs.declared.uses.UseRow.{UseRow}
use Rattle.use_counts.specs.Refusals.{AreOrdered, AreUses, IsCounted}
use Rattle.use_counts.specs.Undoing.{with_row, with_rows}
use Rattle.use_counts.specs.Uses.{after_get, after_unget, is_use, no_use, one_less, one_more, total, use_before, use_cmp, use_of, with_use, without_use}
use Rattle.use_counts.proofs.UseRows.{less_ties, more_ties, own_tie, use_cmp_total, use_ties, uses_with}

pub on_ok : {A E : Type 0} {P Q : Type 0} (r : Result A E) → OnOk r P → (P → Q) → OnOk r Q
on_ok (Ok x) p f = f p
on_ok (Err e) p f = tt

pub if_ok : {A E : Type 0} {P Q : A → Type 0} (r : Result A E) → IfOk r P → ((x : A) → P x → Q x) → IfOk r Q
if_ok (Ok x) p f = f x p
if_ok (Err e) p f = tt

-- ---- lists of which one item at most passes a test

module _ {X : Type 0} (test : X → Bool) where
  abbrev without : List X → List X
  without xs = filter (λ x. not (test x)) xs

  pub fewer : (xs : List X) → length (filter test xs) ≤ length xs
  fewer [] = omega arith
  fewer (x ∷ xs) = by_test (test x) (fewer xs) where
    by_test : (b : Bool) → length (filter test xs) ≤ length xs → length (cond b (x ∷ filter test xs) (filter test xs)) ≤ length (x ∷ xs)
    by_test true low = omega (arith, low)
    by_test false low = omega (arith, low)

  without_twice : (xs : List X) → without (without xs) ≡ without xs
  without_twice [] = refl
  without_twice (x ∷ xs) = by_test (test x) refl (without_twice xs) where
    by_test : (b : Bool) → test x ≡ b → without (without xs) ≡ without xs
        → without (cond (not (test x)) (x ∷ without xs) (without xs)) ≡ cond (not (test x)) (x ∷ without xs) (without xs)
    by_test true t more = ap (λ b. without (cond (not b) (x ∷ without xs) (without xs))) t ∙ more ∙ sym (ap (λ b. cond (not b) (x ∷ without xs) (without xs)) t)
    by_test false t more =
        ap (λ b. without (cond (not b) (x ∷ without xs) (without xs))) t ∙ ap (λ b. cond (not b) (x ∷ without (without xs)) (without (without xs))) t
        ∙ ap (λ ys. x ∷ ys) more ∙ sym (ap (λ b. cond (not b) (x ∷ without xs) (without xs)) t)

  abbrev item_or : X → Option X → X
  item_or d None = d
  item_or d (Some x) = x

  none_left : (xs : List X) → NoneOf test (without xs)
  none_left [] = tt
  none_left (x ∷ xs) = by_test (test x) refl (none_left xs) where
    by_test : (b : Bool) → test x ≡ b → NoneOf test (without xs) → NoneOf test (cond (not b) (x ∷ without xs) (without xs))
    by_test true t more = more
    by_test false t more = (t, more)

  none_passes : (xs : List X) → NoneOf test xs → filter test xs ≡ []
  none_passes [] none = refl
  none_passes (x ∷ xs) none = ap (λ b. cond b (x ∷ filter test xs) (filter test xs)) none.0 ∙ none_passes xs none.1

  none_left_out : (xs : List X) → find test xs ≡ None → NoneOf test xs
  none_left_out [] e = tt
  none_left_out (x ∷ xs) e = by_test (test x) refl (none_left_out xs) where
    by_test : (b : Bool) → test x ≡ b → (find test xs ≡ None → NoneOf test xs) → (test x ≡ false) × NoneOf test xs
    by_test true t more = absurd (clash (sym (ap (λ b. cond b (Some x) (find test xs)) t) ∙ e)) where
      clash : Some x ≡ None → ⊥
      clash h = cc
    by_test false t more = (t, more (sym (ap (λ b. cond b (Some x) (find test xs)) t) ∙ e))

  -- an item that passes, put among those that don't, is found, and is left out again
  finds_put : (before : X → X → Bool) (y : X) (xs : List X) → test y ≡ true → NoneOf test xs → find test (insert_by before y xs) ≡ Some y
  finds_put before y [] t none = ap (λ b. cond b (Some y) None) t
  finds_put before y (x ∷ xs) t none = by_test (before y x) (finds_put before y xs t none.1) where
    by_test : (b : Bool) → find test (insert_by before y xs) ≡ Some y → find test (cond b (y ∷ x ∷ xs) (x ∷ insert_by before y xs)) ≡ Some y
    by_test true more = ap (λ b. cond b (Some y) (find test (x ∷ xs))) t
    by_test false more = ap (λ b. cond b (Some x) (find test (insert_by before y xs))) none.0 ∙ more

  without_put : (before : X → X → Bool) (y : X) (xs : List X) → test y ≡ true → without (insert_by before y xs) ≡ without xs
  without_put before y [] t = ap (λ b. cond (not b) (y ∷ []) []) t
  without_put before y (x ∷ xs) t = by_test (before y x) (without_put before y xs t) where
    by_test : (b : Bool) → without (insert_by before y xs) ≡ without xs → without (cond b (y ∷ x ∷ xs) (x ∷ insert_by before y xs)) ≡ without (x ∷ xs)
    by_test true more = ap (λ b. cond (not b) (y ∷ without (x ∷ xs)) (without (x ∷ xs))) t
    by_test false more = ap (λ ys. cond (not (test x)) (x ∷ ys) ys) more

  -- what is found has what all have, and passes
  found_has : (P : X → Type 0) (xs : List X) (x : X) → All P xs → find test xs ≡ Some x → P x × (test x ≡ true)
  found_has P [] x all e = absurd (none e) where
    none : None ≡ Some x → ⊥
    none h = cc
  found_has P (y ∷ ys) x all e = by_test (test y) refl (found_has P ys x (All-tail P y ys all)) where
    by_test : (b : Bool) → test y ≡ b → (find test ys ≡ Some x → P x × (test x ≡ true)) → P x × (test x ≡ true)
    by_test true t more = let same : Some y ≡ Some x = sym (ap (λ b. cond b (Some y) (find test ys)) t) ∙ e in
        subst (λ (o : Option X). P (item_or y o) × (test (item_or y o) ≡ true)) same (all 0 y (omega arith), t)
    by_test false t more = more (sym (ap (λ b. cond b (Some y) (find test ys)) t) ∙ e)

-- ---- rows put back among the others

abbrev Earlier : UseRow → UseRow → Type 0
Earlier u v = use_cmp u v ≡ Less

turned : (u v : UseRow) → Earlier u v → use_cmp v u ≡ Greater
turned u v less = use_cmp_total.antisymm v u ∙ ap ordering_reverse less

none_behind : (u : UseRow) (us : List UseRow) → All (Earlier u) us → NoneOf (is_use u.bundle u.service) us
none_behind u [] all = tt
none_behind u (v ∷ vs) all = (ap is_eq (turned u v (all 0 v (omega arith))), none_behind u vs (All-tail (Earlier u) v vs all))

put_first : (u : UseRow) (us : List UseRow) → All (Earlier u) us → insert_by use_before u us ≡ u ∷ us
put_first u [] all = refl
put_first u (v ∷ vs) all = ap (λ b. cond b (u ∷ v ∷ vs) (v ∷ insert_by use_before u vs)) (ap is_lt (all 0 v (omega arith)))

goes_first : (u : UseRow) (us : List UseRow) → All (Earlier u) us → with_row u us ≡ u ∷ us
goes_first u us all = ap (insert_by use_before u) (filter_none (is_use u.bundle u.service) us (none_behind u us all)) ∙ put_first u us all

goes_behind : (k u : UseRow) (us : List UseRow) → Earlier u k → with_row k (u ∷ us) ≡ u ∷ with_row k us
goes_behind k u us less =
    ap (λ b. insert_by use_before k (cond (not b) (u ∷ without_use k.bundle k.service us) (without_use k.bundle k.service us))) (ap is_eq less)
    ∙ ap (λ b. cond b (k ∷ u ∷ without_use k.bundle k.service us) (u ∷ with_row k us)) (ap is_lt (turned u k less))

all_behind : (ks : List UseRow) (u : UseRow) (us : List UseRow) → All (Earlier u) ks → with_rows ks (u ∷ us) ≡ u ∷ with_rows ks us
all_behind [] u us all = refl
all_behind (k ∷ ks) u us all = ap (with_rows ks) (goes_behind k u us (all 0 k (omega arith))) ∙ all_behind ks u (with_row k us) (All-tail (Earlier u) k ks all)

-- rows of which some were taken out, and these put back
pub put_back : (ended : UseRow → Bool) (us : List UseRow) → AreOrdered us → with_rows (filter ended us) (filter (λ (u : UseRow). not (ended u)) us) ≡ us
put_back ended [] ordered = refl
put_back ended (u ∷ us) ordered = by_test (ended u) refl (put_back ended us rest) where
  left : List UseRow
  left = filter (λ (v : UseRow). not (ended v)) us

  rest : AreOrdered us
  rest i j d less within = ordered (suc i) (suc j) d (omega (arith, less)) (omega (arith, within))

  behind_u : All (Earlier u) us
  behind_u k d within = ordered 0 (suc k) d (omega arith) (omega (arith, within))

  by_test : (b : Bool) → ended u ≡ b → with_rows (filter ended us) left ≡ us
      → with_rows (cond b (u ∷ filter ended us) (filter ended us)) (cond (not b) (u ∷ left) left) ≡ u ∷ us
  by_test true t more =
      ap (with_rows (filter ended us)) (goes_first u left (All-filter (λ (v : UseRow). not (ended v)) (Earlier u) us behind_u))
      ∙ all_behind (filter ended us) u left (All-filter ended (Earlier u) us behind_u) ∙ ap (λ vs. u ∷ vs) more
  by_test false t more = all_behind (filter ended us) u left (All-filter ended (Earlier u) us behind_u) ∙ ap (λ vs. u ∷ vs) more

-- ---- one row

own_place : (u : UseRow) → use_cmp u u ≡ Equal
own_place u = own_tie (use_cmp u u) (use_cmp_total.antisymm u u)

pub row_there : (u : UseRow) (place : ℕ) (us : List UseRow) → AreOrdered us → OnlyAt (is_use u.bundle u.service) place us → set us place u ≡ with_row u us
row_there u place us ordered only = sym (exchanged use_cmp use_cmp_total (no_use u.bundle u.service) u (own_place u) place us ordered only)

pub row_new : (u : UseRow) (gap : ℕ) (us : List UseRow) → IsPlaceOrGap (λ (v : UseRow). use_cmp v (no_use u.bundle u.service)) (Err gap) us
    → insert us gap u ≡ with_row u us
row_new u gap us place = sym (inserted use_cmp use_cmp_total (no_use u.bundle u.service) u (own_place u) gap us place)

pub uses_with_row : (u : UseRow) (us : List UseRow) → IsCounted u → AreUses us → AreUses (with_row u us)
uses_with_row u us counted ok = uses_with u.bundle u.service u us (own_place u) counted ok

service_of : (o : Ordering) (a b : ℕ) (p : Ordering) → o ≡ nat_cmp a b → is_eq (ordering_then o p) ≡ true → (a ≡ b) × (is_eq p ≡ true)
service_of Less a b p e same = cc
service_of Equal a b p e same = (ranked a b Equal e, same)
service_of Greater a b p e same = cc

bundle_of : (o : Ordering) (a b : ℕ) → o ≡ nat_cmp a b → is_eq o ≡ true → a ≡ b
bundle_of Less a b e same = cc
bundle_of Equal a b e same = ranked a b Equal e
bundle_of Greater a b e same = cc

module _ (bundle service : ℕ) where
  abbrev is_sought : UseRow → Bool
  is_sought u = is_use bundle service u

  named_so : (u : UseRow) → is_sought u ≡ true → (u.service ≡ service) × (u.bundle ≡ bundle)
  named_so u same = let s =
      service_of (nat_cmp u.service service) u.service service (nat_cmp u.bundle bundle) refl same in (s.0, bundle_of (nat_cmp u.bundle bundle) u.bundle bundle refl s.1)

  same_others : (u : UseRow) (us : List UseRow) → is_sought u ≡ true → without_use u.bundle u.service us ≡ without_use bundle service us
  same_others u us same = let n = named_so u same in λ i. without_use (n.1 i) (n.0 i) us

  none_else : (u : UseRow) (us : List UseRow) → is_sought u ≡ true → All (Earlier u) us → NoneOf is_sought us
  none_else u [] same all = tt
  none_else u (v ∷ vs) same all = (
    ap is_eq (behind use_cmp use_cmp_total (no_use bundle service) u v (all 0 v (omega arith)) (λ less. clash (ap is_eq less) same)),
    none_else u vs same (All-tail (Earlier u) v vs all),
  ) where
    clash : is_sought u ≡ false → is_sought u ≡ true → ⊥
    clash f t = cc

  -- the row that is found is the only one
  just_it : (us : List UseRow) (r : UseRow) → AreOrdered us → find is_sought us ≡ Some r → filter is_sought us ≡ r ∷ []
  just_it [] r ordered e = absurd (none e) where
    none : None ≡ Some r → ⊥
    none h = cc
  just_it (u ∷ us) r ordered e =
      by_test (is_sought u) refl (just_it us r (λ i j d less within. ordered (suc i) (suc j) d (omega (arith, less)) (omega (arith, within)))) where
        by_test : (b : Bool) → is_sought u ≡ b → (find is_sought us ≡ Some r → filter is_sought us ≡ r ∷ [])
            → cond b (u ∷ filter is_sought us) (filter is_sought us) ≡ r ∷ []
        by_test true t more =
            ap (λ vs. u ∷ vs) (none_passes is_sought us (none_else u us t (λ k d within. ordered 0 (suc k) d (omega arith) (omega (arith, within)))))
            ∙ ap (λ v. v ∷ []) (ap (item_or is_sought u) (sym (ap (λ b. cond b (Some u) (find is_sought us)) t) ∙ e))
        by_test false t more = more (sym (ap (λ b. cond b (Some u) (find is_sought us)) t) ∙ e)

  pub filter_there : (place : ℕ) (us : List UseRow) (d : UseRow) → OnlyAt is_sought place us → filter is_sought us ≡ get_or us place d ∷ []
  filter_there place [] d only = absurd only
  filter_there zero (u ∷ us) d only = ap (λ b. cond b (u ∷ filter is_sought us) (filter is_sought us)) only.0
      ∙ ap (λ vs. u ∷ vs) (none_passes is_sought us only.1)
  filter_there (suc k) (u ∷ us) d only = ap (λ b. cond b (u ∷ filter is_sought us) (filter is_sought us)) only.0 ∙ filter_there k us d only.1

  pub filter_nowhere : (gap : ℕ) (us : List UseRow) → IsPlaceOrGap (λ (v : UseRow). use_cmp v (no_use bundle service)) (Err gap) us → filter is_sought us ≡ []
  filter_nowhere gap us place =
      let none = none_found Earlier (λ (v : UseRow). use_cmp v (no_use bundle service)) (behind use_cmp use_cmp_total (no_use bundle service)) gap us place.1 in
      none_passes is_sought us none

  -- a row that stands, in its own place
  itself : (us : List UseRow) (r : UseRow) → AreOrdered us → find is_sought us ≡ Some r → insert_by use_before r (without_use bundle service us) ≡ us
  itself us r ordered e =
      let same : is_sought r ≡ true = (found_has is_sought (λ u. Unit {0}) us r (λ k d within. tt) e).1 in
      ap (insert_by use_before r) (sym (without_twice is_sought us) ∙ sym (same_others r (without_use bundle service us) same))
      ∙ ap (λ ks. with_rows ks (without_use bundle service us)) (sym (just_it us r ordered e)) ∙ put_back is_sought us ordered

  others_same : (us : List UseRow) → find is_sought us ≡ None → without_use bundle service us ≡ us
  others_same us e = filter_none is_sought us (none_left_out is_sought us e)

  use_or_none : (us : List UseRow) (o : Option UseRow) → find is_sought us ≡ o
      → use_of bundle service us ≡ option_map_or (λ (u : UseRow). u) o (no_use bundle service)
  use_or_none us o e = ap (λ (o : Option UseRow). option_map_or (λ (u : UseRow). u) o (no_use bundle service)) e

  -- ---- an unget, undone by what was kept

  abbrev less_of : Holder → List UseRow → UseRow
  less_of holder us = one_less holder (use_of bundle service us)

  less_is_sought : (holder : Holder) (us : List UseRow) → is_sought (less_of holder us) ≡ true
  less_is_sought holder us = ap is_eq (less_ties holder (use_of bundle service us) (no_use bundle service) (use_ties bundle service us))

  more_is_sought : (holder : Holder) (us : List UseRow) → is_sought (one_more holder (use_of bundle service us)) ≡ true
  more_is_sought holder us = ap is_eq (more_ties holder (use_of bundle service us) (no_use bundle service) (use_ties bundle service us))

  others_left : (u : UseRow) (us : List UseRow) → is_sought u ≡ true → without_use bundle service (with_use bundle service u us) ≡ without_use bundle service us
  others_left u us same = by_test (total u == 0) where
    by_test : (b : Bool) → without_use bundle service (cond b (without_use bundle service us) (insert_by use_before u (without_use bundle service us))) ≡ without_use bundle service us
    by_test true = without_twice is_sought us
    by_test false = without_put is_sought use_before u (without_use bundle service us) same ∙ without_twice is_sought us

  nothing_less : (holder : Holder) → (total (one_less holder (no_use bundle service)) == 0) ≡ true
  nothing_less Shell = refl
  nothing_less Token = refl

  ungot_by : (holder : Holder) (us : List UseRow) (o : Option UseRow) → find is_sought us ≡ o → AreOrdered us
      → with_rows (filter is_sought us) (after_unget bundle service holder us) ≡ us
  ungot_by holder us None e ordered =
      ap (λ ks. with_rows ks (after_unget bundle service holder us)) (none_passes is_sought us (none_left_out is_sought us e))
      ∙ ap (λ (u : UseRow). with_use bundle service (one_less holder u) us) (use_or_none us None e)
      ∙ ap (λ b. cond b (without_use bundle service us) (insert_by use_before (one_less holder (no_use bundle service)) (without_use bundle service us))) (nothing_less holder)
      ∙ others_same us e
  ungot_by holder us (Some r) e ordered =
      let same : is_sought r ≡ true = (found_has is_sought (λ u. Unit {0}) us r (λ k d within. tt) e).1 in
      ap (λ ks. with_rows ks (after_unget bundle service holder us)) (just_it us r ordered e)
      ∙ ap (insert_by use_before r) (same_others r (after_unget bundle service holder us) same ∙ others_left (less_of holder us) us (less_is_sought holder us))
      ∙ itself us r ordered e

  pub ungot_back : (holder : Holder) (us : List UseRow) → AreOrdered us → with_rows (filter is_sought us) (after_unget bundle service holder us) ≡ us
  ungot_back holder us ordered = ungot_by holder us (find is_sought us) refl ordered

  -- ---- a get, undone by an unget

  less_more : (holder : Holder) (u : UseRow) → one_less holder (one_more holder u) ≡ u
  less_more Shell u = let e : u.shell + 1 - 1 ≡ u.shell = omega arith in λ i. record u { shell = e i }
  less_more Token u = let e : u.tokens + 1 - 1 ≡ u.tokens = omega arith in λ i. record u { tokens = e i }

  use_got : (holder : Holder) (us : List UseRow) → use_of bundle service (after_get bundle service holder us) ≡ one_more holder (use_of bundle service us)
  use_got holder us =
      use_or_none (after_get bundle service holder us) (Some (one_more holder (use_of bundle service us)))
      (finds_put is_sought use_before (one_more holder (use_of bundle service us)) (without_use bundle service us) (more_is_sought holder us) (none_left is_sought us))

  others_got : (holder : Holder) (us : List UseRow) → without_use bundle service (after_get bundle service holder us) ≡ without_use bundle service us
  others_got holder us =
      without_put is_sought use_before (one_more holder (use_of bundle service us)) (without_use bundle service us) (more_is_sought holder us)
      ∙ without_twice is_sought us

  with_own_use : (us : List UseRow) (o : Option UseRow) → find is_sought us ≡ o → AreUses us → with_use bundle service (use_of bundle service us) us ≡ us
  with_own_use us None e ok = ap (λ (u : UseRow). with_use bundle service u us) (use_or_none us None e) ∙ others_same us e
  with_own_use us (Some r) e ok =
      let some : IsCounted r = (found_has is_sought IsCounted us r ok.1 e).0 in
      ap (λ (u : UseRow). with_use bundle service u us) (use_or_none us (Some r) e)
      ∙ ap (λ b. cond b (without_use bundle service us) (insert_by use_before r (without_use bundle service us))) (ne_eqb (total r) 0 (λ none. omega (arith, none, some.0)))
      ∙ itself us r ok.0 e

  pub got_back : (holder : Holder) (us : List UseRow) → AreUses us → after_unget bundle service holder (after_get bundle service holder us) ≡ us
  got_back holder us ok =
      ap (λ (u : UseRow). with_use bundle service u (after_get bundle service holder us)) (ap (one_less holder) (use_got holder us)
      ∙ less_more holder (use_of bundle service us))
      ∙ ap (λ vs. cond (total (use_of bundle service us) == 0) vs (insert_by use_before (use_of bundle service us) vs)) (others_got holder us)
      ∙ with_own_use us (find is_sought us) refl ok
