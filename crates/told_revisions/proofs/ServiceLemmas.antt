-- The rows of one reference, by service.
use Rattle.std.proofs.Common.{◌≡◌, ◌<◌, ◌==◌, ℕ, suc, zero, List, [], ◌∷◌, Bool, true, false, cond, get_or, Option, Some, Ok, Err, refl, ap, ◌∙◌, sym}
use Rattle.std.specs.Prelude.{find, insert, not}
use Rattle.std.proofs.Math.ListN.{set}
use Rattle.std.specs.Option.{option_map_or}
use Rattle.std.specs.Ordering.{nat_cmp}
use Rattle.std.proofs.lemmas.Bool.{eqb-true}
use Rattle.std.proofs.lemmas.List.Kept.{AllPairs-filter}
use Rattle.row_places.specs.RowPlaces.{IsPlaceOrGap, OnlyAt}
use Rattle.row_places.proofs.NumberLaws.{none_has, only_has, put_new, put_there, rising_with}
use Rattle.row_places.proofs.RowPlaceLaws.{find_none}
use Rattle.told_revisions.specs.declared.services.ServiceRevision.{ServiceRevision}
use Rattle.told_revisions.specs.Services.{AreByService, goes_before, has_service, revision_of, with_service, without_service}
use Rattle.told_revisions.proofs.FoundLemmas.{new_put, none_left, old_put, still_found}

abbrev number : ServiceRevision → ℕ
number r = r.service

abbrev revision_in : Option ServiceRevision → ℕ
revision_in o = option_map_or (λ (r : ServiceRevision). r.revision) o 0

row_there : (n place : ℕ) (rows : List ServiceRevision) (d : ServiceRevision) → OnlyAt (has_service n) place rows → find (has_service n) rows ≡ Some (get_or rows place d)
row_there n place [] d only = absurd only
row_there n zero (r ∷ rows) d only = ap (λ b. cond b (Some r) (find (has_service n) rows)) only.0
row_there n (suc place) (r ∷ rows) d only = ap (λ b. cond b (Some r) (find (has_service n) rows)) only.0 ∙ row_there n place rows d only.1

-- what stands at a service's place
pub revision_there : (n place : ℕ) (rows : List ServiceRevision) (d : ServiceRevision) → IsPlaceOrGap (λ (r : ServiceRevision). nat_cmp r.service n) (Ok place) rows → (get_or rows place d).revision ≡ revision_of rows n
revision_there n place rows d at = sym (ap revision_in (row_there n place rows d (only_has number n place rows at)))

pub no_revision : (n gap : ℕ) (rows : List ServiceRevision) → IsPlaceOrGap (λ (r : ServiceRevision). nat_cmp r.service n) (Err gap) rows → 0 ≡ revision_of rows n
no_revision n gap rows at = sym (ap revision_in (find_none (has_service n) rows (none_has number n gap rows at)))

-- a row in its place, or in the gap
pub row_put : (place : ℕ) (rows : List ServiceRevision) (row : ServiceRevision) → AreByService rows → IsPlaceOrGap (λ (r : ServiceRevision). nat_cmp r.service row.service) (Ok place) rows → set rows place row ≡ with_service row rows
row_put place rows row order at = put_there number row place rows order at

pub row_inserted : (gap : ℕ) (rows : List ServiceRevision) (row : ServiceRevision) → IsPlaceOrGap (λ (r : ServiceRevision). nat_cmp r.service row.service) (Err gap) rows → insert rows gap row ≡ with_service row rows
row_inserted gap rows row at = put_new number row gap rows at

pub order_with : (row : ServiceRevision) (rows : List ServiceRevision) → AreByService rows → AreByService (with_service row rows)
order_with row rows order = rising_with number row rows order

pub order_without : (n : ℕ) (rows : List ServiceRevision) → AreByService rows → AreByService (without_service n rows)
order_without n rows order = AllPairs-filter (λ (r s : ServiceRevision). r.service < s.service) (λ r. not (has_service n r)) rows order

-- the revisions of services then
pub revision_with : (row : ServiceRevision) (rows : List ServiceRevision) (n : ℕ) → revision_of (with_service row rows) n ≡ cond (row.service == n) row.revision (revision_of rows n)
revision_with row rows n = by_test (row.service == n) refl where
  by_test : (b : Bool) → (row.service == n) ≡ b → revision_of (with_service row rows) n ≡ cond b row.revision (revision_of rows n)
  by_test true e = ap revision_in (new_put (has_service n) goes_before row (without_service row.service rows) e
      (none_left (has_service n) (has_service row.service) (λ r. ap (λ m. r.service == m) (sym (eqb-true row.service n e))) rows))
  by_test false e = ap revision_in (old_put (has_service n) goes_before row (without_service row.service rows) e
      ∙ still_found (has_service n) (has_service row.service) (λ r is. ap (λ m. m == n) (eqb-true r.service row.service is) ∙ e) rows)

pub revision_without : (m : ℕ) (rows : List ServiceRevision) (n : ℕ) → revision_of (without_service m rows) n ≡ cond (m == n) 0 (revision_of rows n)
revision_without m rows n = by_test (m == n) refl where
  by_test : (b : Bool) → (m == n) ≡ b → revision_of (without_service m rows) n ≡ cond b 0 (revision_of rows n)
  by_test true e = ap revision_in (none_left (has_service n) (has_service m) (λ r. ap (λ k. r.service == k) (sym (eqb-true m n e))) rows)
  by_test false e = ap revision_in (still_found (has_service n) (has_service m) (λ r is. ap (λ k. k == n) (eqb-true r.service m is) ∙ e) rows)
