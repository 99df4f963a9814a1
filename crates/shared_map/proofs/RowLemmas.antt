-- Rows by key: what a search finds in them.
use Rattle.std.proofs.Common.{◌≡◌, ℕ, List, [], ◌∷◌, length, arith, Result, Some, sym, ap, ◌∙◌, get_or}
use Rattle.std.specs.Cmp.Lexicographic.{slice_cmp}
use Rattle.std.specs.List.{AllPairs}
use Rattle.std.specs.List.Sorted.{IsBinarySearchResult, IsSearchInRange}
use Rattle.std.specs.Option.{option_map}
use Rattle.std.specs.Ordering.{is_eq, nat_cmp}
use Rattle.std.specs.Result.{result_ok}
use Rattle.std.specs.declared.cmp.Ordering.TheVariants.{Less}
use Rattle.std.proofs.lemmas.Cmp.{nat_list_cmp_total}
use Rattle.std.proofs.lemmas.List.Elements.{All-from_recursion}
use Rattle.std.proofs.lemmas.List.Kept.{AllPairs-cons}
use Rattle.std.proofs.lemmas.Map.Text.{is_eq-slice_cmp}
use Rattle.row_places.specs.RowPlaces.{IsOnlyPlace, OnlyAt}
use Rattle.row_places.proofs.RowOrderLaws.{behind}
use Rattle.row_places.proofs.RowPlaceLaws.{found_at, place_agrees, searched}
use Rattle.shared_map.specs.declared.rows.Row.{Row}
use Rattle.shared_map.specs.Rows.{AreByKey, is_of, key_cmp, value_of}

module _ {V : Type 0} where
  abbrev Precedes : Row V → Row V → Type 0
  Precedes r s = key_cmp r s ≡ Less

  all_pairs : (rows : List (Row V)) → AreByKey rows → AllPairs Precedes rows
  all_pairs [] order = λ i j d less within. absurd (omega arith)
  all_pairs (r ∷ rows) order = AllPairs-cons Precedes r rows (All-from_recursion (Precedes r) rows order.0) (all_pairs rows order.1)

  -- what a binary search finds
  pub placed : (key : List ℕ) (rows : List (Row V)) (r : Result ℕ ℕ) → AreByKey rows → IsBinarySearchResult (λ (x : Row V). slice_cmp nat_cmp x.key key) rows r → IsSearchInRange r (length rows)
      → IsOnlyPlace (is_of key) (result_ok r) rows
  placed key rows r order found within =
      place_agrees (λ (x : Row V). is_eq (slice_cmp nat_cmp x.key key)) (is_of key) (λ x. is_eq-slice_cmp x.key key) (result_ok r) rows
      (searched Precedes (λ (x : Row V). slice_cmp nat_cmp x.key key) (λ x z. behind (slice_cmp nat_cmp) nat_list_cmp_total key x.key z.key) rows r (all_pairs rows order) found within)

  -- the row at a key's place has its value
  pub value_there : (key : List ℕ) (rows : List (Row V)) (place : ℕ) (r : Row V) → OnlyAt (is_of key) place rows → r ≡ get_or rows place r → Some (get_or rows place r).value ≡ value_of key rows
  value_there key rows place r only is =
      ap (λ (x : Row V). Some x.value) (sym is) ∙ sym (ap (option_map (λ (x : Row V). x.value)) (found_at (is_of key) place rows r only is))
