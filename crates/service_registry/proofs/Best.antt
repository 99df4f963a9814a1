-- The best service of a list, found from its end.
use Rattle.std.proofs.Common.{◌≡◌, ◌<◌, ℕ, List, [], ◌∷◌, Bool, true, false, cond, refl, ap, ◌∙◌, sym, Option, Some, None, filter, get_or, drop, length, suc}
use Rattle.std.proofs.Math.Seq.{drop-cons}
use Rattle.prop_map.specs.Words.{insert_by}
use Rattle.service_registry.specs.declared.row.ServiceRow.{ServiceRow}
use Rattle.service_registry.specs.Services.{best_first, best_of, better, better_one, first_of}

first_inserted_by : (x y : ServiceRow) (ys : List ServiceRow) (b : Bool) → first_of (cond b (x ∷ y ∷ ys) (y ∷ insert_by better x ys)) ≡ Some (cond b x y)
first_inserted_by x y ys true = refl
first_inserted_by x y ys false = refl

first_inserted : (x : ServiceRow) (ys : List ServiceRow) → first_of (insert_by better x ys) ≡ Some (better_one x (first_of ys))
first_inserted x [] = refl
first_inserted x (y ∷ ys) = first_inserted_by x y ys (better x y)

-- one more service in front
pub best_taken : (p : ServiceRow → Bool) (x : ServiceRow) (xs : List ServiceRow) → p x ≡ true → best_of (filter p (x ∷ xs)) ≡ Some (better_one x (best_of (filter p xs)))
best_taken p x xs e = ap (λ b. best_of (cond b (x ∷ filter p xs) (filter p xs))) e ∙ first_inserted x (best_first (filter p xs))

pub best_passed : (p : ServiceRow → Bool) (x : ServiceRow) (xs : List ServiceRow) → p x ≡ false → best_of (filter p (x ∷ xs)) ≡ best_of (filter p xs)
best_passed p x xs e = ap (λ b. best_of (cond b (x ∷ filter p xs) (filter p xs))) e

-- the same, from the end of a list: the service at place k is looked at next
pub best_behind : (p : ServiceRow → Bool) (k left : ℕ) (rows : List ServiceRow) (row : ServiceRow) (best : Option ServiceRow) → left ≡ suc k → k < length rows → row ≡ get_or rows k row → p row ≡ true
    → best ≡ best_of (filter p (drop left rows)) → Some (better_one row best) ≡ best_of (filter p (drop k rows))
best_behind p k left rows row best next within is passes so_far =
    ap (λ b. Some (better_one row b)) (so_far ∙ ap (λ n. best_of (filter p (drop n rows))) next)
    ∙ sym (ap (λ l. best_of (filter p l)) (drop-cons rows k row within ∙ ap (λ r. r ∷ drop (suc k) rows) (sym is)) ∙ best_taken p row (drop (suc k) rows) passes)
