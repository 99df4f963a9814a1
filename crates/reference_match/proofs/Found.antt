-- Services that were found one after the other.
use Rattle.std.proofs.Common.{◌≡◌, ◌<◌, ◌≤◌, ◌+◌, ◌-◌, ap, sym, ◌∙◌, cond, arith, ℕ, List, [], ◌∷◌, ◌++◌, Bool, true, false, length, take, drop, get_or, length-append}
use Rattle.std.proofs.lemmas.Bool.Decides.{nat_tests}
use Rattle.std.proofs.lemmas.List.{map-append, take-append-drop, take_more}
use Rattle.std.proofs.lemmas.List.Elements.{filter-append}
use Rattle.std.specs.Prelude.{◌==◌, ◌&&◌, filter, map, nat_le}
use Rattle.prop_map.specs.Words.{in_order}
use Rattle.service_registry.specs.declared.best_first.Ranked.{Ranked}
use Rattle.service_registry.specs.declared.row.ServiceRow.{ServiceRow}
use Rattle.service_registry.specs.Services.{ranked, ranked_before}
use Rattle.service_registry.proofs.RankOrder.{numbers_ranked}
use Rattle.reference_match.specs.declared.need.Need.{Need}
use Rattle.reference_match.specs.Standing.{is_registered, standing}
use Rattle.reference_match.specs.Targets.{is_met, meets, targets}

abbrev numbers : List Ranked → List ℕ
numbers rs = map (λ (r : Ranked). r.id) (in_order ranked_before rs)

-- the numbers of those that meet a need, the best first
pub best_found : (n : Need) (rows : List ServiceRow) (found : List Ranked) → found ≡ map ranked (filter (meets n) rows) → numbers found ≡ targets n rows
best_found n rows found is = ap numbers is ∙ numbers_ranked (filter (meets n) rows)

pub both_found : (n : Need) (direct opened : List ServiceRow) (found : List Ranked)
    → found ≡ map ranked (filter (meets n) direct) ++ map ranked (filter (meets n) (filter is_registered opened)) → numbers found ≡ targets n (standing direct opened)
both_found n direct opened found is =
    best_found n (standing direct opened) found
    (is ∙ sym (map-append ranked (filter (meets n) direct) (filter (meets n) (filter is_registered opened))) ∙ ap (map ranked) (sym (filter-append (meets n) direct (filter is_registered opened))))

-- as many as are wanted
none_left : (wanted count : ℕ) → (wanted - count == 0) ≡ nat_le wanted count
none_left wanted count = grind (arith, nat_tests)

pub met : (n : Need) (rows : List ServiceRow) (left : ℕ) → left ≡ n.minimum - length (filter (meets n) rows) → (left == 0) ≡ is_met rows n
met n rows left is = ap (λ k. k == 0) is ∙ none_left n.minimum (length (filter (meets n) rows))

both_counted : (wanted a b : ℕ) → wanted - a - b ≡ wanted - (a + b)
both_counted wanted a b = omega arith

pub both_met : (n : Need) (direct opened : List ServiceRow) (first left : ℕ) → first ≡ n.minimum - length (filter (meets n) direct) → left ≡ first - length (filter (meets n) (filter is_registered opened))
    → (left == 0) ≡ is_met (standing direct opened) n
both_met n direct opened first left is then =
    met n (standing direct opened) left
    (then ∙ ap (λ k. k - length (filter (meets n) (filter is_registered opened))) is
    ∙ both_counted n.minimum (length (filter (meets n) direct)) (length (filter (meets n) (filter is_registered opened)))
    ∙ ap (λ k. n.minimum - k) (sym (length-append (filter (meets n) direct) (filter (meets n) (filter is_registered opened))) ∙ ap length (sym (filter-append (meets n) direct (filter is_registered opened)))))

-- what a walk over a list makes of its items one by one
module _ {X Y : Type 0} (made : List X → List Y) (joins : (xs ys : List X) → made (xs ++ ys) ≡ made xs ++ made ys) where
  -- is no longer before the end
  not_longer : (i : ℕ) (xs : List X) → length (made (take i xs)) ≤ length (made xs)
  not_longer i xs =
      let whole : length (made xs) ≡ length (made (take i xs)) + length (made (drop i xs)) = ap (λ l. length (made l)) (sym (take-append-drop i xs)) ∙ ap length (joins (take i xs) (drop i xs)) ∙ length-append (made (take i xs)) (made (drop i xs)) in
      omega (arith, whole)

  pub enough : (i wanted : ℕ) (xs : List X) → 0 ≡ wanted - length (made (take i xs)) → 0 ≡ wanted - length (made xs)
  enough i wanted xs done = omega (arith, done, not_longer i xs)

-- services of open periods
module _ {X : Type 0} (row_of : X → ServiceRow) (n : Need) where
  abbrev pub serving : List X → List ServiceRow
  serving xs = filter (meets n) (filter is_registered (map row_of xs))

  pub serving_joined : (xs ys : List X) → serving (xs ++ ys) ≡ serving xs ++ serving ys
  serving_joined xs ys =
      ap (λ l. filter (meets n) (filter is_registered l)) (map-append row_of xs ys) ∙ ap (filter (meets n)) (filter-append is_registered (map row_of xs) (map row_of ys))
      ∙ filter-append (meets n) (filter is_registered (map row_of xs)) (filter is_registered (map row_of ys))

  pub serves_one : (x : X) (r m : Bool) → is_registered (row_of x) ≡ r → meets n (row_of x) ≡ m → serving (x ∷ []) ≡ cond (r && m) (row_of x ∷ []) []
  serves_one x false m e f = ap (λ b. filter (meets n) (cond b (row_of x ∷ []) [])) e
  serves_one x true m e f = ap (λ b. filter (meets n) (cond b (row_of x ∷ []) [])) e ∙ ap (λ b. cond b (row_of x ∷ []) []) f

  pub serving_more : (xs : List X) (i : ℕ) (x : X) → i < length xs → x ≡ get_or xs i x → serving (take (i + 1) xs) ≡ serving (take i xs) ++ serving (x ∷ [])
  serving_more xs i x within is = ap serving (take_more xs i x within) ∙ serving_joined (take i xs) (get_or xs i x ∷ []) ∙ ap (λ y. serving (take i xs) ++ serving (y ∷ [])) (sym is)
