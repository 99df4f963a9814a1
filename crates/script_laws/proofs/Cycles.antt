-- The cycle that is told of descriptions is one.
use Rattle.std.proofs.Common.{◌≡◌, ℕ, List, [], ◌∷◌, ◌++◌, length, ap, sym, ◌∙◌, refl, subst, true, ◌&&◌, inl, inr, arith}
use Rattle.std.specs.Prelude.{◌==◌, nat_lt}
use Rattle.std.proofs.lemmas.Bool.{and_parts, eqb-true, ltb-true, or_cases}
use Rattle.component_dto.specs.declared.description.Description.{Description}
use Rattle.level_order.specs.Cycles.{IsTold, TellsCycle, is_least, names_at}

-- two lists of one length that are each the least of both
least_once : (xs ys : List ℕ) → length xs ≡ length ys → is_least xs ys ≡ true → is_least ys xs ≡ true → xs ≡ ys
least_once [] [] same a b = refl
least_once [] (y ∷ ys) same a b = absurd (omega arith)
least_once (x ∷ xs) [] same a b = absurd (omega arith)
least_once (x ∷ xs) (y ∷ ys) same a b = elim (or_cases (nat_lt x y) ((x == y) && is_least xs ys) a) [
  | inl below ↦ absurd (elim (or_cases (nat_lt y x) ((y == x) && is_least ys xs) b) [
    | inl above ↦ omega (arith, ltb-true x y below, ltb-true y x above)
    | inr rest ↦ omega (arith, ltb-true x y below, eqb-true y x (and_parts (y == x) (is_least ys xs) rest).0)
  ])
  | inr one ↦ (let first = and_parts (x == y) (is_least xs ys) one in elim (or_cases (nat_lt y x) ((y == x) && is_least ys xs) b) [
    | inl above ↦ absurd (omega (arith, ltb-true y x above, eqb-true x y first.0))
    | inr other ↦ (let rest : length xs ≡ length ys = omega (arith, same) in
        ap (λ n. n ∷ xs) (eqb-true x y first.0) ∙ ap (λ l. y ∷ l) (least_once xs ys rest first.1 (and_parts (y == x) (is_least ys xs) other).1))
  ])
]

-- the told cycle begins at one place
first_once : (ds : List Description) (first start : ℕ) (path way : List ℕ) → IsTold ds first path → IsTold ds start way → first ≡ start
first_once ds first start path way one other = omega (arith, one.first_on_one start (way, other.cycle), other.first_on_one first (path, one.cycle))

-- and goes over the same places
path_once : (ds : List Description) (first : ℕ) (path way : List ℕ) → IsTold ds first path → IsTold ds first way → path ≡ way
path_once ds first path way one other =
    let same : length path ≡ length way = omega (arith, one.shortest way other.cycle, other.shortest path one.cycle) in
    least_once path way same (one.least way other.cycle same) (other.least path one.cycle (sym same))

-- so it is told by the same names
pub cycle_once : (ds : List Description) (names others : List (List ℕ)) → TellsCycle ds names → TellsCycle ds others → names ≡ others
cycle_once ds names others (first, path, one, is) (start, way, other, are) =
    let same = first_once ds first start path way one other in
    let again : IsTold ds first way = subst (λ n. IsTold ds n way) (sym same) other in
    is ∙ ap (λ p. names_at ds (first ∷ p ++ first ∷ [])) (path_once ds first path way one again) ∙ ap (λ n. names_at ds (n ∷ way ++ n ∷ [])) same ∙ sym are
