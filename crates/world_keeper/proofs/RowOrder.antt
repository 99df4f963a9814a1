-- A list in order that is a permutation of a run of numbers is that run.
use Rattle.std.proofs.Common.{◌≡◌, ◌≢◌, ℕ, zero, suc, ◌+◌, ◌<◌, ◌≤◌, ◌==◌, Bool, true, false, cond, if◌then◌else◌, List, [], ◌∷◌, length, map, get_or, eqb, refl, sym, ap, subst, ◌∙◌, arith, eq-eqb, ne_eqb}
use Rattle.std.specs.List.{sum_by, All}
use Rattle.std.specs.List.Sorted.{IsPermutation}
use Rattle.std.proofs.lemmas.List.Sorted.{sum_by-IsPermutation}
use Rattle.std.proofs.lemmas.List.Sums.{sum_by-cons}

-- the numbers from a on, as many as the list has
abbrev pub from : {X : Type 0} → ℕ → List X → List ℕ
from a [] = []
from a (x ∷ xs) = a ∷ from (suc a) xs

abbrev at : ℕ → ℕ → ℕ
at k v = if k == v then 1 else 0

at_same : (k : ℕ) → at k k ≡ 1
at_same k = ap (λ b. cond b 1 0) (eq-eqb k k refl)

at_other : (k v : ℕ) → k ≢ v → at k v ≡ 0
at_other k v apart = ap (λ b. cond b 1 0) (ne_eqb k v apart)

none_before : {X : Type 0} (k a : ℕ) (xs : List X) → k < a → sum_by (at k) (from a xs) ≡ 0
none_before k a [] low = refl
none_before k a (x ∷ xs) low = sum_by-cons (at k) a (from (suc a) xs) ∙ omega (arith, at_other k a (λ e. omega (arith, e, low)), none_before k (suc a) xs (omega (arith, low)))

none_above : (k : ℕ) (ys : List ℕ) → ((i : ℕ) → i < length ys → k < get_or ys i 0) → sum_by (at k) ys ≡ 0
none_above k [] low = refl
none_above k (y ∷ ys) low =
    sum_by-cons (at k) y ys
    ∙ omega (arith, at_other k y (λ e. omega (arith, e, low 0 (omega arith))), none_above k ys (λ i within. low (suc i) (omega (arith, within))))

abbrev Same : List ℕ → List ℕ → Type 0
Same xs ys = (f : ℕ → ℕ) → sum_by f ys ≡ sum_by f xs

abbrev pub Up : List ℕ → Type 0
Up ys = (i j : ℕ) → i ≤ j → j < length ys → get_or ys i 0 ≤ get_or ys j 0

run : {X : Type 0} (a : ℕ) (xs : List X) (ys : List ℕ) → Same (from a xs) ys → Up ys → ys ≡ from a xs
run a [] [] same up = refl
run a [] (y ∷ ys) same up = absurd (omega (arith, same (λ _. 1), sum_by-cons (λ _. 1) y ys))
run a (x ∷ xs) [] same up = absurd (omega (arith, same (λ _. 1), sum_by-cons (λ _. 1) a (from (suc a) xs)))
run a (x ∷ xs) (y ∷ ys) same up =
    let not_below : ¬ (y < a) = λ low. omega (arith, same (at y), sum_by-cons (at y) y ys, at_same y, none_before y a (x ∷ xs) low) in
    let not_above : ¬ (a < y) = λ high.
    omega (arith, same (at a), sum_by-cons (at a) a (from (suc a) xs), at_same a, none_above a (y ∷ ys) (λ i within. omega (arith, high, up 0 i (omega arith) within))) in
    let first : y ≡ a = omega (arith, not_below, not_above) in
    let more = run (suc a) xs ys (λ f. omega (arith, same f, sum_by-cons f y ys, sum_by-cons f a (from (suc a) xs), ap f first))
    (λ i j low within. up (suc i) (suc j) (omega (arith, low)) (omega (arith, within))) in
    rw (first, more)

pub in_order : {X : Type 0} (a : ℕ) (xs : List X) (ys : List ℕ) → IsPermutation (from a xs) ys → Up ys → ys ≡ from a xs
in_order a xs ys moved up = run a xs ys (λ f. sum_by-IsPermutation f (from a xs) ys moved) up
