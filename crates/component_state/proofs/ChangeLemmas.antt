-- Items that are changed in place, one after the other.
use Rattle.std.proofs.Common.{◌≡◌, ◌<◌, ◌≤◌, ℕ, suc, ◌+◌, List, [], ◌∷◌, ◌++◌, ap, sym, ◌∙◌, refl, arith, length, take, drop, get_or, drop-cons, add-one, Bool, ◌||◌}
use Rattle.std.specs.Prelude.{map, ◌==◌}
use Rattle.std.proofs.Math.ListN.{set}
use Rattle.std.proofs.lemmas.List.{drop-set-lt, take_more_set}
use Rattle.component_state.specs.declared.open_period.OpenPeriod.{OpenPeriod}
use Rattle.component_state.specs.Inside.OpenMarks.{marked_now}

append_one : {X : Type 0} (xs : List X) (x : X) (ys : List X) → (xs ++ x ∷ []) ++ ys ≡ xs ++ x ∷ ys
append_one [] x ys = refl
append_one (z ∷ zs) x ys = ap (λ w. z ∷ w) (append_one zs x ys)

-- an item is changed, and those before it were
pub changed_next : {X : Type 0} (f : X → X) (ys : List X) (k : ℕ) (x : X) → k < length ys → x ≡ get_or ys k x
    → take (k + 1) (set ys k (f x)) ++ map f (drop (k + 1) (set ys k (f x))) ≡ take k ys ++ map f (drop k ys)
changed_next f ys k x low is =
    ap (λ w. w ++ map f (drop (k + 1) (set ys k (f x)))) (take_more_set ys k (f x) low)
    ∙ ap (λ w. (take k ys ++ f x ∷ []) ++ map f w) (drop-set-lt (k + 1) ys k (f x) (omega arith))
    ∙ append_one (take k ys) (f x) (map f (drop (k + 1) ys))
    ∙ ap (λ n. take k ys ++ f x ∷ map f (drop n ys)) (add-one k)
    ∙ ap (λ (y : _). take k ys ++ f y ∷ map f (drop (suc k) ys)) is
    ∙ ap (λ w. take k ys ++ map f w) (sym (drop-cons ys k x low))

-- a mark is set where its period is that of the component configuration
pub marked_next : (c : ℕ) (ps : List OpenPeriod) (ms : List Bool) (k : ℕ) (p : OpenPeriod) (m : Bool) → k < length ps → k < length ms → p ≡ get_or ps k p → m ≡ get_or ms k m
    → take (k + 1) (set ms k (m || (p.configuration == c))) ++ marked_now c (drop (k + 1) ps) (drop (k + 1) (set ms k (m || (p.configuration == c)))) ≡ take k ms ++ marked_now c (drop k ps) (drop k ms)
marked_next c ps ms k p m low short is at =
    ap (λ w. w ++ marked_now c (drop (k + 1) ps) (drop (k + 1) (set ms k (m || (p.configuration == c))))) (take_more_set ms k (m || (p.configuration == c)) short)
    ∙ ap (λ w. (take k ms ++ (m || (p.configuration == c)) ∷ []) ++ marked_now c (drop (k + 1) ps) w) (drop-set-lt (k + 1) ms k (m || (p.configuration == c)) (omega arith))
    ∙ append_one (take k ms) (m || (p.configuration == c)) (marked_now c (drop (k + 1) ps) (drop (k + 1) ms))
    ∙ ap (λ n. take k ms ++ (m || (p.configuration == c)) ∷ marked_now c (drop n ps) (drop n ms)) (add-one k)
    ∙ ap (λ b. take k ms ++ (b || (p.configuration == c)) ∷ marked_now c (drop (suc k) ps) (drop (suc k) ms)) at
    ∙ ap (λ (q : OpenPeriod). take k ms ++ (get_or ms k m || (q.configuration == c)) ∷ marked_now c (drop (suc k) ps) (drop (suc k) ms)) is
    ∙ sym (ap (λ w. take k ms ++ marked_now c w (drop k ms)) (drop-cons ps k p low) ∙ ap (λ w. take k ms ++ marked_now c (get_or ps k p ∷ drop (suc k) ps) w) (drop-cons ms k m short))
