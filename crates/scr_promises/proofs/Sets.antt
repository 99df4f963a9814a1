-- Lists of numbers that are the same as sets.
use Rattle.std.proofs.Common.{◌≡◌, ℕ, List, ap, sym, ◌∙◌, refl, true}
use Rattle.std.specs.Prelude.{◌==◌}
use Rattle.std.specs.List.{Contains, list_all}
use Rattle.std.proofs.lemmas.Bool.{and_from, and_parts, eq-eqb, eqb-true}
use Rattle.component_state.proofs.Apart.{any_found, any_from, either_way}
use Rattle.prop_map.specs.Words.{has, same_set}
use Rattle.scr_promises.proofs.Waits.{all_from, all_to}

pub in_has : (xs : List ℕ) (s : ℕ) → Contains xs s → has xs s ≡ true
in_has xs s h = any_from (λ n. n == s) xs s h (eq-eqb s s refl)

pub set_same : (xs ys : List ℕ) → ((s : ℕ) → has xs s ≡ has ys s) → same_set xs ys ≡ true
set_same xs ys each = and_from (list_all (has ys) xs) (list_all (has xs) ys)
    (all_from (has ys) xs (λ s h. sym (each s) ∙ in_has xs s h)) (all_from (has xs) ys (λ s h. each s ∙ in_has ys s h))

has_to : (xs ys : List ℕ) → list_all (has ys) xs ≡ true → (s : ℕ) → has xs s ≡ true → has ys s ≡ true
has_to xs ys all s on =
    let n = any_found (λ m. m == s) xs on in
    ap (has ys) (sym (eqb-true n.0 s n.2)) ∙ all_to (has ys) xs all n.0 n.1

pub set_to : (xs ys : List ℕ) → same_set xs ys ≡ true → (s : ℕ) → has xs s ≡ has ys s
set_to xs ys same s =
    let both = and_parts (list_all (has ys) xs) (list_all (has xs) ys) same in
    either_way (has xs s) (has ys s) (has_to xs ys both.0 s) (has_to ys xs both.1 s)
