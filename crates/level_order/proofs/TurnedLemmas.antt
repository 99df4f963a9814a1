-- Lists of numbers that are turned round, place by place.
use Rattle.std.proofs.Common.{◌≡◌, ◌<◌, ◌≤◌, ℕ, zero, suc, ◌+◌, ◌-◌, List, [], ◌∷◌, ◌++◌, length, get_or, take, ap, sym, ◌∙◌, refl, Bool, true, false, ◌||◌, ◌&&◌, arith, inl, inr, ◌⊎◌}
use Rattle.std.specs.Prelude.{◌==◌, nat_lt}
use Rattle.std.specs.Cmp.{both_ways}
use Rattle.std.proofs.lemmas.Bool.{cases_lt, eq-eqb, eqb-true, false≢true, lt-ltb, le-ltb}
use Rattle.std.proofs.lemmas.List.{get_or_past}
use Rattle.std.proofs.lemmas.List.Folds.{list_any_more}
use Rattle.level_order.specs.Ways.{has}
use Rattle.level_order.proofs.SpreadLemmas.{apart, apart_or_same}

more : (a b c : Bool) → ((a || (b && c)) || b) ≡ (a || (b && (c || true)))
more true b c = refl
more false true true = refl
more false true false = refl
more false false c = refl

no_more : (a b c : Bool) → (a || (b && c)) ≡ (a || (b && (c || false)))
no_more true b c = refl
no_more false true true = refl
no_more false true false = refl
no_more false false c = refl

has_more : (numbers : List ℕ) (i n : ℕ) → i < length numbers → has (take (i + 1) numbers) n ≡ (has (take i numbers) n || (get_or numbers i 0 == n))
has_more numbers i n within = list_any_more (λ m. m == n) numbers i 0 within

-- what the loop keeps
abbrev pub Added : List (List ℕ) → List (List ℕ) → ℕ → ℕ → List ℕ → ℕ → Type 0
Added old new first place numbers i = (k p : ℕ) → k < length old → has (get_or new k []) p ≡ (has (get_or old k []) p || ((place == p) && has (take i numbers) (first + k)))

-- a number of one of the lists
pub added_one : (old now new : List (List ℕ)) (first place : ℕ) (numbers : List ℕ) (i at : ℕ) → i < length numbers → first + at ≡ get_or numbers i 0 → Added old now first place numbers i
    → ((p : ℕ) → has (get_or new at []) p ≡ (has (get_or now at []) p || (place == p))) → ((k : ℕ) → (k ≡ at → ⊥) → get_or new k [] ≡ get_or now k []) → Added old new first place numbers (i + 1)
added_one old now new first place numbers i at within is so_far there elsewhere k p below = elim (apart_or_same at k) [
  | inl here ↦ (
      ap (λ w. has (get_or new w []) p) (sym here) ∙ there p ∙ ap (λ w. has (get_or now w []) p || (place == p)) here
      ∙ ap (λ b. b || (place == p)) (so_far k p below) ∙ more (has (get_or old k []) p) (place == p) (has (take i numbers) (first + k))
      ∙ ap (λ b. has (get_or old k []) p || ((place == p) && (has (take i numbers) (first + k) || b))) (sym (eq-eqb (get_or numbers i 0) (first + k) (omega (arith, is, here))))
      ∙ ap (λ b. has (get_or old k []) p || ((place == p) && b)) (sym (has_more numbers i (first + k) within)))
  | inr other ↦ (
      ap (λ w. has w p) (elsewhere k (λ same. other (sym same)))
      ∙ so_far k p below ∙ no_more (has (get_or old k []) p) (place == p) (has (take i numbers) (first + k))
      ∙ ap (λ b. has (get_or old k []) p || ((place == p) && (has (take i numbers) (first + k) || b))) (sym (apart (get_or numbers i 0) (first + k) (λ same. other (omega (arith, is, same)))))
      ∙ ap (λ b. has (get_or old k []) p || ((place == p) && b)) (sym (has_more numbers i (first + k) within)))
]

-- a number of none of them
pub added_none : (old now : List (List ℕ)) (first place : ℕ) (numbers : List ℕ) (i : ℕ) → i < length numbers → ((k : ℕ) → k < length old → get_or numbers i 0 ≡ first + k → ⊥) → Added old now first place numbers i → Added old now first place numbers (i + 1)
added_none old now first place numbers i within none so_far k p below =
    so_far k p below ∙ no_more (has (get_or old k []) p) (place == p) (has (take i numbers) (first + k))
    ∙ ap (λ b. has (get_or old k []) p || ((place == p) && (has (take i numbers) (first + k) || b))) (sym (apart (get_or numbers i 0) (first + k) (none k below)))
    ∙ ap (λ b. has (get_or old k []) p || ((place == p) && b)) (sym (has_more numbers i (first + k) within))

-- ---- all lists

-- the lists before a place are turned
abbrev pub Turned : List (List ℕ) → List (List ℕ) → ℕ → ℕ → ℕ → Type 0
Turned lists turned first count place = (k p : ℕ) → k < count → has (get_or turned k []) p ≡ (nat_lt p place && has (get_or lists p []) (first + k))

pub turned_more : (lists now new : List (List ℕ)) (first count place : ℕ) → Turned lists now first count place
    → ((k p : ℕ) → k < count → has (get_or new k []) p ≡ (has (get_or now k []) p || ((place == p) && has (get_or lists place []) (first + k)))) → Turned lists new first count (place + 1)
turned_more lists now new first count place so_far added k p below =
    added k p below ∙ ap (λ b. b || ((place == p) && has (get_or lists place []) (first + k))) (so_far k p below) ∙ elim (cases_lt p place) [
      | inl before ↦ (
          ap (λ b. (b && has (get_or lists p []) (first + k)) || ((place == p) && has (get_or lists place []) (first + k))) (lt-ltb p place before)
          ∙ ap (λ b. has (get_or lists p []) (first + k) || (b && has (get_or lists place []) (first + k))) (apart place p (λ same. omega (arith, same, before)))
          ∙ or_false (has (get_or lists p []) (first + k))
          ∙ sym (ap (λ b. b && has (get_or lists p []) (first + k)) (lt-ltb p (place + 1) (omega (arith, before)))))
      | inr from ↦ elim (cases_lt place p) [
        | inl above ↦ (
            ap (λ b. (b && has (get_or lists p []) (first + k)) || ((place == p) && has (get_or lists place []) (first + k))) (le-ltb p place from)
            ∙ ap (λ b. b && has (get_or lists place []) (first + k)) (apart place p (λ same. omega (arith, same, above)))
            ∙ sym (ap (λ b. b && has (get_or lists p []) (first + k)) (le-ltb p (place + 1) (omega (arith, above)))))
        | inr upto ↦ (
            ap (λ b. (b && has (get_or lists p []) (first + k)) || ((place == p) && has (get_or lists place []) (first + k))) (le-ltb p place from)
            ∙ ap (λ b. b && has (get_or lists place []) (first + k)) (eq-eqb place p (omega (arith, from, upto)))
            ∙ ap (λ w. has (get_or lists w []) (first + k)) (omega (arith, from, upto))
            ∙ sym (ap (λ b. b && has (get_or lists p []) (first + k)) (lt-ltb p (place + 1) (omega (arith, upto)))))
      ]
    ] where
      or_false : (b : Bool) → (b || false) ≡ b
      or_false true = refl
      or_false false = refl

pub turned_all : (lists turned : List (List ℕ)) (first count place : ℕ) → length lists ≤ place → Turned lists turned first count place → (k p : ℕ) → k < count → has (get_or turned k []) p ≡ has (get_or lists p []) (first + k)
turned_all lists turned first count place past all k p below = all k p below ∙ elim (cases_lt p place) [
  | inl before ↦ ap (λ b. b && has (get_or lists p []) (first + k)) (lt-ltb p place before)
  | inr from ↦ (ap (λ b. b && has (get_or lists p []) (first + k)) (le-ltb p place from) ∙ sym (ap (λ w. has w (first + k)) (get_or_past lists p [] (omega (arith, past, from)))))
]

-- at the start all are empty
pub turned_none : (lists turned : List (List ℕ)) (first count : ℕ) → ((k : ℕ) → get_or turned k [] ≡ []) → Turned lists turned first count 0
turned_none lists turned first count empty k p below = ap (λ w. has w p) (empty k) ∙ sym (ap (λ b. b && has (get_or lists p []) (first + k)) (le-ltb p 0 (omega arith)))

pub empty_more : (xs : List (List ℕ)) → ((k : ℕ) → get_or xs k [] ≡ []) → (k : ℕ) → get_or (xs ++ [] ∷ []) k [] ≡ []
empty_more [] empty zero = refl
empty_more [] empty (suc k) = refl
empty_more (x ∷ xs) empty zero = empty 0
empty_more (x ∷ xs) empty (suc k) = empty_more xs (λ n. empty (suc n)) k
