-- That the places of a description's uses are those that it consumes, in rising order.
use Rattle.std.proofs.Common.{◌≡◌, ◌<◌, ◌≤◌, ℕ, zero, suc, ◌+◌, List, [], ◌∷◌, length, get_or, ap, ◌∙◌, refl, Bool, true, false, cond, ◌&&◌, arith, Option, Some, None, inl, inr}
use Rattle.std.specs.Prelude.{map, ◌==◌}
use Rattle.std.specs.List.{slice_get}
use Rattle.std.specs.Option.{option_map_or}
use Rattle.std.proofs.lemmas.Bool.{ne_eqb, eq-eqb, eqb-true, or_cases, false≢true}
use Rattle.component_dto.specs.declared.description.Description.{Description}
use Rattle.level_order.specs.Levels.{consumes}
use Rattle.level_order.specs.Cycles.{consumes_at, leads}
use Rattle.level_order.specs.Uses.{uses_from, uses_of, all_uses}
use Rattle.level_order.specs.Ways.{has, leads_by}

-- no place below the first one
has_below : (d : Description) (es : List Description) (at j : ℕ) → j < at → has (uses_from at d es) j ≡ false
has_below d [] at j below = refl
has_below d (e ∷ es) at j below =
    let rest : has (uses_from (at + 1) d es) j ≡ false = has_below d es (at + 1) j (omega arith) in
    elim (consumes d e) as (λ b. has (cond b (at ∷ uses_from (at + 1) d es) (uses_from (at + 1) d es)) j ≡ false) [
      | true ↦ rw (ne_eqb at j (λ same. omega (arith, same, below)), rest) refl
      | false ↦ rest
    ]

has_from : (d : Description) (es : List Description) (at m : ℕ) → has (uses_from at d es) (at + m) ≡ option_map_or (λ e. consumes d e) (slice_get es m) false
has_from d [] at m = refl
has_from d (e ∷ es) at zero =
    let rest : has (uses_from (at + 1) d es) (at + 0) ≡ false = has_below d es (at + 1) (at + 0) (omega arith) in
    elim (consumes d e) as (λ b. has (cond b (at ∷ uses_from (at + 1) d es) (uses_from (at + 1) d es)) (at + 0) ≡ b) [
      | true ↦ rw (eq-eqb at (at + 0) (omega arith)) refl
      | false ↦ rest
    ]
has_from d (e ∷ es) at (suc m) =
    let next : at + suc m ≡ (at + 1) + m = omega arith in
    let rest : has (uses_from (at + 1) d es) (at + suc m) ≡ option_map_or (λ e. consumes d e) (slice_get es m) false = rw next (has_from d es (at + 1) m) in
    elim (consumes d e) as (λ b. has (cond b (at ∷ uses_from (at + 1) d es) (uses_from (at + 1) d es)) (at + suc m) ≡ option_map_or (λ e. consumes d e) (slice_get es m) false) [
      | true ↦ rw (ne_eqb at (at + suc m) (λ same. omega (arith, same))) rest
      | false ↦ rest
    ]

pub has_uses : (d : Description) (ds : List Description) (j : ℕ) → has (uses_of d ds) j ≡ option_map_or (λ e. consumes d e) (slice_get ds j) false
has_uses d ds j = let start : 0 + j ≡ j = omega arith in rw start at (has_from d ds 0 j)

consumed : (ds es : List Description) (i j : ℕ) → has (get_or (map (λ d. uses_of d ds) es) i []) j ≡ option_map_or (λ d. option_map_or (λ e. consumes d e) (slice_get ds j) false) (slice_get es i) false
consumed ds [] i j = refl
consumed ds (e ∷ es) zero j = has_uses e ds j
consumed ds (e ∷ es) (suc i) j = consumed ds es i j

-- a place is among the uses of another exactly where the description there is consumed
pub has_all_uses : (ds : List Description) (i j : ℕ) → has (get_or (all_uses ds) i []) j ≡ consumes_at ds i j
has_all_uses ds i j = consumed ds ds i j

pub leads_all_uses : (ds : List Description) (from : ℕ) (path : List ℕ) (to : ℕ) → leads_by (all_uses ds) from path to ≡ leads ds from path to
leads_all_uses ds from [] to = has_all_uses ds from to
leads_all_uses ds from (next ∷ path) to = ap (λ b. b && leads_by (all_uses ds) next path to) (has_all_uses ds from next) ∙ ap (λ b. consumes_at ds from next && b) (leads_all_uses ds next path to)

-- ---- rising lists

-- each place is at least this one, and the next ones are higher still
abbrev pub Rising : ℕ → List ℕ → Type 0
Rising low [] = Unit {0}
Rising low (place ∷ places) = (low ≤ place) × Rising (place + 1) places

rising_lower : (low high : ℕ) (places : List ℕ) → low ≤ high → Rising high places → Rising low places
rising_lower low high [] below rising = tt
rising_lower low high (p ∷ ps) below rising = (omega (arith, rising.0, below), rising.1)

rising_from : (d : Description) (es : List Description) (at : ℕ) → Rising at (uses_from at d es)
rising_from d [] at = tt
rising_from d (e ∷ es) at =
    let rest = rising_from d es (at + 1) in
    elim (consumes d e) as (λ b. Rising at (cond b (at ∷ uses_from (at + 1) d es) (uses_from (at + 1) d es))) [
      | true ↦ (omega arith, rest)
      | false ↦ rising_lower at (at + 1) (uses_from (at + 1) d es) (omega arith) rest
    ]

rising_uses : (ds es : List Description) (i : ℕ) → Rising 0 (get_or (map (λ d. uses_of d ds) es) i [])
rising_uses ds [] i = tt
rising_uses ds (e ∷ es) zero = rising_from e ds 0
rising_uses ds (e ∷ es) (suc i) = rising_uses ds es i

pub rising_all_uses : (ds : List Description) (i : ℕ) → Rising 0 (get_or (all_uses ds) i [])
rising_all_uses ds i = rising_uses ds ds i

pub rising_has : (low : ℕ) (places : List ℕ) (p : ℕ) → Rising low places → has places p ≡ true → low ≤ p
rising_has low [] p rising found = absurd (false≢true found)
rising_has low (x ∷ xs) p rising found = elim (or_cases (x == p) (has xs p) found) [
  | inl here ↦ omega (arith, eqb-true x p here, rising.0)
  | inr there ↦ omega (arith, rising_has (x + 1) xs p rising.1 there, rising.0)
]

-- ---- places are within the list

pub within_list : (ds : List Description) (f : Description → Bool) (j : ℕ) → option_map_or f (slice_get ds j) false ≡ true → j < length ds
within_list [] f j found = absurd (false≢true found)
within_list (d ∷ ds) f zero found = omega arith
within_list (d ∷ ds) f (suc j) found = omega (arith, within_list ds f j found)

within_some : (ds : List Description) (o : Option Description) (j : ℕ) → option_map_or (λ d. option_map_or (λ e. consumes d e) (slice_get ds j) false) o false ≡ true → j < length ds
within_some ds None j found = absurd (false≢true found)
within_some ds (Some d) j found = within_list ds (λ e. consumes d e) j found

pub consumes_at_within : (ds : List Description) (i j : ℕ) → consumes_at ds i j ≡ true → j < length ds
consumes_at_within ds i j found = within_some ds (slice_get ds i) j found
