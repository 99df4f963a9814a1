-- That levels are the least numbers that stand above what is consumed.
use Rattle.std.proofs.Common.{◌≡◌, ◌<◌, ◌≤◌, ℕ, zero, suc, ◌+◌, List, [], ◌∷◌, length, get_or, ap, sym, ◌∙◌, refl, true, arith, inl, inr}
use Rattle.std.specs.Prelude.{◌==◌}
use Rattle.std.proofs.Math.ListN.{get_or-map}
use Rattle.std.proofs.lemmas.Bool.{cases_lt, eqb-true, eq-eqb, or_cases, false≢true}
use Rattle.std.proofs.lemmas.List.{length-map}
use Rattle.component_dto.specs.declared.description.Description.{Description}
use Rattle.level_order.specs.Levels.{AreLevels, level_from}
use Rattle.level_order.specs.LeastLevels.{StandAbove, AreLeast}
use Rattle.level_order.specs.Uses.{all_uses, level_above}
use Rattle.level_order.specs.Ways.{has}
use Rattle.level_order.proofs.PlaceLemmas.{has_all_uses}
use Rattle.level_order.proofs.StepLemmas.{or_first, or_later}
use Rattle.level_order.proofs.UsesLemmas.{levels_above_uses}

pub above_has : (places levels : List ℕ) (p : ℕ) → has places p ≡ true → get_or levels p 0 < level_above places levels
above_has [] levels p among = absurd (false≢true among)
above_has (x ∷ xs) levels p among = elim (or_cases (x == p) (has xs p) among) [
  | inl here ↦ omega (arith, ap (λ w. get_or levels w 0) (eqb-true x p here))
  | inr there ↦ omega (arith, above_has xs levels p there)
]

-- a level above 0 is 1 more than that of some place
pub attained : (places levels : List ℕ) → 0 < level_above places levels → (p : ℕ) × (has places p ≡ true) × (level_above places levels ≡ get_or levels p 0 + 1)
attained [] levels some = absurd (omega arith)
attained (x ∷ xs) levels some = elim (cases_lt (get_or levels x 0 + 1) (level_above xs levels)) [
  | inl above ↦ (let later = attained xs levels (omega (arith, above)) in (later.0, or_later (x == later.0) (has xs later.0) later.1, omega (arith, later.2, above)))
  | inr below ↦ (x, or_first (x == x) (has xs x) (eq-eqb x x refl), omega (arith, below))
]

pub level_is : (ds : List Description) (levels : List ℕ) → AreLevels ds levels → (i : ℕ) → get_or levels i 0 ≡ level_above (get_or (all_uses ds) i []) levels
level_is ds levels are i =
    let same : length ds ≡ length levels = sym (ap length are ∙ length-map ds (λ d. level_from d ds levels)) in
    ap (λ w. get_or w i 0) (are ∙ sym (levels_above_uses ds ds levels same)) ∙ get_or-map (λ places. level_above places levels) (all_uses ds) i []

at_least : (ds : List Description) (levels : List ℕ) → AreLevels ds levels → (numbers : List ℕ) → StandAbove ds numbers → (v i : ℕ) → get_or levels i 0 ≡ v → v ≤ get_or numbers i 0
at_least ds levels are numbers stand zero i is = omega arith
at_least ds levels are numbers stand (suc v) i is =
    let level = level_is ds levels are i in
    let below = attained (get_or (all_uses ds) i []) levels (omega (arith, level, is)) in
    let rest : v ≤ get_or numbers below.0 0 = at_least ds levels are numbers stand v below.0 (omega (arith, level, is, below.2)) in
    omega (arith, rest, stand i below.0 (sym (has_all_uses ds i below.0) ∙ below.1))

pub levels_least : (ds : List Description) (levels : List ℕ) → AreLevels ds levels → AreLeast ds levels
levels_least ds levels are = record {
  above = λ i j consumed. omega (arith, level_is ds levels are i, above_has (get_or (all_uses ds) i []) levels j (has_all_uses ds i j ∙ consumed));
  least = λ numbers stand i. at_least ds levels are numbers stand (get_or levels i 0) i refl;
}
