-- Levels as the least numbers that stand above what is consumed. Our own words.
use Rattle.std.specs.Prelude.{ℕ, ◌<◌, ◌≤◌, List, get_or, IsTrue}
use Rattle.component_dto.specs.declared.description.Description.{Description}
use Rattle.level_order.specs.Cycles.{consumes_at}

-- the number of each description is higher than those of the descriptions that it consumes
abbrev pub StandAbove : List Description → List ℕ → Type 0
StandAbove ds numbers = (i j : ℕ) → IsTrue (consumes_at ds i j) → get_or numbers j 0 < get_or numbers i 0

-- the least such numbers
pub record AreLeast (ds : List Description) (levels : List ℕ) : Type 0 where
  pub above : StandAbove ds levels
  pub least : (numbers : List ℕ) → StandAbove ds numbers → (i : ℕ) → get_or levels i 0 ≤ get_or numbers i 0
