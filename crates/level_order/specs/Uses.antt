-- Levels by the places of what each description consumes.
use Rattle.std.specs.Prelude.{ℕ, ◌+◌, max, List, [], ◌∷◌, map, get_or, if◌then◌else◌}
use Rattle.component_dto.specs.declared.description.Description.{Description}
use Rattle.level_order.specs.Levels.{consumes}

-- the places of those that d consumes, the first of the list having this place
abbrev pub uses_from : ℕ → Description → List Description → List ℕ
uses_from at d [] = []
uses_from at d (e ∷ es) = if consumes d e then at ∷ uses_from (at + 1) d es else uses_from (at + 1) d es

abbrev pub uses_of : Description → List Description → List ℕ
uses_of d ds = uses_from 0 d ds

abbrev pub all_uses : List Description → List (List ℕ)
all_uses ds = map (λ d. uses_of d ds) ds

-- 1 more than the highest level at these places, 0 without any
abbrev pub level_above : List ℕ → List ℕ → ℕ
level_above [] levels = 0
level_above (place ∷ places) levels = max (get_or levels place 0 + 1) (level_above places levels)

abbrev pub levels_above : List (List ℕ) → List ℕ → List ℕ
levels_above uses levels = map (λ places. level_above places levels) uses
