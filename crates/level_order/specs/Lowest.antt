-- The lowest of the places from which a shortest way passes so many others. Our own words.
use Rattle.std.specs.Prelude.{ℕ, min, List, [], ◌∷◌, get_or, Option, Some, None, if◌then◌else◌}
use Rattle.level_order.specs.Ways.{is_at}

abbrev pub lower : Option ℕ → Option ℕ → Option ℕ
lower None other = other
lower (Some one) None = Some one
lower (Some one) (Some other) = Some (min one other)

abbrev pub lowest_in : List (Option ℕ) → ℕ → List ℕ → Option ℕ
lowest_in steps left [] = None
lowest_in steps left (p ∷ places) = if is_at (get_or steps p None) left then lower (Some p) (lowest_in steps left places) else lowest_in steps left places

-- among all to which these places lead
abbrev pub lowest_over : List (List ℕ) → List (Option ℕ) → ℕ → List ℕ → Option ℕ
lowest_over onward steps left [] = None
lowest_over onward steps left (x ∷ interfaces) = lower (lowest_in steps left (get_or onward x [])) (lowest_over onward steps left interfaces)
