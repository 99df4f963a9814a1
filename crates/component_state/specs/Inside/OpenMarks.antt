-- Marks that stand beside open periods. For code and proofs; our own.
use Rattle.std.specs.Prelude.{ℕ, ◌==◌, ◌||◌, List, [], ◌∷◌, Bool, if◌then◌else◌}
use Rattle.component_state.specs.declared.open_period.OpenPeriod.{OpenPeriod}

-- the numbers whose marks are set
abbrev pub marked : List ℕ → List Bool → List ℕ
marked [] marks = []
marked (n ∷ ns) [] = []
marked (n ∷ ns) (m ∷ ms) = if m then n ∷ marked ns ms else marked ns ms

-- the mark of a component configuration is set besides
abbrev pub marked_now : ℕ → List OpenPeriod → List Bool → List Bool
marked_now configuration [] marks = marks
marked_now configuration (p ∷ ps) [] = []
marked_now configuration (p ∷ ps) (m ∷ ms) = (m || (p.configuration == configuration)) ∷ marked_now configuration ps ms
