-- Words of the crate's own code.
use Rattle.std.specs.Prelude.{◌≡◌, ℕ, List, [], ◌∷◌, Bool, true, false, Option, Some, None, if◌then◌else◌}
use Rattle.service_registry.specs.Services.{ranks_before}
use Rattle.scr_world.specs.declared.world.World.{World}
use Rattle.scr_world.specs.Worlds.{ranking_of}

abbrev pub first_one : List ℕ → Option ℕ
first_one [] = None
first_one (x ∷ xs) = Some x

-- of the numbers that pass a test none goes before this one, which passes it; there is none where none passes it
abbrev pub IsBestBy : (ℕ → ℕ → Bool) → (ℕ → Bool) → Option ℕ → Type 0
IsBestBy before p None = (y : ℕ) → p y ≡ false
IsBestBy before p (Some m) = (p m ≡ true) × ((y : ℕ) → p y ≡ true → before y m ≡ false)

-- the better of a number and another one, if there is one
abbrev pub better_one : (ℕ → ℕ → Bool) → ℕ → Option ℕ → ℕ
better_one before x None = x
better_one before x (Some m) = if before x m then x else m

-- the order of services by their present or last properties
abbrev pub better_by : World → ℕ → ℕ → Bool
better_by w a b = ranks_before (ranking_of w a) a (ranking_of w b) b
