-- What later lengths of the journal do to a call. Our own.
use Rattle.std.specs.Prelude.{◌≡◌, ℕ, List, [], ◌∷◌, ◌++◌}
use Rattle.call_moves.specs.Evaluations.{Calling, Reaching, Runs, Over, Starved}

-- the same call with further fronts to come
abbrev pub with_further : List ℕ → Calling → Calling
with_further more (Runs waiting f nested fronts) = Runs waiting f nested (fronts ++ more)
with_further more (Over nested end fronts) = Over nested end (fronts ++ more)
with_further more Starved = Starved

-- it wants no further front
abbrev pub IsFed : Calling → Type 0
IsFed (Runs waiting f nested fronts) = Unit {0}
IsFed (Over nested end fronts) = Unit {0}
IsFed Starved = ⊥

-- it makes no further move
abbrev pub Rests : Calling → Type 0
Rests (Runs waiting f nested fronts) = ⊥
Rests (Over nested end fronts) = Unit {0}
Rests Starved = Unit {0}

-- it has an end
abbrev pub IsOver : Calling → Type 0
IsOver (Runs waiting f nested fronts) = ⊥
IsOver (Over nested end fronts) = Unit {0}
IsOver Starved = ⊥

-- at each of these fronts nested calls reach the same
abbrev pub Agree : Reaching → Reaching → List ℕ → Type 0
Agree reaches others [] = Unit {0}
Agree reaches others (front ∷ fronts) = (reaches front ≡ others front) × Agree reaches others fronts
