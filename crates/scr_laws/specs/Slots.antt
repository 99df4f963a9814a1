-- The slots of living instances. Our own.
use Rattle.std.specs.Prelude.{◌≡◌, ◌<◌, ℕ, List, map, true}
use Rattle.std.specs.List.{Contains}
use Rattle.component_state.specs.Inside.Ready.{are_apart}
use Rattle.scr_world.specs.declared.instance.Instance.{Instance}

-- no living instance has a slot
abbrev pub IsFree : List Instance → ℕ → Type 0
IsFree is slot = (i : Instance) → Contains is i → i.slot ≡ slot → ⊥

-- a living instance has it
abbrev pub IsTaken : List Instance → ℕ → Type 0
IsTaken is slot = (i : Instance) × Contains is i × (i.slot ≡ slot)

-- the lowest slot that no living instance has
abbrev pub IsLowestFree : List Instance → ℕ → Type 0
IsLowestFree is slot = IsFree is slot × ((lower : ℕ) → lower < slot → IsTaken is lower)

-- an instance was there before, with its number and its slot
abbrev pub WasThere : List Instance → Instance → Type 0
WasThere before i = (j : Instance) × Contains before j × (j.number ≡ i.number) × (j.slot ≡ i.slot)

-- each instance has a slot of its own
abbrev pub HaveOwnSlots : List Instance → Type 0
HaveOwnSlots is = are_apart (map (λ (i : Instance). i.slot) is) ≡ true
