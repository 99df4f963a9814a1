-- Entries and turns, each with its owner, the number of a pass. Our own.
use Rattle.std.specs.Prelude.{ℕ, ◌+◌, ◌*◌, ◌==◌, List, [], ◌∷◌, ◌++◌, filter, length, map, nat_lt, not, if◌then◌else◌}

module _ {E : Type 0} where
  -- each entry with its owner
  abbrev pub owned : List ℕ → List E → List (ℕ × E)
  owned [] es = []
  owned (o ∷ os) [] = []
  owned (o ∷ os) (e ∷ es) = (o, e) ∷ owned os es

  -- the entries of a history, without their owners
  abbrev pub entries_in : List (ℕ × E) → List E
  entries_in log = map (λ (x : ℕ × E). x.1) log

-- the owners once one more is written down, where there are fewer than so many
abbrev pub owners_up_to : ℕ → ℕ → List ℕ → List ℕ
owners_up_to count owner os = if nat_lt (length os) count then os ++ owner ∷ [] else os

-- ---- turns that have begun: the owner, and the number of the turn

abbrev pub turn_numbers : List (ℕ × ℕ) → List ℕ
turn_numbers turns = map (λ (t : ℕ × ℕ). t.1) turns

-- those that are left once a turn has ended
abbrev pub without_turn : ℕ → List (ℕ × ℕ) → List (ℕ × ℕ)
without_turn turn turns = filter (λ (t : ℕ × ℕ). not (t.1 == turn)) turns

-- a turn as a thing that is kept for a pass: things are numbers, those of turns the even ones
abbrev pub turn_thing : ℕ → ℕ
turn_thing turn = 2 * turn

abbrev pub as_kept : ℕ × ℕ → ℕ × ℕ
as_kept begun = (begun.0, turn_thing begun.1)

-- ---- gets by token: the owner, and the place of the entry

-- those that are left once one was given back
abbrev pub without_use : ℕ → List (ℕ × ℕ) → List (ℕ × ℕ)
without_use place uses = filter (λ (u : ℕ × ℕ). not (u.1 == place)) uses

-- a get by token as a thing that is kept for a pass: the odd ones
abbrev pub use_thing : ℕ → ℕ
use_thing place = 2 * place + 1

abbrev pub as_use : ℕ × ℕ → ℕ × ℕ
as_use got = (got.0, use_thing got.1)
