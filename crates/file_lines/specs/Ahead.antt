-- Bytes that were read ahead, and where the line that begins them ends. Our own.
use Rattle.std.specs.Prelude.{◌≡◌, ℕ, ◌+◌, ◌<◌, List, [], ◌∷◌, ◌++◌, length, take, drop, All, Bool, true, false, Option, Some, None, if◌then◌else◌}
use Rattle.std.specs.Io.KnownBytes.{Consumes, IsAtEnd, Keeps, prepend_known}
use Rattle.file_lines.specs.HandedLines.{is_line_feed, longest_line}
use Rattle.file_lines.specs.declared.pending.FillStep.{FillStep}
use Rattle.file_lines.specs.declared.pending.FillStep.TheVariants.{Filled, AtEnd, Failed as NotFilled}
use Rattle.file_lines.specs.declared.ahead.LineEnd.{LineEnd}
use Rattle.file_lines.specs.declared.ahead.LineEnd.TheVariants.{LineFeed, Later, Last, Failed}

-- a source, the bytes that were read of it ahead, and whether its end was seen
pub record ReadAhead (In : Type 0) : Type 0 where
  pub source : In
  pub bytes : List ℕ
  pub is_ended : Bool

-- what the source has left: nothing once its end was seen
abbrev pub not_yet_read : Bool → Option (List ℕ) → Option (List ℕ)
not_yet_read is_ended left = if is_ended then Some [] else left

-- the bytes to come: those read ahead, and what the source has left
abbrev pub to_come : Bool → List ℕ → Option (List ℕ) → Option (List ℕ)
to_come is_ended ahead left = prepend_known ahead (not_yet_read is_ended left)

-- the same of a source with what was read ahead, by what the source has left
abbrev pub coming : {In : Type 0} → (In → Option (List ℕ)) → ReadAhead In → Option (List ℕ)
coming left ahead = to_come ahead.is_ended ahead.bytes (left ahead.source)

-- what a read adds behind the bytes that are pending
abbrev pub Fills : Option (List ℕ) → Option (List ℕ) → ℕ → ℕ → List ℕ → List ℕ → FillStep → Type 0
Fills left left' number number' pending pending' Filled =
    ((piece : List ℕ) × Consumes left left' piece × (pending' ≡ pending ++ piece)) × (number' < number)
Fills left left' number number' pending pending' AtEnd = IsAtEnd left × Keeps left left' × (pending' ≡ pending) × (number' ≡ number)
Fills left left' number number' pending pending' NotFilled = Keeps left left' × (pending' ≡ pending)

abbrev pub NoLineFeed : List ℕ → Type 0
NoLineFeed bytes = All (λ b. is_line_feed b ≡ false) bytes

-- the place of the first line feed, if there is one
abbrev pub FirstLineFeed : List ℕ → Option ℕ → Type 0
FirstLineFeed bytes None = NoLineFeed bytes
FirstLineFeed bytes (Some at) = (at < length bytes) × NoLineFeed (take at bytes) × (bytes ≡ take at bytes ++ 10 ∷ drop (at + 1) bytes)

-- how many bytes without a line feed are held: none behind a front of their line that was handed on, else those of a line
abbrev pub most_held : Bool → ℕ
most_held is_within = if is_within then 0 else longest_line

-- where the line ends that these bytes begin or go on with, when more than so many of them aren't held
abbrev pub EndsLine : ℕ → List ℕ → Bool → LineEnd → Type 0
EndsLine most bytes is_ended (LineFeed at) = FirstLineFeed bytes (Some at)
EndsLine most bytes is_ended Later = NoLineFeed bytes × (most < length bytes)
EndsLine most bytes is_ended Last = NoLineFeed bytes × (is_ended ≡ true)
EndsLine most bytes is_ended Failed = Unit {0}
