-- The lines of an input. Our own form.
use Rattle.std.specs.Prelude.{ℕ, ◌==◌, List, [], ◌∷◌, length, Bool, nat_lt}
use Rattle.std.specs.List.{slice_split}
use Rattle.std.specs.Str.Lines.{strip_carriage_return}

-- a line, and how many bytes stand before its end, a carriage return before the line feed among them
pub record Line : Type 0 where
  pub text : List ℕ
  pub size : ℕ

-- what stands behind the last line feed is a line where it isn't empty
abbrev pub last_line : List ℕ → List Line
last_line [] = []
last_line (b ∷ bs) = record { text = b ∷ bs; size = length (b ∷ bs) } ∷ []

-- the parts between line feeds: one carriage return before a line feed is dropped
abbrev pub lines_of_parts : List (List ℕ) → List Line
lines_of_parts [] = []
lines_of_parts (part ∷ []) = last_line part
lines_of_parts (part ∷ next ∷ parts) = record { text = strip_carriage_return part; size = length part } ∷ lines_of_parts (next ∷ parts)

abbrev pub is_line_feed : ℕ → Bool
is_line_feed b = b == 10

abbrev pub lines_of : List ℕ → List Line
lines_of bytes = lines_of_parts (slice_split is_line_feed bytes)

-- the most bytes that a line may have before its end
abbrev pub longest_line : ℕ
longest_line = 1048576

abbrev pub is_too_long : Line → Bool
is_too_long line = nat_lt longest_line line.size
