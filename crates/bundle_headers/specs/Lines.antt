-- The lines of a manifest (the JAR file specification, "JAR manifest": a line ends with CRLF, LF or CR).
use Rattle.std.specs.Prelude.{ℕ, ◌+◌, ◌==◌, ◌&&◌, ◌||◌, nat_lt, Bool, true, false, List, [], ◌∷◌, map, slice_index, if◌then◌else◌}
use Rattle.bundle_headers.specs.declared.line.Line.{Line}

abbrev pub ends_line : ℕ → Bool
ends_line b = (b == 13) || (b == 10)

abbrev pub starts_with_feed : List ℕ → Bool
starts_with_feed [] = false
starts_with_feed (b ∷ bs) = b == 10

abbrev pub plain_line : ℕ → ℕ → ℕ → Line
plain_line number start end = record { number = number; continues = false; start = start; end = end }

-- the end of a line stands here, and its last byte is yet to come
abbrev pub ended_at : ℕ → List Line → List Line
ended_at at [] = []
ended_at at (line ∷ lines) = record line { start = at; end = at } ∷ lines

-- the first line has one byte more
abbrev pub begun_at : ℕ → ℕ → List Line → List Line
begun_at number at [] = plain_line number at (at + 1) ∷ []
begun_at number at (line ∷ lines) = record line { start = at } ∷ lines

-- the lines of what stands from a place on, of which the first has this number
abbrev pub lines_from : ℕ → ℕ → List ℕ → List Line
lines_from number at [] = []
lines_from number at (b ∷ bs) =
    if (b == 13) && starts_with_feed bs then ended_at at (lines_from number (at + 1) bs)
    else (if ends_line b then plain_line number at at ∷ lines_from (number + 1) (at + 1) bs else begun_at number at (lines_from number (at + 1) bs))

abbrev pub is_filled : Line → Bool
is_filled line = nat_lt line.start line.end

-- a line that begins with a blank continues the one before, without that blank
abbrev pub marked : List ℕ → Line → Line
marked bytes line = if slice_index bytes line.start == 32 then record line { continues = true; start = line.start + 1 } else line

abbrev pub up_to_empty : List Line → List Line
up_to_empty [] = []
up_to_empty (line ∷ lines) = if is_filled line then line ∷ up_to_empty lines else []

-- the lines up to the first empty one
abbrev pub section : List ℕ → List Line
section bytes = map (marked bytes) (up_to_empty (lines_from 1 0 bytes))

-- how many bytes stand before the first end of a line
abbrev pub line_length : List ℕ → ℕ
line_length [] = 0
line_length (b ∷ bs) = if ends_line b then 0 else line_length bs + 1

-- how many bytes the end of a line takes with which these begin
abbrev pub end_length : List ℕ → ℕ
end_length [] = 0
end_length (b ∷ bs) = if (b == 13) && starts_with_feed bs then 2 else (if ends_line b then 1 else 0)
