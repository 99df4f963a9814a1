-- What lines are handed on as. Our own.
use Rattle.std.specs.Prelude.{ℕ, ◌+◌, ◌-◌, ◌==◌, ◌||◌, nat_lt, List, [], ◌∷◌, ◌++◌, length, take, map, Bool, Option, None, if◌then◌else◌}
use Rattle.std.specs.List.{join_with_byte, slice_split}
use Rattle.std.specs.Option.{option_and_then, unwrap_or}
use Rattle.std.specs.Str.{is_utf8}
use Rattle.std.specs.Str.Lines.{strip_carriage_return}
use Rattle.file_lines.specs.Files.{Shelf, at_most}
use Rattle.file_lines.specs.NamedFiles.{path_of}

-- the most bytes that a line may have before its end
abbrev pub longest_line : ℕ
longest_line = 1048576

abbrev pub is_line_feed : ℕ → Bool
is_line_feed b = b == 10

-- each carriage return and each line feed of a file stands in a line as a blank
abbrev pub blanked : ℕ → ℕ
blanked b = if b == 13 || b == 10 then 32 else b

-- a line that ends with `@PATH`, with these bytes in its place
abbrev pub with_bytes : List ℕ → List ℕ → List ℕ → List ℕ
with_bytes line path bytes = take (length line - (length path + 1)) line ++ map blanked bytes

-- the path that a line names, where the line is UTF-8
abbrev pub path_in_text : List ℕ → Option (List ℕ)
path_in_text line = if is_utf8 line then path_of line else None

-- the path that a line names, of what stands before its line feed: one carriage return at its end is dropped
abbrev pub path_in : List ℕ → Option (List ℕ)
path_in part = if nat_lt longest_line (length part) then None else path_in_text (strip_carriage_return part)

-- a line that ends with `@PATH`, with the bytes of the file there, where it can be read and the line is no longer than one may be
abbrev pub with_file : Shelf → List ℕ → List ℕ → Option (List ℕ)
with_file shelf line path = option_and_then (λ bytes. at_most longest_line (with_bytes line path bytes)) (shelf path)

-- what stands before a line feed, as it is handed on: with the bytes of the file that it names, else as it is
abbrev pub handed_line : Shelf → List ℕ → List ℕ
handed_line shelf part = unwrap_or (option_and_then (with_file shelf (strip_carriage_return part)) (path_in part)) part

-- the bytes of an input as they are handed on, line by line
abbrev pub handed_on : Shelf → List ℕ → List ℕ
handed_on shelf bytes = join_with_byte 10 (map (handed_line shelf) (slice_split is_line_feed bytes))

-- the lines that follow on a line of which a front was handed on as it is already
abbrev pub behind_front : Shelf → List (List ℕ) → List (List ℕ)
behind_front shelf [] = []
behind_front shelf (part ∷ parts) = part ∷ map (handed_line shelf) parts

-- the bytes that follow on what was handed on: on a whole line, or on the front of one
abbrev pub handed_behind : Shelf → Bool → List ℕ → List ℕ
handed_behind shelf is_within bytes =
    if is_within then join_with_byte 10 (behind_front shelf (slice_split is_line_feed bytes)) else handed_on shelf bytes

-- what stands before the next line feed, as it is handed on
abbrev pub next_handed : Shelf → Bool → List ℕ → List ℕ
next_handed shelf is_within part = if is_within then part else handed_line shelf part
