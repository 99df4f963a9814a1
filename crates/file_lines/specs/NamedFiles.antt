-- Lines that name the file of their document, as `install @FILE` and `update B @FILE`. Our own.
use Rattle.std.specs.Prelude.{ℕ, ◌+◌, ◌==◌, Bool, List, codes, drop, length, position, Option, None, option_map, if◌then◌else◌}
use Rattle.std.specs.List.{before_first}
use Rattle.std.specs.Option.{option_and_then}
use Rattle.std.specs.Str.{bytes_eq}
use Rattle.fault_count.specs.DecimalText.{decimal_of}

abbrev pub is_blank : ℕ → Bool
is_blank b = b == 32

abbrev pub is_at_sign : ℕ → Bool
is_at_sign b = b == 64

-- the first word of a text
abbrev pub first_word : List ℕ → List ℕ
first_word text = before_first is_blank text

-- what follows the blank behind the first word, if there is one
abbrev pub behind_word : List ℕ → Option (List ℕ)
behind_word text = option_map (λ at. drop (at + 1) text) (position is_blank text)

-- what stands before the first at sign, and what follows it, if there is one
abbrev pub before_sign : List ℕ → List ℕ
before_sign text = before_first is_at_sign text

abbrev pub behind_sign : List ℕ → Option (List ℕ)
behind_sign text = option_map (λ at. drop (at + 1) text) (position is_at_sign text)

-- a document that begins with an at sign names a path: what follows it
abbrev pub path_behind : List ℕ → Option (List ℕ)
path_behind document = if length (before_sign document) == 0 then behind_sign document else None

-- the path behind the number of a bundle
abbrev pub path_behind_number : List ℕ → Option (List ℕ)
path_behind_number text = option_and_then (λ number. option_and_then path_behind (behind_word text)) (decimal_of (first_word text))

-- the path behind the word of a line
abbrev pub path_behind_word : List ℕ → List ℕ → Option (List ℕ)
path_behind_word word text =
    if bytes_eq word (codes "install") then path_behind text
    else (if bytes_eq word (codes "update") then path_behind_number text else None)

-- the path that stands in a line in place of its document, if one does
abbrev pub path_of : List ℕ → Option (List ℕ)
path_of line = option_and_then (path_behind_word (first_word line)) (behind_word line)
