-- What the files hold that lines name, where that is told. Our own.
use Rattle.std.specs.Prelude.{◌≡◌, ℕ, nat_le, List, length, Option, Some, None, option_map, string_bytes, if◌then◌else◌}
use Rattle.std.specs.List.{find}
use Rattle.std.specs.Option.{option_and_then}
use Rattle.std.specs.Str.{bytes_eq}
use Rattle.file_lines.specs.declared.memory_files.MemoryFile.{MemoryFile}

-- what stands in the file at each path; nothing at a path whose file can't be read
abbrev pub Shelf : Type 0
Shelf = List ℕ → Option (List ℕ)

-- these bytes, where they are at most so many
abbrev pub at_most : ℕ → List ℕ → Option (List ℕ)
at_most most bytes = if nat_le (length bytes) most then Some bytes else None

-- what a read of a path answers, where at most so many bytes are wanted
abbrev pub IsAnswer : Option Shelf → List ℕ → ℕ → Option (List ℕ) → Type 0
IsAnswer None path most answer = Unit {0}
IsAnswer (Some shelf) path most answer = answer ≡ option_and_then (at_most most) (shelf path)

-- files in memory, and how often one of them was read, or of none
pub record MemoryShelf : Type 0 where
  pub files : List MemoryFile
  pub reads : ℕ

-- the first file with this path
abbrev pub file_at : List MemoryFile → List ℕ → Option MemoryFile
file_at files path = find (λ file. bytes_eq (string_bytes file.path) path) files

-- what files in memory hold: of two with the same path the first counts
abbrev pub shelf_of : List MemoryFile → Shelf
shelf_of files path = option_map (λ file. file.bytes.items) (file_at files path)
