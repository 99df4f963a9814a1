-- Which pattern of a context takes what is left of a path in it. The four steps are those of Java Servlet 3.1, section 12.1, to which OSGi
-- Compendium 8, section 140.4, points: an equal path; the longest path above, found by stepping down the path tree a segment at a time; the
-- extension of the last segment; `/`.
use Rattle.std.specs.Prelude.{ℕ, zero, suc, ◌==◌, List, [], ◌∷◌, ◌++◌, codes, drop, take, length, slice_index, Option, Some, None, if◌then◌else◌}
use Rattle.wb_pattern.specs.Patterns.{Form, Every, Path, pattern_of}
use Rattle.wb_pattern.specs.Places.{is_at_slash}

-- the text of the pattern that is equal to the rest; the empty pattern is it at the root
abbrev pub equal_by : Option Form → Option (List ℕ)
equal_by (Some (Path path)) = Some path
equal_by (Some Every) = Some []
equal_by _ = None

abbrev pub equal_text : List ℕ → Option (List ℕ)
equal_text rest = equal_by (pattern_of rest)

-- the text of the pattern above a path whose front has this length, if the path ends there or goes on with a slash
abbrev pub texts_at : List ℕ → ℕ → List (List ℕ)
texts_at path n = if is_at_slash (drop n path) then (take n path ++ codes "/*") ∷ [] else []

-- the texts of such patterns with fronts of at most this length, the longest first
abbrev pub texts_to : List ℕ → ℕ → List (List ℕ)
texts_to path zero = texts_at path zero
texts_to path (suc n) = texts_at path (suc n) ++ texts_to path n

-- the texts of the patterns that are above a path or at it, the longest first
abbrev pub texts_above : List ℕ → List (List ℕ)
texts_above path = texts_to path (length path)

-- what follows the last dot among the first bytes of a path, so many, if no slash follows it there
abbrev pub extension_before : List ℕ → ℕ → Option (List ℕ)
extension_before path zero = None
extension_before path (suc n) =
    if slice_index path n == 46 then Some (drop (suc n) path) else (if slice_index path n == 47 then None else extension_before path n)

-- the extension of a path's last segment
abbrev pub extension_of : List ℕ → Option (List ℕ)
extension_of path = extension_before path (length path)

abbrev pub with_star : Option (List ℕ) → Option (List ℕ)
with_star None = None
with_star (Some extension) = Some (codes "*." ++ extension)
