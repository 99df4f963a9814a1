-- Lines that are continued (the JAR file specification, "JAR manifest": a continuation begins with one blank).
use Rattle.std.specs.Prelude.{ℕ, ◌-◌, List, [], ◌∷◌, ◌++◌, drop, flat_map, take, if◌then◌else◌}
use Rattle.bundle_headers.specs.declared.folding.Folded.{Folded}
use Rattle.bundle_headers.specs.declared.line.Line.{Line}

abbrev pub alone : Line → Folded
alone line = record { first = line; more = [] }

abbrev pub longer : Folded → Line → Folded
longer folded line = record { first = folded.first; more = folded.more ++ line ∷ [] }

-- a line before others that may continue it
abbrev pub onto : Line → List Folded → List Folded
onto line [] = alone line ∷ []
onto line (next ∷ rest) = if next.first.continues then record { first = line; more = next.first ∷ next.more } ∷ rest else alone line ∷ next ∷ rest

-- each line with those that continue it
abbrev pub unfold_lines : List Line → List Folded
unfold_lines [] = []
unfold_lines (line ∷ lines) = onto line (unfold_lines lines)

-- the bytes of a line
abbrev pub text_of : List ℕ → Line → List ℕ
text_of bytes line = take (line.end - line.start) (drop line.start bytes)

-- the bytes of a header: those of its lines, joined
abbrev pub joined : List ℕ → Folded → List ℕ
joined bytes folded = text_of bytes folded.first ++ flat_map (text_of bytes) folded.more
