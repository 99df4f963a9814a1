-- Lines as the code makes them, from needs that are wired. What only code and proofs need.
use Rattle.std.specs.Prelude.{ℕ, ◌&&◌, List, [], ◌∷◌, ◌++◌, flat_map, find, Bool, not, is_none, is_some, Option, option_map, if◌then◌else◌}
use Rattle.bundle_wiring.specs.ByNeed.{Wired}
use Rattle.bundle_wiring.specs.declared.wiring.WireNeed.{WireNeed}
use Rattle.wiring_reader.specs.Telling.{need_line, resolved_line, wire_line}
use Rattle.wiring_reader.specs.declared.parts.Head.{Head}
use Rattle.wiring_reader.specs.declared.wiring_line.NeedLine.{NeedLine}
use Rattle.wiring_reader.specs.declared.wiring_line.WiringLine.{WiringLine}
use Rattle.wiring_reader.specs.declared.wiring_line.WiringLine.TheVariants.{Faulty}

-- a need that isn't optional has no candidate
abbrev pub is_missing : Wired → Bool
is_missing w = not w.0.optional && is_none w.1

-- the first of these that is missing
abbrev pub missing : List Wired → Option WireNeed
missing ws = option_map (λ (w : Wired). w.0) (find is_missing ws)

abbrev pub head_line : Head → Option WireNeed → WiringLine
head_line head need = if head.faulty then Faulty head.bundle else resolved_line head.bundle need

-- the line of a bundle by its needs
abbrev pub head_lines : Head → List Wired → List WiringLine
head_lines head ws = head_line head (missing ws) ∷ []

abbrev pub wire_line_of : ℕ → Wired → List WiringLine
wire_line_of bundle w = wire_line bundle w.0.name w.1

abbrev pub wire_lines_of : ℕ → List Wired → List WiringLine
wire_lines_of bundle ws = flat_map (wire_line_of bundle) ws

-- the wires of a bundle that misses no need
abbrev pub resolved_wires : Head → List Wired → List WiringLine
resolved_wires head ws = if is_some (missing ws) then [] else wire_lines_of head.bundle ws

abbrev pub need_line_of : Wired → NeedLine
need_line_of w = need_line w.0 w.1

-- what each item of a list and that of another list in its place give, in order
abbrev pub paired : {A B C : Type 0} → (A → B → List C) → List A → List B → List C
paired f [] ys = []
paired f (x ∷ xs) [] = []
paired f (x ∷ xs) (y ∷ ys) = f x y ++ paired f xs ys
