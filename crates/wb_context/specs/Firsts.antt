-- The first item of each text. Our own word.
use Rattle.std.specs.Prelude.{ℕ, List, [], ◌∷◌, if◌then◌else◌}
use Rattle.text_index.specs.Texts.{has_text}

-- the items without those whose text was there before, first among these texts
abbrev pub firsts_behind : {X : Type 0} → (X → List ℕ) → List (List ℕ) → List X → List X
firsts_behind text_of before [] = []
firsts_behind text_of before (x ∷ xs) = if has_text before (text_of x) then firsts_behind text_of before xs else x ∷ firsts_behind text_of (text_of x ∷ before) xs

-- of the items with one text the first
abbrev pub first_of_each : {X : Type 0} → (X → List ℕ) → List X → List X
first_of_each text_of xs = firsts_behind text_of [] xs
