-- Texts in lists. Our own words.
use Rattle.std.specs.Prelude.{ℕ, List, Bool}
use Rattle.std.specs.List.{list_any}
use Rattle.std.specs.Str.{bytes_eq}

-- the text is in the list
abbrev pub has_text : List (List ℕ) → List ℕ → Bool
has_text texts text = list_any (λ t. bytes_eq t text) texts
