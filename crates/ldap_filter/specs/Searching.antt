-- The search for parts from the left.
use Rattle.std.specs.Prelude.{ℕ, List, [], ◌∷◌, Bool, false, if◌then◌else◌, Option, Some, None, length, drop}
use Rattle.ldap_filter.specs.Matching.{begins, some_rest}
use Rattle.std.specs.Str.{bytes_eq}

-- what is left of a text behind the first place where a part stands
abbrev pub behind_first : List ℕ → List ℕ → Option (List ℕ)
behind_first part [] = if begins [] part then Some (drop (length part) []) else None
behind_first part (b ∷ text) = if begins (b ∷ text) part then Some (drop (length part) (b ∷ text)) else behind_first part text

abbrev pub goes_on : (List ℕ → Bool) → Option (List ℕ) → Bool
goes_on test None = false
goes_on test (Some rest) = test rest

-- each part is taken at the first place where it stands behind those before, and the last at the end
abbrev pub found_in_order : List ℕ → List (List ℕ) → List ℕ → Bool
found_in_order part [] text = some_rest (λ rest. bytes_eq rest part) text
found_in_order part (next ∷ parts) text = goes_on (found_in_order next parts) (behind_first part text)
