-- Topics (OSGi Compendium 8, section 113.3: `topic ::= token ( '/' token )*`; Core 8, section 1.3.2: a token is one or
-- more letters, digits, low lines and hyphens).
use Rattle.std.specs.Prelude.{ℕ, ◌==◌, ◌&&◌, ◌||◌, List, [], ◌∷◌, Bool, not, nat_le, Option, Some, None, if◌then◌else◌}
use Rattle.std.specs.List.{list_all}
use Rattle.prop_map.specs.Words.{is_empty}

abbrev pub is_between : ℕ → ℕ → ℕ → Bool
is_between low high b = nat_le low b && nat_le b high

-- a letter, a digit, a low line or a hyphen, of ASCII
abbrev pub is_token_byte : ℕ → Bool
is_token_byte b = is_between 97 122 b || (is_between 65 90 b || (is_between 48 57 b || (b == 95 || b == 45)))

-- one or more of them
abbrev pub is_token : List ℕ → Bool
is_token text = not (is_empty text) && list_all is_token_byte text

-- a byte more in front of the first of texts
abbrev pub in_front : ℕ → List (List ℕ) → List (List ℕ)
in_front b [] = (b ∷ []) ∷ []
in_front b (text ∷ texts) = (b ∷ text) ∷ texts

-- what stands before, between and behind the slashes of a text
abbrev pub between_slashes : List ℕ → List (List ℕ)
between_slashes [] = [] ∷ []
between_slashes (b ∷ bs) = if b == 47 then [] ∷ between_slashes bs else in_front b (between_slashes bs)

-- one or more tokens between slashes
abbrev pub is_topic : List ℕ → Bool
is_topic text = list_all is_token (between_slashes text)

-- the topic that a text spells, if it spells one
abbrev pub topic_of : List ℕ → Option (List ℕ)
topic_of text = if is_topic text then Some text else None
