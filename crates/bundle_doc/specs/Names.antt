-- The names of entries in Service-Component (OSGi Compendium 8, section 112.4, component description), which may have a star in their last part.
use Rattle.std.specs.Prelude.{ℕ, ◌-◌, ◌==◌, ◌&&◌, List, [], ◌∷◌, map, take, drop, length, Bool, not, if◌then◌else◌}
use Rattle.std.specs.List.{list_any}
use Rattle.bundle_headers.specs.Blanks.{without_blanks}
use Rattle.ldap_filter.specs.Matching.{begins, consists_of}

abbrev pub has_byte : ℕ → List ℕ → Bool
has_byte byte text = list_any (λ b. b == byte) text

-- a byte before the first of some parts
abbrev pub onto : ℕ → List (List ℕ) → List (List ℕ)
onto b [] = (b ∷ []) ∷ []
onto b (part ∷ parts) = (b ∷ part) ∷ parts

-- the parts of a text between all places of a byte, one more than those
abbrev pub parted : ℕ → List ℕ → List (List ℕ)
parted byte [] = [] ∷ []
parted byte (b ∷ bs) = if b == byte then [] ∷ parted byte bs else onto b (parted byte bs)

-- the items of a list with commas, without the blanks round them
abbrev pub items_of : List ℕ → List (List ℕ)
items_of text = map without_blanks (parted 44 text)

-- what stands behind the last slash: all, where there is none
abbrev pub last_part : List ℕ → List ℕ
last_part [] = []
last_part (b ∷ bs) = if has_byte 47 (b ∷ bs) then last_part bs else b ∷ bs

-- the last slash and what stands before it
abbrev pub folder : List ℕ → List ℕ
folder text = take (length text - length (last_part text)) text

-- a star stands in the last part
abbrev pub is_pattern : List ℕ → Bool
is_pattern name = has_byte 42 (last_part name)

-- the rest of an entry behind the folder is made of these parts, with any bytes but slashes between them
abbrev pub rest_matches : List (List ℕ) → List ℕ → Bool
rest_matches parts rest = not (has_byte 47 rest) && consists_of parts rest

-- the entry lies in the pattern's folder, and its last part is that of the pattern with some text for each star
abbrev pub matches : List ℕ → List ℕ → Bool
matches pattern entry = begins entry (folder pattern) && rest_matches (parted 42 (last_part pattern)) (drop (length (folder pattern)) entry)
