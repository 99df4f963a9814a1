-- The forms of a context's name and path (OSGi Compendium 8, section 140.2, ServletContextHelper; the exact forms are our own).
use Rattle.std.specs.Prelude.{ℕ, ◌==◌, ◌&&◌, ◌||◌, List, [], ◌∷◌, Bool, true, false, not, codes, nat_le}
use Rattle.std.specs.List.{list_all}
use Rattle.std.specs.Str.{bytes_eq}
use Rattle.prop_map.specs.Words.{is_empty}

abbrev pub is_between : ℕ → ℕ → ℕ → Bool
is_between low high b = nat_le low b && nat_le b high

-- a letter, a digit, a dot, a low line or a hyphen, of ASCII
abbrev pub is_name_byte : ℕ → Bool
is_name_byte b = is_between 97 122 b || (is_between 65 90 b || (is_between 48 57 b || (b == 46 || (b == 95 || b == 45))))

-- one or more of them
abbrev pub is_name : List ℕ → Bool
is_name text = not (is_empty text) && list_all is_name_byte text

abbrev pub is_slash : ℕ → Bool
is_slash b = b == 47

-- bytes that begin with one of a segment
abbrev pub begins_segment : List ℕ → Bool
begins_segment [] = false
begins_segment (b ∷ bs) = not (is_slash b)

-- behind each slash stands a byte that is none, so that no segment is empty
abbrev pub has_full_segments : List ℕ → Bool
has_full_segments [] = true
has_full_segments (b ∷ bs) = (not (is_slash b) || begins_segment bs) && has_full_segments bs

abbrev pub begins_with_slash : List ℕ → Bool
begins_with_slash [] = false
begins_with_slash (b ∷ bs) = is_slash b

-- `/`, or a slash and segments between slashes, none of which is empty
abbrev pub is_path : List ℕ → Bool
is_path text = bytes_eq text (codes "/") || (begins_with_slash text && has_full_segments text)
