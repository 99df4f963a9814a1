-- How well a pattern fits what is left of a request's path in its context (OSGi Compendium 8, section 140.4; Java Servlet 3.1, section 12.1:
-- an equal path, then the longest path above, then the extension of the last segment, then `/`).
use Rattle.std.specs.Prelude.{ℕ, ◌==◌, ◌&&◌, ◌||◌, List, [], ◌∷◌, Bool, true, not, codes, drop, take, length, Option, Some, None, nat_lt, if◌then◌else◌}
use Rattle.std.specs.Str.{bytes_eq}
use Rattle.wb_pattern.specs.declared.best_place.Place.{Place}
use Rattle.wb_pattern.specs.Patterns.{Form, OnlyRoot, Every, Path, AtOrBelow, WithExtension, ends_in, has, without_end}

-- nothing, or bytes that begin with a slash
abbrev pub is_at_slash : List ℕ → Bool
is_at_slash [] = true
is_at_slash (b ∷ bs) = b == 47

-- a path is this one, or goes on behind it with a slash
abbrev pub is_at_or_below : List ℕ → List ℕ → Bool
is_at_or_below base path = bytes_eq (take (length base) path) base && is_at_slash (drop (length base) path)

-- it is what follows the last dot of a path's last segment: the path ends with a dot and it, and it has neither dot nor slash
abbrev pub is_extension : List ℕ → List ℕ → Bool
is_extension extension path = (ends_in path extension && ends_in (without_end path extension) (codes ".")) && not (has extension 46 || has extension 47)

abbrev pub placed_if : Bool → ℕ → ℕ → Option Place
placed_if fits class length = if fits then Some (record { class = class; length = length }) else None

-- the place of a pattern, where it fits
abbrev pub place_of : Form → List ℕ → Option Place
place_of OnlyRoot rest = placed_if (bytes_eq rest (codes "/")) 1 0
place_of (Path path) rest = placed_if (bytes_eq rest path) 1 0
place_of (AtOrBelow path) rest = placed_if (is_at_or_below path rest) 2 (length path)
place_of (WithExtension extension) rest = placed_if (is_extension extension rest) 3 0
place_of Every rest = placed_if true 4 0

-- one place is better than another
abbrev pub is_before : Place → Place → Bool
is_before a b = nat_lt a.class b.class || ((a.class == b.class) && nat_lt b.length a.length)
