-- How high places stand above those that they lead to. Our own words.
use Rattle.std.specs.Prelude.{◌≡◌, ℕ, ◌+◌, ◌<◌, ◌≤◌, max, List, [], ◌∷◌, get_or, length, nat_lt, Option, Some, None, if◌then◌else◌}

-- a description stands as high as the highest of its interfaces, an interface one above the highest of its providers
abbrev pub rise_at : ℕ → ℕ → ℕ
rise_at first place = if nat_lt place first then 0 else 1

abbrev pub higher : ℕ → Option ℕ → Option ℕ → Option ℕ
higher rise None other = None
higher rise (Some h) None = None
higher rise (Some h) (Some other) = Some (max (h + rise) other)

-- how high one stands over these places, where all of them have a height
abbrev pub height_over : ℕ → List ℕ → List (Option ℕ) → Option ℕ
height_over rise [] heights = Some 0
height_over rise (p ∷ places) heights = higher rise (get_or heights p None) (height_over rise places heights)

-- each height is one over the places that its place leads to
pub record AreSound (first : ℕ) (links : List (List ℕ)) (heights : List (Option ℕ)) : Type 0 where
  pub same : length heights ≡ length links
  pub sound : (place h : ℕ) → get_or heights place None ≡ Some h → height_over (rise_at first place) (get_or links place []) heights ≡ Some h

-- a place has no height while all that it leads to have theirs
pub record IsOpen (first : ℕ) (links : List (List ℕ)) (heights : List (Option ℕ)) (place : ℕ) : Type 0 where
  pub none : get_or heights place None ≡ None
  pub height : ℕ
  pub over : height_over (rise_at first place) (get_or links place []) heights ≡ Some height

-- some heights are there that weren't, and all others stay
pub record IsRaised (first : ℕ) (links : List (List ℕ)) (old new : List (Option ℕ)) : Type 0 where
  pub sound : AreSound first links new
  pub stays : (place h : ℕ) → get_or old place None ≡ Some h → get_or new place None ≡ Some h

-- each place that can have a height has it
pub record AreHeights (first : ℕ) (links : List (List ℕ)) (heights : List (Option ℕ)) : Type 0 where
  pub sound : AreSound first links heights
  pub all : (place : ℕ) → place < length links → ¬ IsOpen first links heights place

-- the first heights are all known
pub record AreKnown (count : ℕ) (heights : List (Option ℕ)) (known : List ℕ) : Type 0 where
  pub same : length known ≡ count
  pub at : (place : ℕ) → place < count → get_or heights place None ≡ Some (get_or known place 0)
