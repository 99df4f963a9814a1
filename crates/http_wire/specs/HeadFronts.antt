-- Which bytes may become a head within the limits, told by their length and their lines. Our own.
use Rattle.std.specs.Prelude.{ℕ, ◌≤◌, ◌==◌, Bool, List, length, count_by}

abbrev pub is_feed : ℕ → Bool
is_feed b = b == 10

-- the shortest end of a head, of at most 15 bytes and three lines, has room behind the bytes, whatever it is
pub record HasRoom (bytes : List ℕ) : Type 0 where
  pub short : length bytes ≤ 16369
  pub few : count_by is_feed bytes ≤ 61
