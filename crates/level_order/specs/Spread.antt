-- One round of a search from place to place. Our own words.
use Rattle.std.specs.Prelude.{◌≡◌, ℕ, ◌<◌, List, [], get_or, length, Bool, true, false, Option, Some, None, if◌then◌else◌}
use Rattle.std.specs.Option.{is_some}
use Rattle.level_order.specs.Ways.{has, is_at}

-- a place is reached where it wasn't and lies among those that are
abbrev pub marked : ℕ → Bool → Option ℕ → Option ℕ
marked count among (Some m) = Some m
marked count among None = if among then Some count else None

pub record AreMarked (count : ℕ) (among : ℕ → Bool) (old new : List (Option ℕ)) : Type 0 where
  pub same : length new ≡ length old
  pub at : (place : ℕ) → place < length old → get_or new place None ≡ marked count (among place) (get_or old place None)

-- all that an interface seen before leads to are reached, and those reached in this round are the ones found
pub record IsKept (back : List (List ℕ)) (seen : List Bool) (steps : List (Option ℕ)) (found : List ℕ) (count : ℕ) : Type 0 where
  pub long : length seen ≡ length back
  pub reached : (x place : ℕ) → get_or seen x false ≡ true → place < length steps → has (get_or back x []) place ≡ true → is_some (get_or steps place None) ≡ true
  pub last : (place : ℕ) → has found place ≡ is_at (get_or steps place None) count
