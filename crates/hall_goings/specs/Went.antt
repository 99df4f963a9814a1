-- How a pass goes on in the one history: what it appends, with the places. Our own.
use Rattle.std.specs.Prelude.{◌≡◌, ℕ, ◌+◌, ◌≤◌, List, [], ◌∷◌, ◌++◌, length, map, take, eqb, Some, slice_get, if◌then◌else◌}
use Rattle.front_lock.specs.Histories.{In, Owners, numbers}
use Rattle.front_lock.specs.Passes.{PassView}

module _ {E : Type 0} where
  -- the entries that n owns, each with its place, where the first entry has this place
  abbrev pub own_from : ℕ → ℕ → List (ℕ × E) → List (ℕ × E)
  own_from n at [] = []
  own_from n at (x ∷ xs) = if eqb n x.0 then (at, x.1) ∷ own_from n (at + 1) xs else own_from n (at + 1) xs

  -- these entries with their places, from a first one on
  abbrev pub placed : ℕ → List E → List (ℕ × E)
  placed at [] = []
  placed at (e ∷ es) = (at, e) ∷ placed (at + 1) es

  -- these entries under one owner
  abbrev pub owned_by : ℕ → List E → List (ℕ × E)
  owned_by n es = map (λ e. (n, e)) es

  -- a pass went on in the history: it has seen more, and the entries that became its own meanwhile, with their places, are these. No entry
  -- came under a number that was joined into it; it entered the lock now and then, and what is kept for it may have changed; nothing else did
  pub record Went (before after : PassView E) (own : List (ℕ × E)) : Type 0 where
    pub more : List (ℕ × E)
    pub seen : after.seen ≡ before.seen ++ more
    pub own_is : own_from before.number (length before.seen) more ≡ own
    pub others : Owners (λ n. ¬ In n (numbers before.joined)) more
    pub entered : before.entered ≤ after.entered
    pub same : after ≡ record before { seen = after.seen; kept = after.kept; entered = after.entered }

  -- what a pass has seen up to a front
  abbrev pub up_to : ℕ → PassView E → List (ℕ × E)
  up_to front pass = take front pass.seen

  -- each of these entries stands in a history at its place, which is at least so much, under the number n
  abbrev pub AllStand : ℕ → ℕ → List (ℕ × E) → List (ℕ × E) → Type 0
  AllStand n from log [] = Unit {0}
  AllStand n from log (x ∷ xs) = (from ≤ x.0) × (slice_get log x.0 ≡ Some (n, x.1)) × AllStand n from log xs
