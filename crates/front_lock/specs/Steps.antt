-- What each kind of step at the lock tells its pass. Our own.
use Rattle.std.specs.Prelude.{◌≡◌, ◌≢◌, ℕ, ◌+◌, ◌-◌, ◌<◌, ◌≤◌, Bool, true, false, List, [], ◌∷◌, ◌++◌, Option, Some}
use Rattle.atomic_table.specs.Table.{Me, Step, rest}
use Rattle.front_lock.specs.Histories.{In, Owners, Extends, Distinct}
use Rattle.front_lock.specs.Keepings.{kept_under, kept_by}
use Rattle.front_lock.specs.Passes.{known, at_stage, names, nobody, ended, longer}
use Rattle.front_lock.specs.declared.rule.Contents.{Contents}
use Rattle.front_lock.specs.declared.rule.FrontView.{FrontView}
use Rattle.front_lock.specs.declared.rule.Stage.{Stage}
use Rattle.front_lock.specs.declared.rule.Stage.TheVariants.{Idle, Waits, Holds}

module _ {T E : Type 0} (shows : T → Contents E) (tie : T → List ℕ) where
  abbrev Sat : Type 0
  Sat = Me (Option T) (FrontView E)

  -- what a pass finds at a value under its ticket
  pub record Finds (v : FrontView E) (ticket : ℕ) (x : T) : Type 0 where
    pub goes_on : Extends (names v) v.seen (shows x).entries
    pub unnamed : Owners (λ n. n < ticket) (shows x).entries
    pub later : (n : ℕ) → In n (names v) → n < ticket
    pub tied : tie x ≡ v.tie
    pub owned : v.parts ≡ 64 → Owners (λ n. In n (names v)) (shows x).entries
    pub kept : kept_by (names v) (shows x).kept ≡ v.kept
    pub keeps : (n : ℕ) → In n (names v) → kept_under n (shows x).kept ≡ kept_under n v.kept
    pub keepers : v.parts ≡ 64 → Owners (λ n. In n (names v)) (shows x).kept

  -- the ticket was drawn; or it was another's, and nothing happened
  abbrev pub Drew : Step (Option T) → Sat → ℕ → Sat → Type 0
  Drew st m r m' = (r ≡ st.first → m' ≡ (at_stage m.0 (Waits r), m.1)) × (r ≢ st.first → m' ≡ m)

  -- where the ticket is served, the value is out with the pass, its entries go on from what the pass had seen with no further one of its
  -- names, it keeps under these what the pass knew, and no pass has the ticket for its number yet; where the pass has all parts, each entry
  -- is of one of its names, and so is each thing that is kept
  abbrev pub Turned : Step (Option T) → Sat → ℕ → Sat → Type 0
  Turned st m r m' = (t : ℕ) → m.0.stage ≡ Waits t
      → (r ≡ t → (x : T) × (m' ≡ (at_stage m.0 (Holds r true (shows x) [] []), (0, Some x) ∷ m.1)) × Finds m.0 r x)
      × (r ≢ t → m' ≡ m)

  -- the value is back, and the pass has seen all of it, knows what it keeps under its names, and entered once more
  abbrev pub GaveBack : Step (Option T) → Sat → ℕ → Sat → Type 0
  GaveBack st m r m' = (x : T) → m.1 ≡ (0, Some x) ∷ rest m.1 → m' ≡ (known m.0.tie m.0.parts (m.0.entered + 1) m.0.own m.0.joined (shows x).entries (kept_by (names m.0) (shows x).kept) Idle, rest m.1)

  -- the value is back as it was, and the pass has seen no more than before; what was joined into it in this turn goes on to the
  -- value's entries too, it knows what is kept under its names, and these are all different
  abbrev pub PutBack : Step (Option T) → Sat → ℕ → Sat → Type 0
  PutBack st m r m' = (m' ≡ (at_stage m.0 Idle, rest m.1))
      × ((t : ℕ) (fresh : Bool) (found : Contents E) (ns : List ℕ) (also : List (ℕ × E)) → m.0.stage ≡ Holds t fresh found ns also
      → Extends ns also found.entries × Extends (names m.0) m.0.seen found.entries × (kept_by (names m.0) found.kept ≡ m.0.kept))
      × (m.0.parts ≤ 64)
      × Distinct (names m.0)

module _ {E : Type 0} where
  -- the pass that has the turn, when another was split off it, and that other, whose number is the turn's ticket
  abbrev pub left_at : FrontView E → Stage E → FrontView E
  left_at v (Holds t fresh found ns also) = known v.tie (v.parts - 1) v.entered v.own v.joined v.seen v.kept (Holds t false found ns also)
  left_at v Idle = v
  left_at v (Waits t) = v

  abbrev pub right_at : FrontView E → Stage E → FrontView E
  right_at v (Holds t fresh found ns also) = known v.tie 1 0 (Some t) [] v.seen [] Idle
  right_at v Idle = nobody
  right_at v (Waits t) = nobody

  -- the pass that has the turn, when another was joined into it
  abbrev pub joined_at : FrontView E → FrontView E → Stage E → FrontView E
  joined_at v w (Holds t fresh found ns also) = known v.tie (v.parts + w.parts) (v.entered + w.entered) v.own (v.joined ++ ended w.own w.seen w.joined) (longer v.seen w.seen) (v.kept ++ w.kept) (Holds t fresh found (names w) w.seen)
  joined_at v w Idle = v
  joined_at v w (Waits t) = v
