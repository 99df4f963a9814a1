-- The rule of the lock. Our own.
-- Word 0 is the next ticket, word 1 the ticket that is served, and slot 0 has the value while no pass has it out.
use Rattle.std.specs.Prelude.{◌≡◌, ℕ, ◌+◌, ◌^◌, ◌<◌, ◌≤◌, ◌⊎◌, Bool, true, List, [], ◌∷◌, Option, Some}
use mathlib.Core.Option.{some, none}
use mathlib.Core.Option as maybe
use lib.ListN.{get_elem?}
use Rattle.atomic_table.specs.Table.{State}
use Rattle.front_lock.specs.Histories.{In, Owners, Extends, Distinct, AllEnded}
use Rattle.front_lock.specs.Keepings.{kept_by}
use Rattle.front_lock.specs.Passes.{names}
use Rattle.front_lock.specs.declared.rule.Contents.{Contents}
use Rattle.front_lock.specs.declared.rule.FrontView.{FrontView}
use Rattle.front_lock.specs.declared.rule.Stage.{Stage}
use Rattle.front_lock.specs.declared.rule.Stage.TheVariants.{Idle, Waits, Holds}

module _ {E : Type 0} where
  abbrev pub parts_of : List (FrontView E) → ℕ
  parts_of [] = 0
  parts_of (v ∷ vs) = v.parts + parts_of vs

  abbrev pub HasTicket : ℕ → Stage E → Type 0
  HasTicket t Idle = ⊥
  HasTicket t (Waits u) = t ≡ u
  HasTicket t (Holds u fresh found ns also) = t ≡ u

  module _ {T : Type 0} (next serving top : ℕ) (shown : Contents E) (homes : List (maybe.Option (Option T))) where
    -- a pass waits under a ticket that isn't served yet, or has the value out under the ticket that is served
    abbrev pub Staged : Stage E → Type 0
    Staged Idle = Unit {0}
    Staged (Waits t) = (serving ≤ t) × (t < next)
    Staged (Holds t fresh found ns also) = (t ≡ serving) × (t < next) × (found ≡ shown) × (fresh ≡ true → top ≤ serving) × (homes ≡ none ∷ []) × Extends ns also shown.entries

    -- what one pass knows is true: its names are all different and below top, it has seen a beginning of the history, behind which there is
    -- no entry of its names, and so had each pass that was joined into it; and it knows what is kept under its names
    pub record Fits (tied : List ℕ) (v : FrontView E) : Type 0 where
      pub tie : 0 < v.parts → v.tie ≡ tied
      pub spent : v.parts ≡ 0 → (names v ≡ []) × (v.stage ≡ Idle)
      pub extends : Extends (names v) v.seen shown.entries
      pub ended : AllEnded v.joined shown.entries
      pub kept : kept_by (names v) shown.kept ≡ v.kept
      pub distinct : Distinct (names v)
      pub below : (n : ℕ) → In n (names v) → n < top
      pub staged : Staged v.stage

  -- the number is a name of some pass
  abbrev pub Named : List (FrontView E) → ℕ → Type 0
  Named views n = (j : ℕ) × (v : FrontView E) × (get_elem? views j ≡ some v) × In n (names v)

module _ {T E : Type 0} (shows : T → Contents E) (tie : T → List ℕ) where
  -- the value is in its slot, and its entries are the history
  abbrev pub AtHome : List ℕ → ℕ → ℕ → Contents E → List (maybe.Option (Option T)) → Type 0
  AtHome tied serving top shown homes = (x : T) × (homes ≡ some (Some x) ∷ []) × (shows x ≡ shown) × (top ≤ serving) × (tie x ≡ tied)

  -- some pass has the value out
  abbrev pub IsOut : List (maybe.Option (Option T)) → List (FrontView E) → Type 0
  IsOut homes views = (homes ≡ none ∷ []) × ((j : ℕ) × (v : FrontView E) × (t : ℕ) × (fresh : Bool) × (found : Contents E) × (ns : List ℕ) × (also : List (ℕ × E)) × (get_elem? views j ≡ some v) × (v.stage ≡ Holds t fresh found ns also))

  -- tickets are served in order; no two passes share a name or a ticket; the parts of all passes are 64; each entry's owner is a name of
  -- some pass, and so is that of each thing that is kept
  pub record Kept (s : State (Option T) (FrontView E)) : Type 0 where
    pub next : ℕ
    pub serving : ℕ
    pub top : ℕ
    pub shown : Contents E
    pub tied : List ℕ
    pub words : s.words ≡ next ∷ serving ∷ []
    pub order : serving ≤ next
    pub small : next < 2 ^ 64
    pub top_near : top ≤ serving + 1
    pub each : (j : ℕ) (v : FrontView E) → get_elem? s.views j ≡ some v → Fits next serving top shown s.homes tied v
    pub apart : (j k : ℕ) (v w : FrontView E) → get_elem? s.views j ≡ some v → get_elem? s.views k ≡ some w → (n : ℕ) → In n (names v) → In n (names w) → j ≡ k
    pub turns : (j k : ℕ) (v w : FrontView E) → get_elem? s.views j ≡ some v → get_elem? s.views k ≡ some w → (t : ℕ) → HasTicket t v.stage → HasTicket t w.stage → j ≡ k
    pub place : AtHome tied serving top shown s.homes ⊎ IsOut s.homes s.views
    pub whole : parts_of s.views ≡ 64
    pub owners : Owners (Named s.views) shown.entries
    pub keepers : Owners (Named s.views) shown.kept
