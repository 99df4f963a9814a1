-- Bundles that are struck out while others are left, and where each need stands. What only code and proofs need.
use Rattle.std.specs.Prelude.{◌≡◌, ℕ, ◌+◌, ◌<◌, ◌≤◌, ◌&&◌, List, [], ◌∷◌, ◌++◌, length, Bool, true, false, not, IsTrue, Option, Some, None, is_none, option_map, map, filter, if◌then◌else◌, slice_get, slice_index_or, slice_set}
use Rattle.std.specs.List.{list_any, position_or_len}
use Rattle.bundle_wiring.specs.ByNeed.{Wired}
use Rattle.bundle_wiring.specs.Placing.{placed_of}
use Rattle.bundle_wiring.specs.Resolution.{Bundle, is_consistent, meets, wire_of}
use Rattle.bundle_wiring.specs.declared.placed_offers.PlacedOffer.{PlacedOffer}
use Rattle.bundle_wiring.specs.declared.standings.Stand.{Stand}
use Rattle.bundle_wiring.specs.declared.resolved.Wire.{Wire}
use Rattle.bundle_wiring.specs.declared.wiring.WireNeed.{WireNeed}

-- whether the bundle at a place is left
abbrev pub is_left : List Bool → ℕ → Bool
is_left left home = slice_index_or left home false

abbrev pub left_from : ℕ → List Bool → List Bundle → List Bundle
left_from home left [] = []
left_from home left (b ∷ bs) = if is_left left home then b ∷ left_from (home + 1) left bs else left_from (home + 1) left bs

-- the bundles that are left
abbrev pub left_of : List Bool → List Bundle → List Bundle
left_of left bundles = left_from 0 left bundles

-- bundle 0 is always there
abbrev pub is_there : List Bool → Option ℕ → Bool
is_there left None = true
is_there left (Some home) = is_left left home

-- the offer is of a bundle that is there, and meets the need
abbrev pub counts : List Bool → WireNeed → PlacedOffer → Bool
counts left need offer = is_there left offer.home && meets need offer.offer.now

-- the place of the first offer that counts, or the number of all
abbrev pub first_place : List Bool → WireNeed → List PlacedOffer → ℕ
first_place left need table = position_or_len (counts left need) table

-- no offer before this place counts
abbrev pub IsPassed : List Bool → WireNeed → List PlacedOffer → ℕ → Type 0
IsPassed left need table at = (k : ℕ) (d : PlacedOffer) → k < at → counts left need (slice_index_or table k d) ≡ false

-- where a need may stand: no offer before counts, and the one at its place meets it, be its bundle there or not
pub record Rests (left : List Bool) (table : List PlacedOffer) (stand : Stand) : Type 0 where
  pub passed : IsPassed left stand.need.now table stand.at
  pub within : stand.at ≤ length table
  pub meets_it : (d : PlacedOffer) → stand.at < length table → meets stand.need.now (slice_index_or table stand.at d).offer.now ≡ true

-- at the first offer that counts
abbrev pub settled : List Bool → List PlacedOffer → Stand → Stand
settled left table stand = record stand { at = first_place left stand.need.now table }

-- the offer is there, and of a bundle that isn't
abbrev pub is_gone : List Bool → Option PlacedOffer → Bool
is_gone left None = false
is_gone left (Some offer) = not (is_there left offer.home)

-- a stand as the definitions see it
pub record Standing : Type 0 where
  pub home : ℕ
  pub from : ℕ
  pub place : ℕ
  pub need : WireNeed
  pub at : ℕ

abbrev pub standing_of : Stand → Standing
standing_of s = record { home = s.home; from = s.from; place = s.place; need = s.need.now; at = s.at }

abbrev pub needs_standing : List Bool → List PlacedOffer → ℕ → ℕ → ℕ → List WireNeed → List Standing
needs_standing left table home from place [] = []
needs_standing left table home from place (need ∷ needs) =
    record { home = home; from = from; place = place; need = need; at = first_place left need table } ∷ needs_standing left table home from (place + 1) needs

-- each need of these bundles at the first offer that counts
abbrev pub all_standing : List Bool → List PlacedOffer → ℕ → List Bundle → List Standing
all_standing left table home [] = []
all_standing left table home (b ∷ bs) = needs_standing left table home b.0 0 b.1.needs ++ all_standing left table (home + 1) bs

-- its bundle can't be without a candidate, and it has none
abbrev pub lacks : List PlacedOffer → Standing → Bool
lacks table s = not s.need.optional && is_none (slice_get table s.at)

abbrev pub is_lost : List Bool → List PlacedOffer → Standing → Bool
is_lost left table s = is_left left s.home && lacks table s

-- the bundle of a need that is lost goes
abbrev pub struck : List PlacedOffer → List Bool → Standing → List Bool
struck table left s = if is_lost left table s then slice_set left s.home false else left

-- the wire of a need of a bundle that is left
abbrev pub wire_at : List Bool → List PlacedOffer → Standing → List Wire
wire_at left table s = if is_left left s.home then wire_of s.from s.place (option_map placed_of (slice_get table s.at)) else []

-- the bundle that makes the offer at a place, if there is one
abbrev pub target_at : List PlacedOffer → ℕ → Option ℕ
target_at table at = option_map (λ (o : PlacedOffer). o.to) (slice_get table at)

abbrev pub wired_at : List PlacedOffer → Standing → Wired
wired_at table s = (s.need, target_at table s.at)

-- each need of a bundle, with the bundle of the first offer that counts
abbrev pub stood_in : List Bool → List PlacedOffer → Bundle → List Wired
stood_in left table bundle = map (λ (need : WireNeed). (need, target_at table (first_place left need table))) bundle.1.needs

-- what is left contains each consistent set of the bundles
abbrev pub HoldsConsistent : List Bundle → List Bool → Type 0
HoldsConsistent bundles left =
    (other : Bundle → Bool) → IsTrue (is_consistent (filter other bundles)) → (k : ℕ) (d : Bundle) → k < length bundles → other (slice_index_or bundles k d) ≡ true → is_left left k ≡ true

-- each need stands at the first offer that counts, no bundle that is left has a need that is lost, and it is the greatest such set
pub record IsSettled (bundles : List Bundle) (table : List PlacedOffer) (left : List Bool) (stands : List Stand) : Type 0 where
  pub stand : map standing_of stands ≡ all_standing left table 0 bundles
  pub holds : HoldsConsistent bundles left
  pub none_lost : list_any (is_lost left table) (map standing_of stands) ≡ false
