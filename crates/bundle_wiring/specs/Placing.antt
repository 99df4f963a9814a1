-- Offers in memory as those that the definitions speak of, and their order. What only code and proofs need.
use Rattle.std.specs.Prelude.{◌≡◌, ℕ, ◌+◌, ◌||◌, List, [], ◌∷◌, ◌++◌, Bool, Option, Some, None, map}
use Rattle.std.specs.List.{list_any}
use Rattle.std.specs.List.Sorted.{IsSorted}
use Rattle.std.specs.Cmp.Lexicographic.{slice_cmp}
use Rattle.std.specs.Ordering.{nat_cmp, ordering_then}
use Rattle.std.specs.declared.cmp.Ordering.{Ordering}
use Rattle.bundle_wiring.specs.Resolution.{Bundle, Placed, meets, placed_cmp, platform_offers}
use Rattle.bundle_wiring.specs.declared.placed_offers.PlacedOffer.{PlacedOffer}
use Rattle.bundle_wiring.specs.declared.wiring.Offer.{Offer}
use Rattle.bundle_wiring.specs.declared.wiring.WireNeed.{WireNeed}

abbrev pub placed_of : PlacedOffer → Placed
placed_of p = record { to = p.to; place = p.place; offer = p.offer.now }

-- an offer behind the place of the bundle that makes it among all, none of bundle 0
abbrev pub Homed : Type 0
Homed = Option ℕ × Placed

abbrev pub homed_of : PlacedOffer → Homed
homed_of p = (p.home, placed_of p)

abbrev pub homed_from : Option ℕ → ℕ → ℕ → List Offer → List Homed
homed_from home to place [] = []
homed_from home to place (offer ∷ offers) = (home, record { to = to; place = place; offer = offer }) ∷ homed_from home to (place + 1) offers

abbrev pub homed_of_bundles : ℕ → List Bundle → List Homed
homed_of_bundles home [] = []
homed_of_bundles home (b ∷ bs) = homed_from (Some home) b.0 0 b.1.offers ++ homed_of_bundles (home + 1) bs

-- all offers of bundle 0 and of these bundles
abbrev pub all_homed : List Bundle → List Homed
all_homed bundles = homed_from None 0 0 platform_offers ++ homed_of_bundles 0 bundles

-- how the name of an offer compares with a name, and with that of another
abbrev pub cmp_to : List ℕ → PlacedOffer → Ordering
cmp_to name p = slice_cmp nat_cmp p.offer.now.name name

abbrev pub name_cmp : PlacedOffer → PlacedOffer → Ordering
name_cmp p q = cmp_to q.offer.now.name p

-- by name, and of one name the better one first
abbrev pub table_cmp : PlacedOffer → PlacedOffer → Ordering
table_cmp p q = ordering_then (name_cmp p q) (placed_cmp (placed_of p) (placed_of q))

-- what one of these offers passes, one of the others passes
abbrev pub HaveSame : List Homed → List Homed → Type 0
HaveSame offers others = (test : Homed → Bool) → list_any test offers ≡ list_any test others

-- the offers of bundle 0 and of all these bundles, in their order
pub record IsTable (bundles : List Bundle) (table : List PlacedOffer) : Type 0 where
  pub sorted : IsSorted table_cmp table
  pub same : HaveSame (map homed_of table) (all_homed bundles)

-- one of these offers meets the need
abbrev pub some_placed : List Placed → WireNeed → Bool
some_placed offers need = list_any (λ (o : Placed). meets need o.offer) offers
