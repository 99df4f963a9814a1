-- Which bundles resolve together, and their wires. OSGi Core 8, chapter 3 "Module Layer", "Dependencies" and "Resolving Process", without `uses`.
-- What bundle 0 offers, and which need of a bundle is told as missing, is our own.
use Rattle.std.specs.Prelude.{◌≡◌, ℕ, ◌+◌, ◌&&◌, ◌||◌, List, [], ◌∷◌, ◌++◌, codes, map, flat_map, filter, find, Bool, true, false, not, IsTrue, Option, Some, None, if◌then◌else◌}
use Rattle.std.specs.List.{list_all, list_any}
use Rattle.std.specs.Ordering.{is_lt, nat_cmp, ordering_then}
use Rattle.std.specs.Str.{bytes_eq}
use Rattle.std.proofs.Math.Bool.{beq}
use Rattle.ldap_filter.specs.Trees.{Tree}
use Rattle.osgi_version.specs.Ranges.{includes}
use Rattle.osgi_version.specs.Versions.{version_cmp, version_text}
use Rattle.osgi_version.specs.declared.range.VersionRange.{VersionRange}
use Rattle.osgi_version.specs.declared.version.Version.{Version}
use Rattle.std.specs.declared.cmp.Ordering.{Ordering}
use Rattle.bundle_wiring.specs.Versioned.{matches_versioned}
use Rattle.bundle_wiring.specs.Wirings.{properties_of}
use Rattle.bundle_wiring.specs.declared.wiring.Offer.{Offer}
use Rattle.bundle_wiring.specs.declared.wiring.WireNeed.{WireNeed}
use Rattle.bundle_wiring.specs.declared.wiring.Wiring.{Wiring}
use Rattle.bundle_wiring.specs.declared.resolved.Resolved.{Resolved}
use Rattle.bundle_wiring.specs.declared.resolved.Wire.{Wire}

-- a bundle's number, and its needs and offers
abbrev pub Bundle : Type 0
Bundle = ℕ × Wiring

abbrev pub version_of_numbers : ℕ → ℕ → ℕ → Version
version_of_numbers major minor micro = record { major = major; minor = minor; micro = micro; qualifier = [] }

-- with the attributes that the offer of a manifest has whose clause says this value and this version
abbrev pub platform_offer : List ℕ → List ℕ → Version → Offer
platform_offer name value version =
    record { name = name; «package» = false; version = version; versions = version ∷ []; attributes = properties_of ((name, value) ∷ (codes "version", version_text version) ∷ []) }

-- what bundle 0 offers
abbrev pub platform_offers : List Offer
platform_offers = platform_offer (codes "osgi.extender") (codes "osgi.component") (version_of_numbers 1 5 0)
    ∷ platform_offer (codes "osgi.ee") (codes "JavaSE") (version_of_numbers 17 0 0) ∷ []

abbrev pub is_in_range : Option VersionRange → Version → Bool
is_in_range None version = true
is_in_range (Some range) version = includes range version

abbrev pub is_matched : Option Tree → Offer → Bool
is_matched None offer = true
is_matched (Some filter) offer = matches_versioned filter offer.attributes offer.versions

-- the offer meets the need: a package, or a capability, of that name, in the range and matched by the filter
abbrev pub meets : WireNeed → Offer → Bool
meets need offer = (beq need.«package» offer.«package» && bytes_eq need.name offer.name) && (is_in_range need.range offer.version && is_matched need.filter offer)

-- ---- the bundles

-- an offer of a bundle of the set, or of bundle 0, meets the need
abbrev pub has_candidate : List Bundle → WireNeed → Bool
has_candidate set need = list_any (meets need) platform_offers || list_any (λ (b : Bundle). list_any (meets need) b.1.offers) set

-- each need of the bundle that isn't optional has a candidate in the set
abbrev pub is_met : List Bundle → Bundle → Bool
is_met set bundle = list_all (λ (need : WireNeed). need.optional || has_candidate set need) bundle.1.needs

-- the first need of the bundle that isn't optional and has no candidate in the set
abbrev pub missing_need : List Bundle → Bundle → Option WireNeed
missing_need set bundle = find (λ (need : WireNeed). not (need.optional || has_candidate set need)) bundle.1.needs

abbrev pub is_consistent : List Bundle → Bool
is_consistent set = list_all (is_met set) set

-- of the bundles those that pass a test are a consistent set, which contains each consistent set of them
pub record IsGreatest (bundles : List Bundle) (test : Bundle → Bool) : Type 0 where
  pub consistent : IsTrue (is_consistent (filter test bundles))
  pub greatest : (other : Bundle → Bool) → IsTrue (is_consistent (filter other bundles)) → IsTrue (list_all (λ b. not (other b) || test b) bundles)

-- ---- the wires

-- an offer, the bundle that makes it, and its place among those of the bundle
pub record Placed : Type 0 where
  pub to : ℕ
  pub place : ℕ
  pub offer : Offer

abbrev pub placed_from : ℕ → ℕ → List Offer → List Placed
placed_from to place [] = []
placed_from to place (offer ∷ offers) = record { to = to; place = place; offer = offer } ∷ placed_from to (place + 1) offers

-- all offers of bundle 0 and of the bundles of a set
abbrev pub all_placed : List Bundle → List Placed
all_placed set = placed_from 0 0 platform_offers ++ flat_map (λ (b : Bundle). placed_from b.0 0 b.1.offers) set

-- the higher version, then the lower bundle number, then the lower place
abbrev pub placed_cmp : Placed → Placed → Ordering
placed_cmp a b = ordering_then (version_cmp b.offer.version a.offer.version) (ordering_then (nat_cmp a.to b.to) (nat_cmp a.place b.place))

abbrev pub is_better : Placed → Placed → Bool
is_better a b = is_lt (placed_cmp a b)

abbrev pub better_of : Placed → Option Placed → Placed
better_of offer None = offer
better_of offer (Some other) = if is_better other offer then other else offer

-- the offer to which none of the others is better
abbrev pub best : List Placed → Option Placed
best [] = None
best (offer ∷ offers) = Some (better_of offer (best offers))

-- the offers that meet a need
abbrev pub candidates : List Placed → WireNeed → List Placed
candidates offers need = filter (λ (o : Placed). meets need o.offer) offers

abbrev pub wire_of : ℕ → ℕ → Option Placed → List Wire
wire_of from need None = []
wire_of from need (Some best) = record { from = from; need = need; to = best.to; offer = best.place } ∷ []

-- of each need the wire to its best candidate, if it has one
abbrev pub wires_from : List Placed → ℕ → ℕ → List WireNeed → List Wire
wires_from offers from place [] = []
wires_from offers from place (need ∷ needs) = wire_of from place (best (candidates offers need)) ++ wires_from offers from (place + 1) needs

abbrev pub wires_of : List Bundle → List Wire
wires_of set = flat_map (λ (b : Bundle). wires_from (all_placed set) b.0 0 b.1.needs) set

-- the greatest consistent set of the bundles in their order, and for each of its needs that has a candidate in it one wire, to the best
abbrev pub IsResolution : List Bundle → Resolved → Type 0
IsResolution bundles resolved = (test : Bundle → Bool) × IsGreatest bundles test
    × (resolved.bundles ≡ map (λ (b : Bundle). b.0) (filter test bundles)) × (resolved.wires ≡ wires_of (filter test bundles))
