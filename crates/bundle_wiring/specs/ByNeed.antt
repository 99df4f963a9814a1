-- To whom each need is wired, be its bundle among those that resolve or not. OSGi Core 8, chapter 3 "Module Layer", "Resolving Process"; what is told of a
-- bundle that doesn't resolve is our own.
use Rattle.std.specs.Prelude.{◌≡◌, ℕ, List, Bool, Option, filter, map, option_map}
use Rattle.bundle_wiring.specs.Resolution.{Bundle, IsGreatest, Placed, all_placed, best, candidates}
use Rattle.bundle_wiring.specs.declared.by_need.WiredNeed.{WiredNeed}
use Rattle.bundle_wiring.specs.declared.wiring.WireNeed.{WireNeed}

-- the bundle that makes the best of the offers that meet a need, where these bundles resolve: one of them, or bundle 0
abbrev pub wired_to : List Bundle → WireNeed → Option ℕ
wired_to set need = option_map (λ (o : Placed). o.to) (best (candidates (all_placed set) need))

-- a need, and the bundle to which it is wired, if there is one
abbrev pub Wired : Type 0
Wired = WireNeed × Option ℕ

abbrev pub wired_of : WiredNeed → Wired
wired_of w = (w.need.now, w.to)

-- each need of a bundle, where these bundles resolve
abbrev pub wired_in : List Bundle → Bundle → List Wired
wired_in set bundle = map (λ (need : WireNeed). (need, wired_to set need)) bundle.1.needs

-- each need of each bundle, where the greatest consistent set of the bundles resolves
abbrev pub AreWired : List Bundle → List (List Wired) → Type 0
AreWired bundles wired = (test : Bundle → Bool) × IsGreatest bundles test × (wired ≡ map (wired_in (filter test bundles)) bundles)
