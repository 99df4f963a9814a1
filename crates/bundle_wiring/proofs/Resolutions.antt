-- What is left when no need is lost, with its wires, is the resolution.
use Rattle.std.proofs.Common.{◌≡◌, List, Bool, map, ap, sym, ◌∙◌, false}
use Rattle.std.specs.Prelude.{filter, flat_map}
use Rattle.std.specs.List.{list_any}
use Rattle.bundle_wiring.specs.Placing.{IsTable}
use Rattle.bundle_wiring.specs.Resolution.{Bundle, IsResolution, is_met, wires_of}
use Rattle.bundle_wiring.specs.Standings.{HoldsConsistent, IsSettled, all_standing, is_lost, left_of, standing_of, wire_at}
use Rattle.bundle_wiring.specs.declared.placed_offers.PlacedOffer.{PlacedOffer}
use Rattle.bundle_wiring.specs.declared.resolved.Resolved.{Resolved}
use Rattle.bundle_wiring.specs.declared.standings.Stand.{Stand}
use Rattle.bundle_wiring.proofs.LeftBundles.{all_met, all_wires, greatest, left_is}

pub resolution : (bundles : List Bundle) (table : List PlacedOffer) (left : List Bool) (stands : List Stand) (resolved : Resolved) → IsTable bundles table → IsSettled bundles table left stands
    → resolved.bundles ≡ map (λ (b : Bundle). b.0) (left_of left bundles) → resolved.wires ≡ flat_map (wire_at left table) (map standing_of stands) → IsResolution bundles resolved
resolution bundles table left stands resolved is end numbers wires =
    let met = all_met bundles table is left 0 bundles (ap (list_any (is_lost left table)) (sym end.stand) ∙ end.none_lost) in
    let set = left_is bundles left end.holds met in (
      is_met (left_of left bundles),
      greatest bundles left end.holds met,
      numbers ∙ ap (map (λ (b : Bundle). b.0)) set,
      wires ∙ (ap (flat_map (wire_at left table)) end.stand ∙ (all_wires bundles table is left 0 bundles ∙ ap wires_of set)),
    )
