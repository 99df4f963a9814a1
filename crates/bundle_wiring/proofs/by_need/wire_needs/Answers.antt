use Rattle.std.proofs.Common.{map, subst, sym}
use Rattle.std.proofs.lemmas.Result.{IfOk-weaker}
use Rattle.bundle_wiring.specs.ByNeed.{wired_of}
use Rattle.bundle_wiring.specs.Placing.{IsTable}
use Rattle.bundle_wiring.proofs.WiredNeeds.{are_wired}
use Rattle.bundle_wiring.proofs.by_need.wire_needs.Goals as goal

pub wired_by_bundle-requires : goal.wired_by_bundle-requires
wired_by_bundle-requires c = c.in_ok-settled.ensures.stand

pub returns : goal.returns
returns c =
    let bundles = c.args.bundles.now in
    let table = c.as_slice-table.result.now in
    let is : IsTable bundles table = subst (IsTable bundles) (sym c.as_slice-table.ensures.value) c.in_ok-offers.ensures in
    IfOk-weaker c.wired_by_bundle.result _ _
    (λ wired h. are_wired bundles table c.in_ok-settled.settled.left.items c.in_ok-settled.settled.stands.items (map (map wired_of) wired.items) is c.in_ok-settled.ensures h) c.wired_by_bundle.ensures
