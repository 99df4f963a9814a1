use Rattle.std.proofs.Common.{◌≡◌, ◌∙◌, sym, subst, List, Bool, rules}
use Rattle.bundle_wiring.specs.Placing.{IsTable}
use Rattle.bundle_wiring.specs.Standings.{IsSettled}
use Rattle.bundle_wiring.proofs.Resolutions.{resolution}
use Rattle.bundle_wiring.proofs.resolving.resolve.Goals as goal

pub returns : goal.returns
returns c =
    let bundles = c.args.bundles.now in
    let table = c.as_slice-table.result.now in
    let left = c.as_slice-left.result.now in
    let stands = c.as_slice-stands.result.now in
    let is : IsTable bundles table = subst (IsTable bundles) (sym c.as_slice-table.ensures.value) c.in_ok-offers.ensures in
    let end : IsSettled bundles table left stands =
    subst (λ (l : List Bool). IsSettled bundles table l stands) (sym c.as_slice-left.ensures.value)
    (subst (IsSettled bundles table c.in_ok-settled.settled.left.items) (sym c.as_slice-stands.ensures.value) c.in_ok-settled.ensures) in
    resolution bundles table left stands _ is end (search (rules, c.in_ok-numbers.ensures)) (search (rules, c.in_ok-wires.ensures))
