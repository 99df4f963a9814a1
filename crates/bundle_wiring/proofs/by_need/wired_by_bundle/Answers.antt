use Rattle.std.proofs.Common.{◌≡◌, ◌∙◌, ◌+◌, ◌≤◌, ℕ, ap, length, get_or, map, drop, arith, rules}
use Rattle.std.specs.Prelude.{slice_range}
use Rattle.bundle_wiring.specs.ByNeed.{wired_of}
use Rattle.bundle_wiring.specs.Resolution.{Bundle}
use Rattle.bundle_wiring.specs.Standings.{standing_of, stood_in, wired_at}
use Rattle.bundle_wiring.proofs.WiredNeeds.{behind_stand, end_within, told_more, told_stood}
use Rattle.bundle_wiring.proofs.by_need.wired_by_bundle.Goals as goal

pub slice_bounds-wired_needs-end : goal.slice_bounds-wired_needs-end
slice_bounds-wired_needs-end c =
    let count : length c.as_slice.result.now ≡ length (get_or c.args.bundles.now c.loop-bundle.bundle-index c.bundle-item.result).1.needs =
    ap length c.as_slice.ensures ∙ ap (λ (b : Bundle). length b.1.needs) c.bundle-item.is in
    let within = end_within c.args.settled.now.left.items c.args.table.now c.args.bundles.now c.as_slice-stands.result.now c.loop-bundle.at c.loop-bundle.bundle-index c.bundle-item.result
    c.loop-bundle-test.true c.loop-bundle.invariant.stand c.loop-bundle.invariant.within in
    let all : c.loop-bundle.at + length c.as_slice.result.now ≤ length c.as_slice-stands.result.now = omega (arith, count, within) in
    first_of (omega (arith, all), search (rules, all))

pub loop-bundle-preserved : goal.loop-bundle-preserved
loop-bundle-preserved c =
    let left = c.args.settled.now.left.items in
    let table = c.args.table.now in
    let bundles = c.args.bundles.now in
    let stands = c.as_slice-stands.result.now in
    let at = c.loop-bundle.at in
    let i = c.loop-bundle.bundle-index in
    let d = c.bundle-item.result in
    let low = c.loop-bundle-test.true in
    let is = c.loop-bundle.invariant.stand in
    let count : length c.as_slice.result.now ≡ length (get_or bundles i d).1.needs = ap length c.as_slice.ensures ∙ ap (λ (b : Bundle). length b.1.needs) c.bundle-item.is in
    let within = end_within left table bundles stands at i d low is c.loop-bundle.invariant.within in
    record {
      within = omega (arith, count, within);
      stand = ap (λ (n : ℕ). map standing_of (drop (at + n) stands)) count ∙ behind_stand left table bundles stands at i d low is;
      told =
          told_more (map wired_of) (stood_in left table) c.loop-bundle.wired.items c.push.new.self.items c.in_ok-wired_needs.field-0 bundles i d _ low c.in_ok-push.ensures.items
          (c.in_ok-wired_needs.ensures ∙ (ap (λ (n : ℕ). map (wired_at table) (map standing_of (slice_range stands at (at + n)))) count ∙ told_stood left table bundles stands at i d low is)) c.loop-bundle.invariant.told;
    }
