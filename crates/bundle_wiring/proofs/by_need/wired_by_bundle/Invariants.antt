use Rattle.std.proofs.Common.{◌≡◌, ◌≤◌, ◌++◌, length, drop, map}
use Rattle.bundle_wiring.specs.ByNeed.{wired_of}
use Rattle.bundle_wiring.specs.Standings.{all_standing, standing_of, stood_in}
use Rattle.bundle_wiring.proofs.by_need.wired_by_bundle.Given as goal

-- the needs of the bundles that are left stand from here on, and those of the others are told
abbrev pub invariant-loop-bundle : goal.invariant-loop-bundle
invariant-loop-bundle l = record {
  within : l.at ≤ length l.stands;
  stand : map standing_of (drop l.at l.stands) ≡ all_standing l.settled.left.items l.table l.bundle-index (drop l.bundle-index l.bundles);
  told : map (map wired_of) l.wired.items ++ map (stood_in l.settled.left.items l.table) (drop l.bundle-index l.bundles) ≡ map (stood_in l.settled.left.items l.table) l.bundles;
}
