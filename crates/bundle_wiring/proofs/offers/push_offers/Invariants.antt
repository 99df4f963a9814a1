use Rattle.std.proofs.Common.{◌≡◌, ◌++◌, drop}
use Rattle.std.specs.Prelude.{map}
use Rattle.bundle_wiring.specs.Wirings.{offer_of}
use Rattle.bundle_wiring.proofs.offers.push_offers.Given as goal

abbrev pub invariant-loop-path : goal.invariant-loop-path
invariant-loop-path l = l.offers.items ++ map (offer_of l.is_package l.clause l.fn.versions) (drop l.path-index l.path-items) ≡ l.initial.offers.items ++ map (offer_of l.is_package l.clause l.fn.versions) l.clause.paths
