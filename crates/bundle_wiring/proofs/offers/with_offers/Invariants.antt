use Rattle.std.proofs.Common.{◌≡◌, drop}
use Rattle.bundle_wiring.specs.Wirings.{offers_after}
use Rattle.bundle_wiring.proofs.offers.with_offers.Given as goal

abbrev pub invariant-loop-clause : goal.invariant-loop-clause
invariant-loop-clause l = offers_after l.is_package l.offers.items (drop l.clause-index l.clauses) ≡ offers_after l.is_package l.initial.offers.items l.clauses
