use Rattle.std.proofs.Common.{◌≡◌, ◌++◌, drop, map}
use Rattle.wiring_reader.specs.Telling.{offer_line}
use Rattle.wiring_reader.proofs.bundle_lines.push_offers.Given as goal

abbrev pub invariant-loop-offer : goal.invariant-loop-offer
invariant-loop-offer l = l.lines.items ++ map offer_line (drop l.offer-index l.offers) ≡ l.initial.lines.items ++ map offer_line l.offers
