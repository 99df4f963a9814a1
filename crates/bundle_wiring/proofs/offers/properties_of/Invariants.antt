use Rattle.std.proofs.Common.{◌≡◌, drop}
use Rattle.std.specs.Prelude.{fold}
use Rattle.bundle_wiring.specs.Wirings.{properties_of, with_attribute}
use Rattle.bundle_wiring.proofs.offers.properties_of.Given as goal

abbrev pub invariant-loop-attribute : goal.invariant-loop-attribute
invariant-loop-attribute l = fold with_attribute l.properties (drop l.attribute-index l.attributes) ≡ properties_of l.attributes
