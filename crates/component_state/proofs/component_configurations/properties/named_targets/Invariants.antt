use Rattle.std.proofs.Common.{◌≡◌, [], drop, fold}
use Rattle.component_state.specs.ComponentConfigurations.{with_target}
use Rattle.component_state.proofs.component_configurations.properties.named_targets.Given as goal

abbrev pub invariant-loop-reference : goal.invariant-loop-reference
invariant-loop-reference l = fold with_target l.properties (drop l.reference-index l.references) ≡ fold with_target [] l.references
