use Rattle.std.proofs.Common.{◌≡◌, take}
use Rattle.service_registry.specs.Services.{published}
use Rattle.component_state.proofs.service_rows.without_private.Given as goal

abbrev pub invariant-loop-property : goal.invariant-loop-property
invariant-loop-property l = l.shown ≡ published (take l.property-index l.properties)
