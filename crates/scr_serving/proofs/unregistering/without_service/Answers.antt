use Rattle.std.proofs.Common.{◌≡◌, ◌∙◌, ap, Some, None}
use Rattle.service_registry.specs.Registries.{refusal}
use Rattle.service_registry.specs.declared.fault.RegistryFault.{RegistryFault}
use Rattle.scr_serving.proofs.unregistering.without_service.Goals as goal

none_told : (fault : RegistryFault) → Some fault ≡ None → ⊥
none_told fault is = cc

pub unreachable-requires : goal.unreachable-requires
unreachable-requires c = none_told _ (c.in-Err.ensures.refused ∙ ap (refusal c.args.bundle c.args.service) c.in_ok-after.ensures ∙ c.requires)
