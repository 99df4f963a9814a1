use Rattle.std.proofs.Common.{◌≡◌, take}
use Rattle.std.specs.Prelude.{map}
use Rattle.component_state.specs.declared.living_instance.LivingInstance.{LivingInstance}
use Rattle.component_state.proofs.instance_lives.origins_of.Given as goal

abbrev pub invariant-loop-instance : goal.invariant-loop-instance
invariant-loop-instance l = map (λ o. o.now) l.found.items ≡ map (λ (i : LivingInstance). i.origin) (take l.instance-index l.instances)
