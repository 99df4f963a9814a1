use Rattle.std.proofs.Common.{rules}
use Rattle.std.specs.Prelude.{◌==◌, not}
use Rattle.std.proofs.lemmas.Fn.{filter_same}
use Rattle.component_state.specs.declared.living_instance.LivingInstance.{LivingInstance}
use Rattle.component_state.proofs.instance_lives.without.Goals as goal

pub returns : goal.returns
returns c = filter_same _ (λ (i : LivingInstance). not (i.number == c.args.number)) _ (λ x b f' k. search rules) c.args.instances.now.items c.retain.new.self.items c.retain.ensures.filtered
