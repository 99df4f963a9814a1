use Rattle.std.proofs.Common.{◌∙◌, sym}
use Rattle.std.specs.Prelude.{◌==◌}
use Rattle.component_state.specs.declared.origin.Origin.{Origin}
use Rattle.component_state.proofs.Among.{any_map}
use Rattle.component_state.proofs.reasons.has_life.Goals as goal

pub returns : goal.returns
returns c = c.is_any_of.ensures ∙ sym (any_map (λ (o : Origin). o.configuration == c.args.number) (λ o. o.now) c.args.origins.now)
