use Rattle.std.proofs.Common.{◌∙◌, ap, rules}
use Rattle.std.specs.Prelude.{◌==◌, not, filter}
use Rattle.std.proofs.lemmas.Fn.{filter_same}
use Rattle.component_state.specs.declared.open_period.OpenPeriod.{OpenPeriod}
use Rattle.component_state.proofs.pass_steps.without.Goals as goal

pub returns : goal.returns
returns c =
    c.of.ensures ∙ filter_same _ (λ (o : OpenPeriod). not (o.configuration == c.args.number)) _ (λ x b f' k. search rules) c.items-items.result.items c.retain.new.self.items c.retain.ensures.filtered
    ∙ ap (filter (λ (o : OpenPeriod). not (o.configuration == c.args.number))) c.items-items.ensures
