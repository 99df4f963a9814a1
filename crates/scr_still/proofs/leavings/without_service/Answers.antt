use Rattle.std.proofs.Common.{◌∙◌, ap, rules}
use Rattle.std.specs.Prelude.{◌==◌, not, filter}
use Rattle.std.proofs.lemmas.Fn.{filter_same}
use Rattle.service_registry.specs.declared.row.ServiceRow.{ServiceRow}
use Rattle.scr_still.proofs.leavings.without_service.Goals as goal

pub returns : goal.returns
returns c =
    c.of.ensures ∙ filter_same _ (λ (r : ServiceRow). not (r.id == c.args.service)) _ (λ x b f' k. search rules) c.items-kept.result.items c.retain.new.self.items c.retain.ensures.filtered
    ∙ ap (filter (λ (r : ServiceRow). not (r.id == c.args.service))) c.items-kept.ensures
