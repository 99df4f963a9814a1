use Rattle.std.proofs.Common.{◌≡◌, ap, sym, ◌∙◌, None, Option}
use Rattle.config_admin.specs.declared.configuration.Configuration.{Configuration}
use Rattle.config_admin.specs.Undoing.{with_earlier}
use Rattle.config_admin.proofs.Undone.{restored}
use Rattle.config_admin.proofs.table.Configurations.restore.Goals as goal

pub returns-in-Some-clause-undone : goal.returns-in-Some-clause-undone
returns-in-Some-clause-undone c configurations set ordered is was =
    let now : c.exchange.new.rows.items ≡ with_earlier c.args.before.pid c.args.before.was c.args.self.now =
    c.exchange.ensures.now ∙ ap (λ (o : Option Configuration). with_earlier c.args.before.pid o c.self.inside.rows.items) (sym c.in-Some.is)
    ∙ ap (with_earlier c.args.before.pid c.args.before.was) c.self.view_is in
    now ∙ ap (with_earlier c.args.before.pid c.args.before.was) was ∙ restored set c.args.before configurations ordered is

pub returns-clause-undone : goal.returns-clause-undone
returns-clause-undone c configurations set ordered is was =
    let now : c.leave_out.new.rows.items ≡ with_earlier c.args.before.pid c.args.before.was c.args.self.now =
    c.leave_out.ensures.now ∙ ap (λ p. with_earlier p None c.self.inside.rows.items) c.as_str.ensures
    ∙ ap (λ (o : Option Configuration). with_earlier c.args.before.pid o c.self.inside.rows.items) (sym c.in-None.is)
    ∙ ap (with_earlier c.args.before.pid c.args.before.was) c.self.view_is in
    now ∙ ap (with_earlier c.args.before.pid c.args.before.was) was ∙ restored set c.args.before configurations ordered is
