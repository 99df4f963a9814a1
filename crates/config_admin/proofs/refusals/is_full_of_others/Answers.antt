use Rattle.std.proofs.Common.{◌∙◌, ap, sym}
use Rattle.std.specs.Prelude.{◌&&◌, nat_le, length, not}
use Rattle.std.specs.Str.{bytes_eq}
use Rattle.config_admin.specs.Configurations.{factory_pid}
use Rattle.config_admin.specs.declared.configuration.Configuration.{Configuration}
use Rattle.config_admin.proofs.FactoryPids.{none_found}
use Rattle.config_admin.proofs.refusals.is_full_of_others.Goals as goal

pub returns-then-not-has_named : goal.returns-then-not-has_named
returns-then-not-has_named c =
    sym (ap (λ b. b && nat_le 1024 (length c.args.rows.now))
    (none_found (λ (d : Configuration). bytes_eq d.pid (factory_pid c.args.factory.now c.args.name.now)) c.args.rows.now ∙ sym (ap not c.has_named.ensures) ∙ ap not c.if-not-has_named.true))

pub returns-else-not-has_named : goal.returns-else-not-has_named
returns-else-not-has_named c =
    ap not c.if-not-has_named.false ∙ sym (ap (λ b. b && nat_le 1024 (length c.args.rows.now))
    (none_found (λ (d : Configuration). bytes_eq d.pid (factory_pid c.args.factory.now c.args.name.now)) c.args.rows.now ∙ sym (ap not c.has_named.ensures) ∙ ap not c.if-not-has_named.false))
