use Rattle.std.proofs.Common.{◌≡◌, ap, sym, subst, ◌∙◌, Some}
use Rattle.std.specs.Prelude.{option_map}
use Rattle.service_registry.specs.Registries.{row_of, set_row, with_properties}
use Rattle.service_registry.proofs.registry.Registry.set_properties.Goals as goal

pub returns-clause-ok : goal.returns-clause-ok
returns-clause-ok c =
    c.exchange-before.ensures.set c.args.properties
    (subst (λ n. option_map (set_row c.args.properties) (row_of c.args.self.now.rows n) ≡ Some c.in_ok-row.row) (sym c.in_ok-row.ensures.number) c.in_ok-row.ensures.row)
    ∙ ap (λ n. with_properties n c.args.properties c.args.self.now) c.in_ok-row.ensures.number
