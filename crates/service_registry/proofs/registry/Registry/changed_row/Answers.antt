use Rattle.std.proofs.Common.{ap, ◌∙◌}
use Rattle.service_registry.specs.Registries.{set_row}
use Rattle.service_registry.proofs.Undone.{changed_number, changed_there}
use Rattle.service_registry.proofs.registry.Registry.changed_row.Goals as goal

pub returns-clause-row : goal.returns-clause-row
returns-clause-row c =
    changed_there c.args.properties c.args.service c.in_ok-place.place c.self.inside.numbered c.as_slice.result.now c.self.inside.rows.items c.args.self.now c.in_ok-row.row c.index.result.now
    c.as_slice.ensures.value c.self.view_is c.in_ok-place.ensures.only c.in_ok-place.ensures.within (c.in_ok-row.ensures ∙ ap (set_row c.args.properties) c.index.ensures)

pub returns-clause-number : goal.returns-clause-number
returns-clause-number c =
    changed_number c.args.properties c.args.service c.in_ok-place.place c.as_slice.result.now c.self.inside.rows.items c.in_ok-row.row c.index.result.now
    c.as_slice.ensures.value c.in_ok-place.ensures.only (c.in_ok-row.ensures ∙ ap (set_row c.args.properties) c.index.ensures)
