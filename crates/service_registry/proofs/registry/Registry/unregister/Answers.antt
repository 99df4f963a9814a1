use Rattle.std.proofs.Common.{◌≡◌, ap, sym, ◌∙◌}
use Rattle.service_registry.specs.Registries.{unregistered}
use Rattle.service_registry.proofs.Found.{found, removed}
use Rattle.service_registry.proofs.registry.Registry.unregister.Goals as goal

pub returns-clause-row : goal.returns-clause-row
returns-clause-row c =
    let rows : c.as_slice.result.now ≡ c.args.self.now.rows = cc in
    let there = found c.args.service c.in_ok-place.place c.as_slice.result.now c.remove.result c.in_ok-place.ensures.only c.in_ok-place.ensures.within in
    cc (there, rows)

pub returns-clause-ok : goal.returns-clause-ok
returns-clause-ok c =
    removed c.args.service c.in_ok-place.place c.self.inside.numbered c.as_slice.result.now c.remove.new.self.items c.self.inside.rows.items c.as_slice.ensures.value c.in_ok-place.ensures.only c.remove.ensures.items
    ∙ ap (unregistered c.args.service) c.self.view_is
