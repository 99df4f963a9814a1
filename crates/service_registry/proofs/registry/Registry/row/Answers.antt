use Rattle.std.proofs.Common.{◌≡◌, ap, sym, ◌∙◌, List}
use Rattle.row_places.proofs.RowPlaceLaws.{find_none}
use Rattle.service_registry.specs.declared.row.ServiceRow.{ServiceRow}
use Rattle.service_registry.specs.Registries.{has_number, row_of}
use Rattle.service_registry.proofs.Found.{found}
use Rattle.service_registry.proofs.registry.Registry.row.Goals as goal

pub returns-in-Some : goal.returns-in-Some
returns-in-Some c =
    let rows : c.as_slice.result.now ≡ c.args.self.now.rows = cc in
    let there = found c.args.service c.in-Some.place c.as_slice.result.now c.index.result.now c.in-Some.ensures.only c.in-Some.ensures.within in
    cc (there, rows)

pub returns-in-None : goal.returns-in-None
returns-in-None c =
    let rows : c.as_slice.result.now ≡ c.args.self.now.rows = cc in
    sym (find_none (has_number c.args.service) c.as_slice.result.now c.in-None.ensures.only) ∙ ap (λ (l : List ServiceRow). row_of l c.args.service) rows
