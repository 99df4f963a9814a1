use Rattle.std.proofs.Common.{◌++◌, ap, ◌∙◌}
use Rattle.std.specs.Prelude.{slice_get}
use Rattle.wb_routes.specs.Tables.{service_at}
use Rattle.wb_routes.proofs.TableLemmas.{found_there}
use Rattle.wb_routes.proofs.table.owner_in.Goals as goal

pub returns : goal.returns
returns c =
    let text = c.args.front.now ++ c.args.end.now in
    c.service_at.ensures ∙ ap (λ i. service_at text (slice_get c.args.rows.now i)) c.place_of.ensures ∙ found_there text c.args.rows.now c.requires
