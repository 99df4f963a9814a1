use Rattle.std.proofs.Common.{◌∙◌, ap}
use Rattle.component_state.specs.Rows.{rows_of}
use Rattle.service_registry.specs.Registries.{has_number, row_of}
use Rattle.scr_dues.proofs.Rows.{found_in_first, found_in_second}
use Rattle.scr_readers.proofs.service_views.listed_service.Goals as goal

pub returns-in-Some : goal.returns-in-Some
returns-in-Some c = found_in_first (has_number c.args.service) c.args.world.now.registry.rows (rows_of c.args.world.now.open_periods) c.in-Some.row.now c.in-Some.ensures

pub returns-in-None : goal.returns-in-None
returns-in-None c = c.opened_row.ensures ∙ ap (λ ps. row_of (rows_of ps) c.args.service) c.as_slice.ensures ∙ found_in_second (has_number c.args.service) c.args.world.now.registry.rows (rows_of c.args.world.now.open_periods) c.in-None.ensures
