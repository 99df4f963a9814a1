use Rattle.std.proofs.Common.{◌∙◌, ap}
use Rattle.scr_world.specs.Worlds.{registered_services}
use Rattle.service_registry.specs.Registries.{has_number, row_of}
use Rattle.scr_dues.proofs.Rows.{found_in_first, found_in_second}
use Rattle.scr_dues.proofs.services.row_known.Goals as goal

pub returns-in-Some : goal.returns-in-Some
returns-in-Some c = found_in_first (has_number c.args.service) (registered_services c.args.world.now) c.args.world.now.unregistered_held c.in-Some.row.now c.in-Some.ensures

pub returns-in-None : goal.returns-in-None
returns-in-None c = c.row_among.ensures ∙ ap (λ rows. row_of rows c.args.service) c.as_slice.ensures ∙ found_in_second (has_number c.args.service) (registered_services c.args.world.now) c.args.world.now.unregistered_held c.in-None.ensures
