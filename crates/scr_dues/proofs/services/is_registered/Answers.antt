use Rattle.std.proofs.Common.{◌∙◌}
use Rattle.scr_world.specs.Worlds.{registered_services}
use Rattle.scr_dues.proofs.Rows.{any_numbered}
use Rattle.scr_dues.proofs.services.is_registered.Goals as goal

pub returns : goal.returns
returns c = c.is_some.ensures ∙ any_numbered c.registered_row.result (registered_services c.args.world.now) c.args.service c.registered_row.ensures
