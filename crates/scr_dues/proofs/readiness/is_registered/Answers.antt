use Rattle.std.proofs.Common.{◌∙◌}
use Rattle.scr_dues.proofs.Rows.{any_numbered}
use Rattle.scr_dues.proofs.readiness.is_registered.Goals as goal

pub returns : goal.returns
returns c = c.is_some.ensures ∙ any_numbered c.row.result c.args.registry.now.rows c.args.service c.row.ensures
