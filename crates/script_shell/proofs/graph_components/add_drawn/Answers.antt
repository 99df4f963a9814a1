use Rattle.std.proofs.Common.{◌∙◌, sym}
use Rattle.platform_hall.specs.Platforms.{world}
use Rattle.script_shell.proofs.DetailsThere.{details_there}
use Rattle.script_shell.proofs.graph_components.add_drawn.Goals as goal

pub add_with-requires : goal.add_with-requires
add_with-requires c = details_there (world c.args.core.now) c.args.number c.in-Some.details (sym c.in-Some.is ∙ c.in_ok-details.ensures)
