use Rattle.std.proofs.Common.{◌∙◌}
use Rattle.component_state.specs.Components.{existing}
use Rattle.scr_world.specs.Worlds.{satisfied_in}
use Rattle.scr_readers.proofs.SameListed.{same_listed}
use Rattle.scr_readers.proofs.listings.listed_components.Goals as goal

pub returns : goal.returns
returns c = c.in_ok-lines.ensures ∙ same_listed c.args.world.now c.args.satisfied.now (satisfied_in c.args.world.now) c.requires (existing c.args.world.now.components)
