use Rattle.std.proofs.Common.{◌∙◌}
use Rattle.component_state.specs.Components.{existing_of}
use Rattle.scr_world.specs.Worlds.{satisfied_in}
use Rattle.scr_readers.proofs.SameViews.{same_views}
use Rattle.scr_readers.proofs.component_views.component.Goals as goal

pub returns : goal.returns
returns c = c.in_ok-view.ensures ∙ same_views c.args.world.now c.args.satisfied.now (satisfied_in c.args.world.now) c.requires (existing_of c.args.world.now.components c.args.configuration)
