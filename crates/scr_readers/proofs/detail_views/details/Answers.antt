use Rattle.std.proofs.Common.{◌∙◌}
use Rattle.component_state.specs.Components.{existing_of}
use Rattle.scr_world.specs.Worlds.{satisfied_in}
use Rattle.scr_readers.proofs.SameDetails.{same_details}
use Rattle.scr_readers.proofs.detail_views.details.Goals as goal

pub returns : goal.returns
returns c = c.in_ok-details.ensures ∙ same_details c.args.world.now c.args.satisfied.now (satisfied_in c.args.world.now) c.requires (existing_of c.args.world.now.components c.args.configuration)
