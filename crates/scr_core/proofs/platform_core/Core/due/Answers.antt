use Rattle.std.proofs.Common.{◌∙◌, ap}
use Rattle.std.specs.Prelude.{Option, is_some}
use Rattle.callback_orders.specs.declared.due.DueRef.{DueRef}
use Rattle.scr_core.specs.Cores.{CoreView}
use Rattle.scr_world.specs.Calls.{world_at}
use Rattle.scr_world.specs.Dues.{due_in}
use Rattle.scr_world.specs.declared.world.World.{World}
use Rattle.scr_core.proofs.platform_core.Core.due.Goals as goal

pub returns : goal.returns
returns c =
    c.is_some.ensures
    ∙ ap (λ (due : Option DueRef). is_some due) c.in_ok-due.ensures
    ∙ ap (λ (w : World). is_some (due_in w)) c.self.invariant.0.state.world
    ∙ ap (λ (v : CoreView). is_some (due_in (world_at v.journal))) c.self.view_is
