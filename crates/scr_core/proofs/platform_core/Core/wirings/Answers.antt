use Rattle.std.proofs.Common.{◌∙◌, ap, subst}
use Rattle.kept_wirings.specs.KeptRows.{AreKept}
use Rattle.scr_core.specs.Cores.{CoreView}
use Rattle.scr_world.specs.Calls.{world_at}
use Rattle.scr_world.specs.declared.world.World.{World}
use Rattle.scr_core.proofs.platform_core.Core.wirings.Goals as goal

pub returns : goal.returns
returns c =
    subst (λ (w : World). AreKept w.documents c.self.inside.wirings) (c.self.invariant.0.state.world ∙ ap (λ (v : CoreView). world_at v.journal) c.self.view_is) c.self.invariant.3
