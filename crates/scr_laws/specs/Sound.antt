-- What holds of the world of every legal journal, for other laws and for code. Our own.
use Rattle.std.specs.Prelude.{◌≡◌, ◌<◌, true}
use Rattle.std.specs.List.{Contains}
use Rattle.component_state.specs.declared.component.Component.{Component}
use Rattle.component_state.specs.declared.open_period.OpenPeriod.{OpenPeriod}
use Rattle.component_state.specs.Components.{are_numbered}
use Rattle.component_state.specs.Inside.Ready.{ArePlain, IsPeriodOf}
use Rattle.level_order.specs.Levels.{AreLevels}
use Rattle.scr_world.specs.declared.instance.Instance.{Instance}
use Rattle.scr_world.specs.declared.world.World.{World}
use Rattle.scr_world.specs.Instances.{lives_on}
use Rattle.scr_world.specs.Legal.{IsOpenFromScratch}
use Rattle.scr_world.specs.Levels.{levels_of}
use Rattle.scr_world.specs.Tables.{descriptions_of}

-- levels are right; each component configuration has a number of its own, and one of the descriptions; each open period is that of a component configuration,
-- once, with its service as it is now, and was opened before; open is what is satisfied from scratch and isn't held back; each instance lives on, and was
-- made before
pub record IsSound (w : World) : Type 0 where
  pub acyclic : AreLevels (descriptions_of w.documents) (levels_of (descriptions_of w.documents))
  pub numbered : are_numbered w.components ≡ true
  pub described : (c : Component) → Contains w.components c → Contains (descriptions_of w.documents) c.description
  pub periods : (p : OpenPeriod) → Contains w.open_periods p → IsPeriodOf w.components p
  pub plain : ArePlain w.open_periods
  pub earlier : (p : OpenPeriod) → Contains w.open_periods p → p.opened < w.entries
  pub scratch : IsOpenFromScratch w
  pub living : (i : Instance) → Contains w.instances i → lives_on i ≡ true
  pub created : (i : Instance) → Contains w.instances i → i.origin.created < w.entries
