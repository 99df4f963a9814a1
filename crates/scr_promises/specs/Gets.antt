-- Gets and the instances that they are of. OSGi Core 8, chapter 5, "Getting Services"; OSGi Compendium 8, chapter 112, "Delayed Component", "Deactivation".
use Rattle.std.specs.Prelude.{◌≡◌, ◌<◌, true, false}
use Rattle.std.specs.List.{Contains}
use Rattle.scr_world.specs.Views.{ends, serves}
use Rattle.scr_world.specs.declared.instance.Instance.{Instance}
use Rattle.scr_world.specs.declared.world.World.{World}
use Rattle.use_counts.specs.declared.uses.UseRow.{UseRow}

-- as long as a bundle's get stands, no instance that serves its service for this bundle is ending; and no get is of the platform's service 0
pub record GotGoOn (w : World) : Type 0 where
  pub numbered : (u : UseRow) → Contains w.uses u → 0 < u.service
  pub going_on : (u : UseRow) → Contains w.uses u → (i : Instance) → Contains w.instances i → serves w u.bundle u.service i ≡ true → ends w i ≡ false
