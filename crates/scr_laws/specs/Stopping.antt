-- When a bundle is stopping. OSGi Core 8, chapter 4, "Stopping Bundles".
use Rattle.std.specs.Prelude.{◌≡◌, ◌⊎◌, ℕ, ◌&&◌, not, true}
use Rattle.std.specs.List.{Contains, list_any}
use Rattle.bundle_life.specs.declared.bundle.BundleLife.{BundleLife}
use Rattle.bundle_life.specs.Lives.{is_active, is_stopping}
use Rattle.scr_world.specs.Consequences.{keeps_bundle}
use Rattle.scr_world.specs.declared.world.World.{World}

-- an installed bundle is STOPPING exactly where it isn't ACTIVE and an instance of one of its components, or one that
-- was made for it, lives
abbrev pub StopsForInstances : World → Type 0
StopsForInstances w = (b : BundleLife) → Contains w.bundles.rows b → is_stopping b.state ≡ (not (is_active b.state) && list_any (keeps_bundle w.components b.number) w.instances)
