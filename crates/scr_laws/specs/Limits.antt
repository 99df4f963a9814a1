-- The limits of a platform. Our own.
use Rattle.std.specs.Prelude.{ℕ, ◌<◌, ◌≤◌, length}
use Rattle.std.specs.List.{Contains}
use Rattle.scr_world.specs.Stepping.{counted_components}
use Rattle.scr_world.specs.declared.instance.Instance.{Instance}
use Rattle.scr_world.specs.declared.world.World.{World}

-- at most 128 bundles, 1,024 services that commands registered, 1,024 configurations, 64 listeners, and 512 component
-- configurations, those counted that exist or of which an instance lives; at most 512 times 129 instances, and each
-- has a slot below 70,000
pub record AreWithin (w : World) : Type 0 where
  pub bundles : length w.bundles.rows ≤ 128
  pub services : length w.registry.rows ≤ 1024
  pub configurations : length w.configurations ≤ 1024
  pub listeners : length w.listeners.rows ≤ 64
  pub components : length (counted_components w) ≤ 512
  pub instances : length w.instances ≤ 66048
  pub slots : (i : Instance) → Contains w.instances i → i.slot < 70000
