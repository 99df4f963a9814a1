-- The beginning of a turn, as a step. Our own.
use Rattle.std.specs.Prelude.{◌+◌, ◌^◌, ◌<◌}
use Rattle.scr_world.specs.declared.step.Step.{Step}
use Rattle.scr_world.specs.declared.step.Step.TheVariants.{Begin}
use Rattle.scr_world.specs.declared.world.World.{World}
use Rattle.scr_dues.specs.declared.beginnings.Beginning.{Beginning}

abbrev pub step_of : Beginning → Step
step_of b = Begin b.turn b.instance b.configuration b.consumer b.callback b.chosen

-- the next turn and the next instance have a number of 64 bits
pub record HasNextNumbers (w : World) : Type 0 where
  pub turns : w.turns_begun + 1 < 2 ^ 64
  pub instances : w.instances_numbered + 1 < 2 ^ 64
