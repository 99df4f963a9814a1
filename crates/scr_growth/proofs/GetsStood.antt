-- Each get behind a step stood before it: it was there, or it is the one that the step gets, of a registered service for an ACTIVE bundle. Only a stop takes a
-- bundle out of ACTIVE.
use Rattle.std.proofs.Common.{◌≡◌, ℕ, List, refl, true, false}
use Rattle.bundle_life.specs.Lives.{is_active, state_is}
use Rattle.component_state.specs.declared.open_period.OpenPeriod.{OpenPeriod}
use Rattle.scr_consequences.specs.Gets.{HaveStood, is_stop, stands}
use Rattle.scr_growth.specs.Growths.{passed_world}
use Rattle.scr_laws.proofs.OwnerLaws.{active_after}
use Rattle.scr_laws.proofs.StandingGets.{tokens_after, tokens_stand, uses_after, uses_stand}
use Rattle.scr_world.specs.Legal.{MayCome}
use Rattle.scr_world.specs.Lists.{is_active_bundle, world_of}
use Rattle.scr_world.specs.Steps.{History}
use Rattle.scr_world.specs.Stepping.{world_after_step}
use Rattle.scr_world.specs.Tables.{bundles_by}
use Rattle.scr_world.specs.declared.command.Command.TheVariants.{Stop}
use Rattle.scr_world.specs.declared.step.Step.{Step}
use Rattle.scr_world.specs.declared.step.Step.TheVariants.{Command as Commanded, Begin, End, Drained, Got, Released}
use Rattle.scr_world.specs.declared.world.World.{World}

active_then : (w : World) (step : Step) → MayCome w step → is_stop step ≡ false → (n : ℕ) → is_active_bundle w n ≡ true → state_is is_active (bundles_by step w.bundles).rows n ≡ true
active_then w (Commanded (Stop bundle)) may spared n on = absurd cc
active_then w (Commanded command) may spared n on = active_after w (Commanded command) may n refl on
active_then w (Begin turn instance configuration consumer callback chosen) may spared n on = on
active_then w (End turn outcome) may spared n on = on
active_then w (Drained instance) may spared n on = on
active_then w (Got bundle service) may spared n on = on
active_then w (Released place) may spared n on = on

pub have_stood : (past : History) (step : Step) → MayCome (world_of past) step → (now : List OpenPeriod) → HaveStood step (world_of past) (passed_world step (world_of past) now)
unfolding stands world_after_step
have_stood past step may now = record {
  uses = uses_after (world_of past) step may (uses_stand past);
  tokens = tokens_after (world_of past) step may (tokens_stand past);
  bundles = active_then (world_of past) step may;
}
