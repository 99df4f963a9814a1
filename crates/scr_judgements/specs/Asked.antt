-- What a command makes of the component configurations and of what hangs on them. OSGi Compendium 8, chapter 112, "Component Configuration"; numbers and failures are our own.
use Rattle.std.specs.Prelude.{◌≡◌, ◌≤◌, ℕ, ◌+◌, ◌==◌, ◌&&◌, filter, length, nat_lt, not, Bool, true, false, Option, Some, None}
use Rattle.bundle_life.specs.declared.bundle.BundleState.TheVariants.{Installed, Stopping, Active}
use Rattle.scr_judgements.specs.declared.after.StateGiven.{StateGiven}
use Rattle.scr_judgements.specs.declared.asked.Asked.{Asked}
use Rattle.scr_world.specs.Legal.{IsLegal}
use Rattle.scr_world.specs.Lists.{world_of}
use Rattle.scr_world.specs.Steps.{History}
use Rattle.scr_world.specs.Stepping.{components_added_by, components_by, failed_by, is_counted, periods_with}
use Rattle.scr_world.specs.declared.command.Command.{Command}
use Rattle.scr_world.specs.declared.command.Command.TheVariants.{Update, Start, Stop, Register, Unregister, SetProperties, Get, Unget, Listen, Unlisten}
use Rattle.scr_world.specs.declared.step.Step.{Step}
use Rattle.scr_world.specs.declared.step.Step.TheVariants.{Command as Commanded}
use Rattle.scr_world.specs.declared.world.World.{World}

-- a world is that of a legal history, as long as a platform's may be
pub record IsOfLegal (w : World) : Type 0 where
  pub limit : ℕ
  pub past : History
  pub legal : IsLegal limit past
  pub small : limit ≤ 4194304
  pub is : w ≡ world_of past

-- these are the component configurations after a step, and what hangs on them
pub record IsAskedAfter (step : Step) (w : World) (asked : Asked) : Type 0 where
  pub components : asked.components ≡ components_by step w
  pub components_numbered : asked.components_numbered ≡ w.components_numbered + components_added_by step w
  pub open_periods : asked.open_periods ≡ periods_with step (components_by step w) w.open_periods
  pub failed : asked.failed ≡ failed_by step w

abbrev pub is_command : Step → Bool
is_command (Commanded command) = true
is_command _ = false

-- the commands that touch neither bundles nor documents nor configurations
abbrev pub leaves_tables : Command → Bool
leaves_tables (Register bundle interfaces properties) = true
leaves_tables (Unregister bundle service) = true
leaves_tables (SetProperties bundle service properties) = true
leaves_tables (Get bundle service) = true
leaves_tables (Unget bundle service) = true
leaves_tables (Listen bundle filter) = true
leaves_tables (Unlisten listener) = true
leaves_tables _ = false

-- a command that leaves what is asked for
abbrev pub leaves_asked : Step → Bool
leaves_asked (Commanded command) = leaves_tables command
leaves_asked _ = false

-- the state that a command gives a bundle which was installed before it (OSGi Core 8, chapter 4, "Bundle State")
abbrev pub state_given : Step → Option StateGiven
state_given (Commanded (Update bundle doc)) = Some (record { bundle = bundle; state = Installed })
state_given (Commanded (Start bundle)) = Some (record { bundle = bundle; state = Active })
state_given (Commanded (Stop bundle)) = Some (record { bundle = bundle; state = Stopping })
state_given _ = None

-- component configurations would come, and there would be more than 512
abbrev pub are_too_many : Step → World → Bool
are_too_many step w = not (components_added_by step w == 0) && nat_lt 512 (length (filter (is_counted w.instances) (components_by step w)))
