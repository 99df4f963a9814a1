-- A journal, read again from its entries alone. Our own form.
use Rattle.std.specs.Prelude.{◌≡◌, ◌==◌, ◌&&◌, ℕ, List, [], ◌∷◌, ◌++◌, map, filter, Bool, true, false, not, if◌then◌else◌}
use Rattle.callback_orders.specs.declared.callback.Callback.{Callback}
use Rattle.callback_orders.specs.declared.callback.Callback.TheVariants.{Create}
use Rattle.callback_orders.specs.declared.callback.Outcome.{Outcome}
use Rattle.callback_orders.specs.Grammar.{is_create}
use Rattle.callback_orders.specs.Lives.{is_living, phase_of}
use Rattle.callback_orders.specs.Sequences.{begun, ended, is_outstanding}
use Rattle.component_state.specs.declared.open_period.OpenPeriod.{OpenPeriod}
use Rattle.journal_core.specs.declared.entry.Entry.{Entry}
use Rattle.journal_core.specs.declared.entry.Opened.{Opened}
use Rattle.prop_map.specs.Words.{has}
use Rattle.scr_world.specs.declared.instance.Instance.{Instance}
use Rattle.scr_world.specs.declared.step.Step.{Step}
use Rattle.scr_world.specs.declared.step.Step.TheVariants.{Command as Commanded, Begin, End, Drained, Got, Released}
use Rattle.scr_world.specs.declared.world.World.{World}
use Rattle.scr_world.specs.Instances.{is_active_phase}
use Rattle.script_shell.specs.declared.journal_replay.Living.{Living}

-- ---- turns

abbrev pub is_begin : Step → Bool
is_begin (Begin turn instance configuration consumer callback chosen) = true
is_begin _ = false

abbrev pub begins_turn : Entry Step → Bool
begins_turn entry = is_begin entry.step

-- ---- open component configurations

abbrev pub configurations_of : List OpenPeriod → List ℕ
configurations_of open_ones = map (λ (p : OpenPeriod). p.configuration) open_ones

-- those that are open after an entry
abbrev pub open_after_entry : Entry Step → List ℕ → List ℕ
open_after_entry entry open_ones = filter (λ c. not (has entry.closed c)) open_ones ++ map (λ (o : Opened). o.configuration) entry.opened

-- ---- living instances

abbrev pub lived : Instance → Living
lived i = record { number = i.number; turn = i.turn; callbacks = i.callbacks }

abbrev pub is_active_living : Living → Bool
is_active_living l = is_active_phase (phase_of l.callbacks)

-- an instance whose Create begins
abbrev pub made : ℕ → ℕ → Living
made turn instance = record { number = instance; turn = turn; callbacks = begun Create ∷ [] }

-- the instance of this number is told of a callback in a turn
abbrev pub with_begun : ℕ → ℕ → Callback → Living → Living
with_begun turn instance callback l = if l.number == instance then record { number = l.number; turn = turn; callbacks = l.callbacks ++ begun callback ∷ [] } else l

abbrev pub living_begun : ℕ → ℕ → Callback → List Living → List Living
living_begun turn instance callback living = if is_create callback then living ++ made turn instance ∷ [] else map (with_begun turn instance callback) living

-- the instance whose turn ends gets its outcome
abbrev pub with_ended : ℕ → Outcome → Living → Living
with_ended turn outcome l = if (l.turn == turn) && is_outstanding l.callbacks then record { number = l.number; turn = l.turn; callbacks = ended outcome l.callbacks } else l

abbrev pub lives_on : Living → Bool
lives_on l = is_living l.callbacks

-- those that live after a step
abbrev pub living_after : Step → List Living → List Living
living_after (Begin turn instance configuration consumer callback chosen) living = living_begun turn instance callback living
living_after (End turn outcome) living = filter lives_on (map (with_ended turn outcome) living)
living_after (Commanded command) living = living
living_after (Drained instance) living = living
living_after (Got bundle service) living = living
living_after (Released place) living = living

-- ---- both

-- these are the open component configurations of a world, and its living instances
pub record IsReplayOf (w : World) (open_now : List ℕ) (living_now : List Living) : Type 0 where
  pub open_ones : open_now ≡ configurations_of w.open_periods
  pub living : living_now ≡ map lived w.instances
