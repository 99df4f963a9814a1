-- When an instance ends. OSGi Compendium 8, chapter 112, "Activation", "Deactivation".
use Rattle.std.specs.Prelude.{◌≡◌, ◌==◌, ◌&&◌, ◌||◌, List, Bool, true, false, not}
use Rattle.std.specs.List.{Contains, list_any}
use Rattle.bundle_life.specs.Lives.{is_active, state_is}
use Rattle.callback_orders.specs.declared.instance_view.Phase.TheVariants.{Left}
use Rattle.callback_orders.specs.declared.word.Called.{Called}
use Rattle.callback_orders.specs.Grammar.{is_deactivate, of}
use Rattle.callback_orders.specs.Lives.{phase_of}
use Rattle.component_state.specs.Periods.{is_current}
use Rattle.scr_world.specs.Instances.{has_failed}
use Rattle.scr_world.specs.Views.{ends}
use Rattle.scr_world.specs.declared.instance.Instance.{Instance}
use Rattle.scr_world.specs.declared.world.World.{World}

-- a Deactivate was begun, whether it has ended or not
abbrev pub has_deactivate : List Called → Bool
has_deactivate calls = list_any (of is_deactivate) calls

-- an instance was made for a bundle that isn't active any more
abbrev pub outlives_consumer : World → Instance → Bool
outlives_consumer w i = not (i.consumer == 0) && not (state_is is_active w.bundles.rows i.consumer)

-- who is told of Deactivate, or has left its active life, is ending; where an activation failed the open period has ended, so that an instance is
-- ending just where its open period has ended or it was made for a bundle that isn't active
pub record EndInTime (w : World) : Type 0 where
  pub deactivated : (i : Instance) → Contains w.instances i → has_deactivate i.callbacks ≡ true → ends w i ≡ true
  pub left : (i : Instance) → Contains w.instances i → phase_of i.callbacks ≡ Left → ends w i ≡ true
  pub failed : (i : Instance) → Contains w.instances i → has_failed i.callbacks ≡ true → is_current w.open_periods i.origin ≡ false
  pub reasons : (i : Instance) → Contains w.instances i → ends w i ≡ (not (is_current w.open_periods i.origin) || outlives_consumer w i)

-- an instance of both worlds goes on ending, and its open period, once it has ended, doesn't come back
pub record GoOnEnding (before now : World) : Type 0 where
  pub ending : (i j : Instance) → Contains before.instances i → Contains now.instances j → i.number ≡ j.number → ends before i ≡ true → ends now j ≡ true
  pub period : (i j : Instance) → Contains before.instances i → Contains now.instances j → i.number ≡ j.number → is_current before.open_periods i.origin ≡ false → is_current now.open_periods j.origin ≡ false
