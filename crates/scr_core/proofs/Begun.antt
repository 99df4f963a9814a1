-- The step that begins the next turn is a beginning, and may come.
use Rattle.std.proofs.Common.{◌≡◌, ◌+◌, sym, ap, refl, true, Option, Some, None}
use Rattle.std.specs.Prelude.{option_map, option_and_then}
use Rattle.callback_orders.specs.declared.callback.Callback.TheVariants.{Create}
use Rattle.callback_orders.specs.declared.due.DueRef.{DueRef}
use Rattle.callback_orders.specs.declared.due.DueRef.TheVariants.{Create as CreateDue, Bind, Updated, Unbind, Activate, Modified, Deactivate, Destroy}
use Rattle.scr_core.specs.Steps.{is_beginning}
use Rattle.scr_laws.specs.Gates.{shuts_nothing}
use Rattle.scr_world.specs.Dues.{begin_for, begin_of, choices, due_in, next_begin}
use Rattle.scr_world.specs.Legal.{MayCome}
use Rattle.scr_world.specs.TurnSteps.{is_turn_step}
use Rattle.scr_world.specs.declared.instance.Instance.{Instance}
use Rattle.scr_world.specs.declared.step.Step.{Step}
use Rattle.scr_world.specs.declared.step.Step.TheVariants.{Command as Commanded, Begin, End, Drained, Got, Released}
use Rattle.scr_world.specs.declared.world.World.{World}

module _ (w : World) where
  told : (d : DueRef) (o : Option Instance) (step : Step) → option_map (begin_for w d) o ≡ Some step → is_beginning step ≡ true
  told d None step is = cc
  told d (Some i) step is = let here : begin_for w d i ≡ step = cc in ap is_beginning (sym here)

  by_due : (d : DueRef) (step : Step) → begin_of w d ≡ Some step → is_beginning step ≡ true
  by_due (CreateDue key) step is =
      let here : Begin (w.turns_begun + 1) (w.instances_numbered + 1) key.configuration key.consumer Create (choices w key.configuration) ≡ step = cc in ap is_beginning (sym here)
  by_due (Bind n r s) step is = told (Bind n r s) _ step is
  by_due (Updated n r s) step is = told (Updated n r s) _ step is
  by_due (Unbind n r s) step is = told (Unbind n r s) _ step is
  by_due (Activate n) step is = told (Activate n) _ step is
  by_due (Modified n) step is = told (Modified n) _ step is
  by_due (Deactivate n) step is = told (Deactivate n) _ step is
  by_due (Destroy n) step is = told (Destroy n) _ step is

  pub next_is_beginning : (step : Step) → next_begin w ≡ Some step → is_beginning step ≡ true
  next_is_beginning step is = go (due_in w) is
    where
      go : (o : Option DueRef) → option_and_then (begin_of w) o ≡ Some step → is_beginning step ≡ true
      go None begins = cc
      go (Some d) begins = by_due d step begins

  may_by : (step : Step) → is_beginning step ≡ true → next_begin w ≡ Some step → MayCome w step
  may_by (Commanded command) begins is = cc
  may_by (Begin t i c b callback chosen) begins is = is
  may_by (End t o) begins is = cc
  may_by (Drained i) begins is = cc
  may_by (Got b s) begins is = cc
  may_by (Released p) begins is = cc

  pub next_may : (step : Step) → next_begin w ≡ Some step → MayCome w step
  next_may step is = may_by step (next_is_beginning step is) is

turns_by : (step : Step) → is_beginning step ≡ true → is_turn_step step ≡ true
turns_by (Commanded command) begins = cc
turns_by (Begin t i c b callback chosen) begins = refl
turns_by (End t o) begins = refl
turns_by (Drained i) begins = refl
turns_by (Got b s) begins = refl
turns_by (Released p) begins = refl

still_by : (step : Step) → is_beginning step ≡ true → shuts_nothing step ≡ true
still_by (Commanded command) begins = cc
still_by (Begin t i c b callback chosen) begins = refl
still_by (End t o) begins = cc
still_by (Drained i) begins = refl
still_by (Got b s) begins = refl
still_by (Released p) begins = refl

pub next_turns : (w : World) (step : Step) → next_begin w ≡ Some step → is_turn_step step ≡ true
next_turns w step is = turns_by step (next_is_beginning w step is)

pub next_still : (w : World) (step : Step) → next_begin w ≡ Some step → shuts_nothing step ≡ true
next_still w step is = still_by step (next_is_beginning w step is)
