-- A turn that is taken from the core, as a desk says it.
use Rattle.std.proofs.Common.{◌≡◌, refl, ap, ◌∙◌, Bool, true, false, Option, Some, None}
use Rattle.std.specs.Prelude.{is_some, option_and_then}
use Rattle.std.specs.Option.{option_map_or}
use Rattle.callback_orders.specs.declared.due.DueRef.{DueRef}
use Rattle.scr_requests.specs.Cores.{CoreView}
use Rattle.scr_world.specs.Calls.{FindsNoRoom, IsIdle}
use Rattle.scr_world.specs.Dues.{begin_of, due_in, next_begin}
use Rattle.scr_world.specs.Room.{has_room as has_room_for, needed_by}
use Rattle.scr_world.specs.declared.step.Step.{Step}
use Rattle.scr_world.specs.declared.world.World.{World}
use Rattle.turn_work.specs.declared.work.TurnWork.{TurnWork}
use Rattle.platform_hall.specs.Platforms.{Begins, has_due, has_room, world}
use Rattle.platform_hall.proofs.Desks.{same_view}
use Rattle.platform_hall.proofs.Steps.{grown_room}

-- where a turn begins next, one is due
begins_due : (w : World) (step : Step) → next_begin w ≡ Some step → is_some (due_in w) ≡ true
begins_due w step is = go (due_in w) is
  where
    go : (o : Option DueRef) → option_and_then (begin_of w) o ≡ Some step → is_some o ≡ true
    go None begins = cc
    go (Some d) begins = refl

-- and whether it has room is whether its step has
room_of : (p : CoreView) (step : Step) (fits : Bool) → next_begin (world p) ≡ Some step → has_room_for p.limits.journal (world p) (needed_by step) ≡ fits → has_room p ≡ fits
room_of p step fits is room = ap (λ (o : Option Step). option_map_or (λ (s : Step). has_room_for p.limits.journal (world p) (needed_by s)) o true) is ∙ room

pub taken_step : (before after : CoreView) (work : TurnWork) → Begins before work after → (has_due before ≡ true) × (has_room before ≡ true) × Begins before work after
taken_step before after work (limits, number, (step, is, named, grown)) =
    (begins_due (world before) step is, room_of before step true is (grown_room before.limits.journal before.journal after.journal step grown), (limits, number, (step, is, named, grown)))

pub idle_step : (before after : CoreView) → after.limits ≡ before.limits → IsIdle before.journal after.journal → (has_due before ≡ false) × (after ≡ before)
idle_step before after limits (none, same) = (ap is_some none, same_view after before limits same)

pub full_step : (before after : CoreView) → after.limits ≡ before.limits → FindsNoRoom before.limits.journal before.journal after.journal → (has_due before ≡ true) × (has_room before ≡ false) × (after ≡ before)
full_step before after limits (step, is, full, same) = (begins_due (world before) step is, room_of before step false is full, same_view after before limits same)
