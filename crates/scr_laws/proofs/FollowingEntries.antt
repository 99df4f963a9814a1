-- An entry whose step may come, has room and has passed follows.
use Rattle.std.proofs.Common.{◌≡◌, ℕ, refl, true}
use Rattle.component_state.specs.declared.pass.Passed.{Passed}
use Rattle.component_state.specs.Passes.{HasPassed}
use Rattle.scr_world.specs.Consequences.{stage_of}
use Rattle.scr_world.specs.Legal.{Follows, IsLegal, MayCome}
use Rattle.scr_world.specs.Lists.{world_of}
use Rattle.scr_world.specs.Room.{has_room, needed_by}
use Rattle.scr_world.specs.Steps.{History}
use Rattle.scr_world.specs.declared.step.Step.{Step}
use Rattle.scr_laws.specs.Following.{entry_of}
use Rattle.scr_laws.proofs.LegalOrder.{legal_ordered}
use Rattle.scr_laws.proofs.RoomAfter.{room_then}
use Rattle.scr_laws.proofs.Scratch.{closed_then, opened_then, scratch_then}
use Rattle.scr_laws.proofs.Sequences.{board_order_after, order_after}

pub follows : (limit : ℕ) (past : History) → IsLegal limit past → (step : Step) → MayCome (world_of past) step → has_room limit (world_of past) (needed_by step) ≡ true → (p : Passed) → HasPassed (stage_of step (world_of past)) p
    → Follows limit (entry_of step p (world_of past)) past
unfolding world_of
follows limit past legal step may room p passed =
    let w = world_of past in let ordered = legal_ordered limit past legal in record {
      step = may;
      room = room;
      closed = closed_then step w p passed;
      opened = opened_then step w p passed;
      stopped = refl;
      scratch = scratch_then step w p passed;
      order = order_after w ordered step may;
      whiteboard = board_order_after w ordered step may;
      room_after = room_then w ordered limit (entry_of step p w) may room;
    }
