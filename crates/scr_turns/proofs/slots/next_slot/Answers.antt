use Rattle.std.proofs.Common.{arith}
use Rattle.scr_turns.proofs.FreeSlots.{slot_low}
use Rattle.scr_turns.proofs.slots.next_slot.Goals as goal

pub overflow_cast-result : goal.overflow_cast-result
overflow_cast-result c =
    let low = slot_low c.args.instances.now in
    omega (arith, low, c.requires, c.first_free_slot-slot.ensures)
