use Rattle.scr_laws.proofs.SlotLaws.{slots_differ_in, slots_taken}
use Rattle.scr_laws.proofs.slots.note_slots.Goals as goal

pub returns-clause-different : goal.returns-clause-different
returns-clause-different c = slots_differ_in

pub returns-clause-lowest : goal.returns-clause-lowest
returns-clause-lowest c = slots_taken
