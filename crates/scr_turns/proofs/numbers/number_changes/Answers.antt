use Rattle.std.proofs.Common.{arith}
use Rattle.scr_turns.proofs.numbers.number_changes.Goals as goal

pub overflow_add-instances_numbered : goal.overflow_add-instances_numbered
overflow_add-instances_numbered c = omega (arith, c.requires.few.instances, c.requires.few.turns, c.makes_by.ensures.small)

pub overflow_add-turns_begun : goal.overflow_add-turns_begun
overflow_add-turns_begun c = omega (arith, c.requires.few.turns, c.begins_by.ensures.small)
