use Rattle.std.proofs.Common.{◌≡◌, ◌-◌, length}
use Rattle.std.specs.Prelude.{map}
use Rattle.scr_world.specs.Instances.{first_free_from, first_free_slot}
use Rattle.scr_world.specs.declared.instance.Instance.{Instance}
use Rattle.scr_turns.proofs.slots.first_free_slot.Given as goal

abbrev pub invariant-loop-slot : goal.invariant-loop-slot
invariant-loop-slot l = first_free_from (map (λ (i : Instance). i.slot) l.instances) (length l.instances - l.slot) l.slot ≡ first_free_slot l.instances
