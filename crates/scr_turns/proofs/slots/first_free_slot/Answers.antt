use Rattle.std.proofs.Common.{◌∙◌, sym}
use Rattle.std.specs.Prelude.{map, length}
use Rattle.scr_world.specs.declared.instance.Instance.{Instance}
use Rattle.scr_turns.proofs.FreeSlots.{free_here, free_later}
use Rattle.scr_turns.proofs.slots.first_free_slot.Goals as goal

pub loop-slot-preserved : goal.loop-slot-preserved
loop-slot-preserved c =
    sym (free_later (map (λ (i : Instance). i.slot) c.args.instances.now) (length c.args.instances.now) c.loop-slot.slot c.loop-slot-test.true (sym c.is_taken.ensures ∙ c.if-not-is_taken.false))
    ∙ c.loop-slot.invariant

pub returns-then-not-is_taken : goal.returns-then-not-is_taken
returns-then-not-is_taken c =
    sym (free_here (map (λ (i : Instance). i.slot) c.args.instances.now) (length c.args.instances.now) c.loop-slot.slot c.loop-slot-test.true (sym c.is_taken.ensures ∙ c.if-not-is_taken.true))
    ∙ c.loop-slot.invariant
