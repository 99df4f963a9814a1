use Rattle.std.proofs.Common.{◌∙◌, sym}
use Rattle.std.specs.Prelude.{◌==◌}
use Rattle.scr_turns.proofs.FreeSlots.{any_mapped}
use Rattle.scr_world.specs.declared.instance.Instance.{Instance}
use Rattle.scr_turns.proofs.slots.is_taken.Goals as goal

pub returns : goal.returns
returns c = c.has_slot.ensures ∙ sym (any_mapped (λ n. n == c.args.slot) (λ (i : Instance). i.slot) c.args.instances.now)
