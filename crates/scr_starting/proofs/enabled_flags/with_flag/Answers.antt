use Rattle.std.proofs.Common.{◌∙◌, sym}
use Rattle.std.proofs.lemmas.Slice.Zip.{either_empty_from_Zip}
use Rattle.scr_starting.proofs.EnabledFlags.{all_at_end}
use Rattle.scr_starting.proofs.enabled_flags.with_flag.Goals as goal

pub returns : goal.returns
returns c =
    c.of.ensures
    ∙ sym (all_at_end c.args.name.now c.args.flag c.loop-description.description-iterator.a.rest.now c.loop-description.description-iterator.b.rest.now c.loop-description.flags.items (either_empty_from_Zip c.loop-description.description-iterator c.next.new.self c.next.result c.in-None.is c.next.ensures.steps))
    ∙ c.loop-description.invariant
