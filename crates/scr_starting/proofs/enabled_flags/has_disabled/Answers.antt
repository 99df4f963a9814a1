use Rattle.std.proofs.Common.{◌∙◌, sym}
use Rattle.std.proofs.lemmas.Slice.Zip.{either_empty_from_Zip}
use Rattle.scr_starting.proofs.EnabledFlags.{none_disabled_at_end}
use Rattle.scr_starting.proofs.enabled_flags.has_disabled.Goals as goal

pub returns : goal.returns
returns c =
    sym (none_disabled_at_end c.args.name.now c.loop-description.description-iterator.a.rest.now c.loop-description.description-iterator.b.rest.now (either_empty_from_Zip c.loop-description.description-iterator c.next.new.self c.next.result c.in-None.is c.next.ensures.steps))
    ∙ c.loop-description.invariant
