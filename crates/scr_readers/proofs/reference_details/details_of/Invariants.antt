use Rattle.std.proofs.Common.{◌≡◌, map, take}
use Rattle.std.specs.Option.{option_copied}
use Rattle.scr_readers.specs.DetailViews.{reference_detail}
use Rattle.scr_readers.proofs.reference_details.details_of.Given as goal

abbrev pub invariant-loop-reference : goal.invariant-loop-reference
invariant-loop-reference l = l.details.items ≡ map (reference_detail l.world l.component (option_copied l.instance)) (take l.reference-index l.references)
