use Rattle.std.proofs.Common.{◌∙◌, ap, length}
use Rattle.component_state.specs.Inside.OpenMarks.{marked}
use Rattle.component_state.proofs.MarkLemmas.{none_set}
use Rattle.component_state.proofs.open_marks.no_marks.Goals as goal

pub loop-at-init : goal.loop-at-init
loop-at-init c = record { long = ap length c.new-marks.ensures.items; unset = λ ns. ap (marked ns) c.new-marks.ensures.items ∙ none_set ns }
