use Rattle.std.proofs.Common.{◌∙◌}
use Rattle.use_counts.specs.Undoing.{with_rows}
use Rattle.use_counts.proofs.Undone.{put_back, ungot_back}
use Rattle.use_counts.proofs.table.UseCounts.put_back.Goals as goal

pub returns-clause-unget : goal.returns-clause-unget
returns-clause-unget c uses bundle service holder ok kept was =
    c.put_into.ensures.now ∙ (λ i. with_rows (kept i) ((c.self.view_is ∙ was) i)) ∙ ungot_back bundle service holder uses ok.0

pub returns-clause-undone : goal.returns-clause-undone
returns-clause-undone c uses ended ok kept was = c.put_into.ensures.now ∙ (λ i. with_rows (kept i) ((c.self.view_is ∙ was) i)) ∙ put_back ended uses ok.0
