use Rattle.std.proofs.Common.{ap, ◌∙◌}
use Rattle.use_counts.specs.Uses.{after_unget}
use Rattle.use_counts.proofs.Undone.{got_back, on_ok}
use Rattle.use_counts.proofs.table.UseCounts.unget.Goals as goal

pub returns-clause-undone : goal.returns-clause-undone
returns-clause-undone c = on_ok c.take_get.result c.take_get.ensures.ok (λ is uses ok was.
    is ∙ ap (after_unget c.args.bundle c.args.service c.args.holder) (c.self.view_is ∙ was) ∙ got_back c.args.bundle c.args.service c.args.holder uses ok)
