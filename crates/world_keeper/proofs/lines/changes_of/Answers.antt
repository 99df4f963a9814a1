use Rattle.std.proofs.Common.{arith, ◌≡◌, ◌∙◌}
use Rattle.world_keeper.proofs.ChangeLemmas.{line_same, one_more}
use Rattle.world_keeper.proofs.lines.changes_of.Goals as goal

pub loop-row-preserved : goal.loop-row-preserved
loop-row-preserved c lines is =
    c.in_ok-push.ensures.items
    ∙ one_more c.args.rows.now lines c.loop-row.changes.items c.change_of.result c.loop-row.row-index _ is (omega (arith, c.loop-row-test.true)) (c.loop-row.invariant lines is)
    (λ l e. c.change_of.ensures ∙ line_same _ _ _ _ l (c.in_ok-texts_of.ensures l (c.row-item.is ∙ e)))
