use Rattle.std.proofs.Common.{◌++◌, ◌∷◌, [], ap, sym, subst, ◌∙◌}
use Rattle.shared_map.specs.Merging.{AreMerging}
use Rattle.shared_map.proofs.MergingLemmas.{next_fewer, next_taken}
use Rattle.shared_map.proofs.merging.merged.Goals as goal

pub loop-row-preserved : goal.loop-row-preserved
loop-row-preserved g c =
    subst (λ rows. AreMerging rows c.in-Some.old_left.now c.in-Some.new_left.now (c.args.newer.now ++ c.args.older.now))
    (sym (c.in_ok-push.ensures.items ∙ ap (λ row. c.loop-row.rows.items ++ row ∷ []) c.in_ok-copy.ensures))
    (next_taken c.loop-row.rows.items (c.args.newer.now ++ c.args.older.now) c.in-Some.row.now c.loop-row.old.now c.loop-row.new.now c.in-Some.old_left.now c.in-Some.new_left.now c.in-Some.ensures c.loop-row.invariant)

pub loop-row-smaller : goal.loop-row-smaller
loop-row-smaller g c = next_fewer c.in-Some.row.now c.loop-row.old.now c.loop-row.new.now c.in-Some.old_left.now c.in-Some.new_left.now c.in-Some.ensures
