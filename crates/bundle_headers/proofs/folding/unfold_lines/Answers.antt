use Rattle.std.proofs.Common.{◌+◌, ◌∙◌, sym, false}
use Rattle.bundle_headers.proofs.FoldingLemmas.{line_at, unfold_more}
use Rattle.bundle_headers.proofs.folding.unfold_lines.Goals as goal

pub loop-line-preserved : goal.loop-line-preserved
loop-line-preserved c =
    let at = line_at c.args.lines.now c.split_at.result.1.now c.loop-line.line-index (record { number = 0; continues = false; start = 0; end = 0 }) c.split_at.ensures.back c.loop-line-test.true in
    unfold_more c.args.lines.now (c.loop-line.line-index + 1) _ c.loop-line.all.items c.loop-line.last at.0 at.1 c.loop-line.invariant ∙ sym (c.in_ok-add.ensures)
