use Rattle.std.proofs.Common.{◌∙◌, sym, []}
use Rattle.component_dto.proofs.TextListLemmas.{looked_step, looked_known}
use Rattle.component_dto.proofs.text_lists.first_repeated.Goals as goal

pub loop-text-preserved : goal.loop-text-preserved
loop-text-preserved c =
    let step = looked_step c.args.texts.now c.loop-text.text-index (record { ref_ptr = (0, 0); now = [] }) c.loop-text.seen _ _ c.loop-text-test.true c.loop-text.invariant.known c.as_bytes.ensures.value c.in_ok-insert.ensures.answer in
    let next = rw c.if-not-branch.false at step in
    record {
      left = sym next ∙ c.loop-text.invariant.left;
      known = looked_known c.args.texts.now c.loop-text.text-index (record { ref_ptr = (0, 0); now = [] }) c.loop-text.seen c.insert.new.self _ c.loop-text-test.true c.loop-text.invariant.known c.as_bytes.ensures.value c.in_ok-insert.ensures.added;
    }
