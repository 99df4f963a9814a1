use Rattle.std.proofs.Common.{◌∙◌}
use Rattle.component_dto.proofs.TextListLemmas.{once_new, once_old, once_known}
use Rattle.component_dto.proofs.text_lists.each_once.Goals as goal

pub loop-text-preserved-in-Continue-branch-2 : goal.loop-text-preserved-in-Continue-branch-2
loop-text-preserved-in-Continue-branch-2 c =
    let same = c.as_bytes.ensures.value ∙ c.as_str.ensures in
    let known = c.loop-text.invariant.known in
    record {
      once = c.in_ok-push.ensures.items ∙ rw c.loop-text.invariant.once (once_new c.loop-text.seen c.loop-text.yielded _ c.in-Some.text _ known same c.in_ok-insert.ensures.answer c.if-branch.true);
      known = once_known c.loop-text.seen c.insert.new.self c.loop-text.yielded _ c.in-Some.text known same c.in_ok-insert.ensures.added;
    }

pub loop-text-preserved : goal.loop-text-preserved
loop-text-preserved c =
    let same = c.as_bytes.ensures.value ∙ c.as_str.ensures in
    let known = c.loop-text.invariant.known in
    record {
      once = c.loop-text.invariant.once ∙ once_old c.loop-text.seen c.loop-text.yielded _ c.in-Some.text _ known same c.in_ok-insert.ensures.answer c.if-branch.false;
      known = once_known c.loop-text.seen c.insert.new.self c.loop-text.yielded _ c.in-Some.text known same c.in_ok-insert.ensures.added;
    }
