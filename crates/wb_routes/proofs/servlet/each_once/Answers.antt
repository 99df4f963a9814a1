use Rattle.std.proofs.Common.{◌∙◌, ℕ, List}
use Rattle.wb_context.proofs.FirstLemmas.{knows_more, left_out, taken}
use Rattle.wb_routes.proofs.servlet.each_once.Goals as goal

pub loop-text-preserved-in-Continue-branch-2 : goal.loop-text-preserved-in-Continue-branch-2
loop-text-preserved-in-Continue-branch-2 c =
    let same = c.as_bytes.ensures.value ∙ c.as_str.ensures in
    let known = c.loop-text.invariant.known in
    record {
      firsts = c.in_ok-push.ensures.items ∙ rw c.loop-text.invariant.firsts (taken (λ (t : List ℕ). t) c.loop-text.seen c.loop-text.yielded c.in-Some.text _ _ known same c.in_ok-insert.ensures.answer c.if-branch.true);
      known = knows_more (λ (t : List ℕ). t) c.loop-text.seen c.insert.new.self c.loop-text.yielded c.in-Some.text _ known same c.in_ok-insert.ensures.added;
    }

pub loop-text-preserved : goal.loop-text-preserved
loop-text-preserved c =
    let same = c.as_bytes.ensures.value ∙ c.as_str.ensures in
    let known = c.loop-text.invariant.known in
    record {
      firsts = c.loop-text.invariant.firsts ∙ left_out (λ (t : List ℕ). t) c.loop-text.seen c.loop-text.yielded c.in-Some.text _ _ known same c.in_ok-insert.ensures.answer c.if-branch.false;
      known = knows_more (λ (t : List ℕ). t) c.loop-text.seen c.insert.new.self c.loop-text.yielded c.in-Some.text _ known same c.in_ok-insert.ensures.added;
    }
