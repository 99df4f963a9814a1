use Rattle.std.proofs.Common.{◌∙◌}
use Rattle.wb_context.specs.declared.context.Context.{Context}
use Rattle.wb_context.proofs.FirstLemmas.{knows_more, left_out, taken}
use Rattle.wb_context.proofs.context_order.first_of_each_name.Goals as goal

pub loop-context-preserved-in-Continue-branch-2 : goal.loop-context-preserved-in-Continue-branch-2
loop-context-preserved-in-Continue-branch-2 c =
    let same = c.as_bytes.ensures.value ∙ c.as_str.ensures in
    let known = c.loop-context.invariant.known in
    record {
      firsts = c.in_ok-push.ensures.items ∙ rw c.loop-context.invariant.firsts (taken (λ (c : Context). c.name) c.loop-context.names c.loop-context.yielded c.in-Some.context _ _ known same c.in_ok-insert.ensures.answer c.if-branch.true);
      known = knows_more (λ (c : Context). c.name) c.loop-context.names c.insert.new.self c.loop-context.yielded c.in-Some.context _ known same c.in_ok-insert.ensures.added;
    }

pub loop-context-preserved : goal.loop-context-preserved
loop-context-preserved c =
    let same = c.as_bytes.ensures.value ∙ c.as_str.ensures in
    let known = c.loop-context.invariant.known in
    record {
      firsts = c.loop-context.invariant.firsts ∙ left_out (λ (c : Context). c.name) c.loop-context.names c.loop-context.yielded c.in-Some.context _ _ known same c.in_ok-insert.ensures.answer c.if-branch.false;
      known = knows_more (λ (c : Context). c.name) c.loop-context.names c.insert.new.self c.loop-context.yielded c.in-Some.context _ known same c.in_ok-insert.ensures.added;
    }
