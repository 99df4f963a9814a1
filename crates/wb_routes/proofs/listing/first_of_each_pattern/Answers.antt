use Rattle.std.proofs.Common.{◌∙◌}
use Rattle.wb_routes.specs.declared.route_row.RouteRow.{RouteRow}
use Rattle.wb_context.proofs.FirstLemmas.{knows_more, left_out, taken}
use Rattle.wb_routes.proofs.listing.first_of_each_pattern.Goals as goal

pub loop-row-preserved-in-Continue-branch-2 : goal.loop-row-preserved-in-Continue-branch-2
loop-row-preserved-in-Continue-branch-2 c =
    let same = c.as_bytes.ensures.value ∙ c.as_str.ensures in
    let known = c.loop-row.invariant.known in
    record {
      firsts = c.in_ok-push.ensures.items ∙ rw c.loop-row.invariant.firsts (taken (λ (r : RouteRow). r.pattern) c.loop-row.patterns c.loop-row.yielded c.in-Some.row _ _ known same c.in_ok-insert.ensures.answer c.if-branch.true);
      known = knows_more (λ (r : RouteRow). r.pattern) c.loop-row.patterns c.insert.new.self c.loop-row.yielded c.in-Some.row _ known same c.in_ok-insert.ensures.added;
    }

pub loop-row-preserved : goal.loop-row-preserved
loop-row-preserved c =
    let same = c.as_bytes.ensures.value ∙ c.as_str.ensures in
    let known = c.loop-row.invariant.known in
    record {
      firsts = c.loop-row.invariant.firsts ∙ left_out (λ (r : RouteRow). r.pattern) c.loop-row.patterns c.loop-row.yielded c.in-Some.row _ _ known same c.in_ok-insert.ensures.answer c.if-branch.false;
      known = knows_more (λ (r : RouteRow). r.pattern) c.loop-row.patterns c.insert.new.self c.loop-row.yielded c.in-Some.row _ known same c.in_ok-insert.ensures.added;
    }
