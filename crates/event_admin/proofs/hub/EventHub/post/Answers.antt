use Rattle.std.proofs.Common.{ap, arith}
use Rattle.event_admin.specs.declared.rule.Hand.{Hand}
use Rattle.event_admin.proofs.Moves.{learns, posts, told_err, told_ok, told_only}
use Rattle.event_admin.specs.Views.{HubView}
use Rattle.event_admin.proofs.hub.EventHub.post.Goals.{in-Ok, in-Err}
use Rattle.event_admin.proofs.hub.EventHub.post.Goals as goal

pub push_as-requires-clause-rule : goal.push_as-requires-clause-rule
push_as-requires-clause-rule g c = let p = ap (λ (h : Hand). h.parts) c.publisher.invariant.1 in (posts _ _ _ _ (omega arith), learns _ _)

pub returns-clause-post : goal.returns-clause-post
returns-clause-post g c = elim c.match-push_as.branch [ in-Ok w ↦ rw w.result-is (told_ok _ _ _ _ _ _ _ c.publisher.view_is w.in-Ok.ensures.queue.0 w.in-Ok.ensures.rule) | in-Err w ↦ (let r = w.in-Err.ensures.rule in let t = told_err _ _ _ _ _ _ _ _ c.publisher.view_is w.in-Err.ensures.queue.0 c.publisher.invariant.1 (ap (λ (h : HubView). h.places) c.self.view_is) r.1 r.2 in rw w.result-is (r.0, t.0, t.1)) ]

pub returns-clause-only : goal.returns-clause-only
returns-clause-only g c = elim c.match-push_as.branch [ in-Ok w ↦ rw w.result-is tt | in-Err w ↦ (let r = w.in-Err.ensures.rule in rw w.result-is (told_only _ _ _ _ _ _ _ _ c.publisher.view_is w.in-Err.ensures.queue.0 c.publisher.invariant.1 (ap (λ (h : HubView). h.places) c.self.view_is) r.1 r.2)) ]
