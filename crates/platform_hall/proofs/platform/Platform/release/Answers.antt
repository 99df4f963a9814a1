use Rattle.std.proofs.Common.{inr, subst, ◌∙◌}
use Rattle.scr_requests.specs.Cores.{CoreView}
use Rattle.platform_hall.specs.Calls.{Releases}
use Rattle.platform_hall.proofs.Answered.{answered_same}
use Rattle.platform_hall.proofs.Results.{err_anyway, ok_with}
use Rattle.platform_hall.proofs.platform.Platform.release.Goals as goal

pub returns-clause-ok : goal.returns-clause-ok
returns-clause-ok g c =
    let releases = subst (λ (p : CoreView). Releases p c.args.note c.post.new.self.core) c.self.view_is (c.end_use.new.self.core, c.in_ok-end_use.ensures.ok, c.post.ensures.step.0) in
    ok_with c.post.result (λ clear. (releases, clear)) c.post.ensures.ok

pub returns-clause-err : goal.returns-clause-err
returns-clause-err g c =
    let releases = subst (λ (p : CoreView). Releases p c.args.note c.post.new.self.core) c.self.view_is (c.end_use.new.self.core, c.in_ok-end_use.ensures.ok, c.post.ensures.step.0) in
    err_anyway c.post.result (inr releases)

pub invariant_of-self : goal.invariant_of-self
invariant_of-self g c =
    (tt, answered_same g.K.Kinds.made g.K.Kinds.hears g.K.Kinds.refuses c.self.inside.desk.kept c.end_use.new.self.kept c.end_use.ensures.kept c.self.invariant.1)

pub invariant_of-self-2 : goal.invariant_of-self-2
invariant_of-self-2 g c =
    (tt, answered_same g.K.Kinds.made g.K.Kinds.hears g.K.Kinds.refuses c.self.inside.desk.kept c.post.new.self.kept (c.post.ensures.step.2 ∙ c.end_use.ensures.kept) c.self.invariant.1)
