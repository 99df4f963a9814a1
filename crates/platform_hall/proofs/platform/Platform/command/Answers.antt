use Rattle.std.proofs.Common.{refl, subst, ◌∙◌, inr, Ok}
use Rattle.std.proofs.lemmas.Result.{err_from_is_err_and}
use Rattle.scr_requests.specs.Cores.{CoreView}
use Rattle.platform_hall.specs.Platforms.{CoreTakes}
use Rattle.platform_hall.proofs.Answered.{answered_same}
use Rattle.platform_hall.proofs.platform.Platform.command.Goals as goal

pub returns-in_err-post : goal.returns-in_err-post
returns-in_err-post g c =
    let p = err_from_is_err_and c.from_residual-in_err-post.result c.from_residual-in_err-post.ensures.1 in
    let taken = subst (λ (p : CoreView). CoreTakes p c.args.command (Ok c.in_ok-accepted.accepted) c.command.new.self.core) c.self.view_is c.in_ok-accepted.ensures.takes in
    rw (p.1, p.2) (inr (c.in_ok-accepted.accepted.reply, (c.in_ok-accepted.accepted, c.command.new.self.core, refl, taken, c.post.ensures.step.0)))

pub invariant_of-self : goal.invariant_of-self
invariant_of-self g c =
    (tt, answered_same g.K.Kinds.made g.K.Kinds.hears g.K.Kinds.refuses c.self.inside.desk.kept c.command.new.self.kept c.command.ensures.kept c.self.invariant.1)

pub invariant_of-self-in_err-post : goal.invariant_of-self-in_err-post
invariant_of-self-in_err-post g c =
    (tt, answered_same g.K.Kinds.made g.K.Kinds.hears g.K.Kinds.refuses c.self.inside.desk.kept c.post.new.self.kept (c.post.ensures.step.2 ∙ c.command.ensures.kept) c.self.invariant.1)

pub invariant_of-self-2 : goal.invariant_of-self-2
invariant_of-self-2 g c =
    (tt, answered_same g.K.Kinds.made g.K.Kinds.hears g.K.Kinds.refuses c.self.inside.desk.kept c.post.new.self.kept (c.post.ensures.step.2 ∙ c.command.ensures.kept) c.self.invariant.1)
