use Rattle.std.proofs.Common.{rules, refl, ◌∙◌}
use Rattle.platform_sessions.proofs.Goings.{posts_nowhere, posts_on}
use Rattle.platform_sessions.proofs.Stretches.{keeps_itself, keeps_on}
use Rattle.platform_sessions.proofs.hall.Hall.post_all.Goals as goal

pub loop-init : goal.loop-init
loop-init g c = (search rules, posts_nowhere c.args.pass.now.front, c.requires.of, keeps_itself c.args.pass.now.front, refl)

pub loop-preserved-in-Ok-Some : goal.loop-preserved-in-Ok-Some
loop-preserved-in-Ok-Some g c =
    let a = c.args.pass.now.front in
    let b = c.loop.pass.front in
    let now = c.post_one.new.pass.front in
    ((tt, tt), posts_on a b now c.loop.invariant.1 c.post_one.ensures.posted, c.post_one.ensures.of, keeps_on a b now c.loop.invariant.3 c.post_one.ensures.keeps, c.post_one.ensures.closed ∙ c.loop.invariant.4)

pub returns-in-Ok-None-clause-posted : goal.returns-in-Ok-None-clause-posted
returns-in-Ok-None-clause-posted g c = posts_on c.args.pass.now.front c.loop.pass.front c.post_one.new.pass.front c.loop.invariant.1 c.post_one.ensures.posted

pub loop-preserved : goal.loop-preserved
loop-preserved g c =
    let a = c.args.pass.now.front in
    let b = c.loop.pass.front in
    let now = c.post_one.new.pass.front in
    ((tt, tt), posts_on a b now c.loop.invariant.1 c.post_one.ensures.posted, c.post_one.ensures.of, keeps_on a b now c.loop.invariant.3 c.post_one.ensures.keeps, c.post_one.ensures.closed ∙ c.loop.invariant.4)
