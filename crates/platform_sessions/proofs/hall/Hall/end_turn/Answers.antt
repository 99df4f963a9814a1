use Rattle.std.proofs.Common.{[], rules, ap, refl, ◌∙◌}
use Rattle.hall_goings.proofs.Chains.{went_nowhere, went_on}
use Rattle.hall_locked.specs.Owned.{turn_thing}
use Rattle.platform_sessions.specs.Works.{things_but}
use Rattle.platform_sessions.proofs.Stretches.{keeps_itself, keeps_on}
use Rattle.platform_sessions.proofs.Turning.{mine_still}
use Rattle.platform_sessions.proofs.Working.{ended_on}
use Rattle.platform_sessions.proofs.hall.Hall.end_turn.Goals as goal

pub loop-init : goal.loop-init
loop-init g c = (search rules, went_nowhere c.args.pass.now.front, c.requires.of, keeps_itself c.args.pass.now.front, c.requires.fits, refl)

pub end_once-requires-clause-mine : goal.end_once-requires-clause-mine
end_once-requires-clause-mine g c κs within = mine_still c.args.pass.now.front c.loop.pass.front c.args.turn c.loop.invariant.3 c.requires.mine

pub loop-preserved : goal.loop-preserved
loop-preserved g c =
    let a = c.args.pass.now.front in
    let b = c.loop.pass.front in
    let now = c.end_once.new.pass.front in
    ((tt, tt), went_on a b now [] [] c.loop.invariant.1 c.in-Err.ensures.same, c.end_once.ensures.of, keeps_on a b now c.loop.invariant.3 c.in-Err.ensures.keeps, c.in-Err.ensures.back, c.end_once.ensures.closed ∙ c.loop.invariant.5)

pub returns-in-Ok-clause-ended : goal.returns-in-Ok-clause-ended
returns-in-Ok-clause-ended g c = ended_on g.K.Kinds.refuses c.args.self.now.limits c.args.pass.now.front c.loop.pass.front c.end_once.new.pass.front c.args.turn c.loop.invariant.1 c.in-Ok.ensures.ended

pub returns-in-Ok-clause-left : goal.returns-in-Ok-clause-left
returns-in-Ok-clause-left g c = c.in-Ok.ensures.left ∙ ap (things_but (turn_thing c.args.turn)) c.loop.invariant.3.1
