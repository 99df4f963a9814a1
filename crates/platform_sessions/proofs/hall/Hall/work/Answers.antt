use Rattle.std.proofs.Common.{rules, ◌<◌}
use Rattle.platform_sessions.proofs.Working.{worked_refused}
use Rattle.platform_sessions.proofs.hall.Hall.work.Goals as goal

pub returns-in-Err-clause-worked : goal.returns-in-Err-clause-worked
returns-in-Err-clause-worked g c =
    let less : c.loop-ran.ran < c.args.turns = search rules in
    worked_refused g.K.Kinds.refuses _ c.args.pass.now.front c.loop-ran.pass.front c.run_due.new.pass.front c.loop-ran.ran c.args.turns _ c.loop-ran.invariant.0 less c.in-Err.ensures.ran
