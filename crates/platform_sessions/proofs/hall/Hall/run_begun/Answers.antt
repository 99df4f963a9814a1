use Rattle.platform_sessions.proofs.Working.{ends_owed}
use Rattle.platform_sessions.proofs.hall.Hall.run_begun.Goals as goal

pub end_turn-owed-requires-clause-fits : goal.end_turn-owed-requires-clause-fits
end_turn-owed-requires-clause-fits g c κs within =
    let task = c.requires.task in
    (task.0, task.1, c.run_task-ran.ensures.told task.0 task.2, c.run_task-ran.ensures.made task.0 task.2)

pub returns-clause-ended : goal.returns-clause-ended
returns-clause-ended g c =
    ends_owed g.K.Kinds.refuses c.args.self.now.limits c.args.pass.now.front c.end_turn-owed.new.pass.front c.post_owed.new.pass.front c.args.turn c.end_turn-owed.result
    c.end_turn-owed.ensures.ended c.end_turn-owed.ensures.owed c.post_owed.ensures.posted
