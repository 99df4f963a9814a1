use Rattle.std.proofs.Common.{rules, ◌≡◌, Ok, Some}
use Rattle.platform_sessions.proofs.Working.{ran_begun}
use Rattle.platform_sessions.proofs.hall.Hall.run_due.Goals as goal

pub returns-in-Ok-Some-clause-ran : goal.returns-in-Ok-Some-clause-ran
returns-in-Ok-Some-clause-ran g c =
    let is : c.begin_turn.result ≡ Ok (Some (c.in-Ok-Some.turn, c.in-Ok-Some.task)) = search rules in
    ran_begun g.K.Kinds.refuses c.args.self.now.limits c.args.pass.now.front c.begin_turn.new.pass.front c.run_begun.new.pass.front c.begin_turn.result c.in-Ok-Some.turn c.in-Ok-Some.task is
    c.begin_turn.ensures.begins c.run_begun.ensures.ended
