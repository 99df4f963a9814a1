use Rattle.std.proofs.Common.{subst, ◌≡◌, Option, Result, Ok}
use Rattle.hall_locked.specs.declared.owed.Owed.{Owed}
use Rattle.platform_sessions.specs.Commands.{TookCommand}
use Rattle.platform_sessions.proofs.Goings.{settled}
use Rattle.scr_world.specs.declared.reply.Accepted.{Accepted}
use Rattle.scr_world.specs.declared.reply.CoreFault.{CoreFault}
use Rattle.platform_sessions.proofs.hall.Hall.command.Goals as goal

pub returns-clause-taken : goal.returns-clause-taken
returns-clause-taken g c =
    let a = c.args.pass.now.front in
    let b = c.take_command-answer.new.pass.front in
    let now = c.post_owed.new.pass.front in
    let limits = c.args.self.now.limits in
    let front = c.take_command-answer.result.1 in
    let accepted = c.in_ok-accepted.accepted in
    let owed = c.in_ok-accepted.owed in
    let is : c.take_command-answer.result.0 ≡ Ok (accepted, owed) = c.in_ok-accepted.was in
    settled limits a b now c.args.command front accepted owed
    (subst (λ (r : Result (Accepted × Option Owed) CoreFault). TookCommand limits a b c.args.command r front) is c.take_command-answer.ensures.taken) c.post_owed.ensures.posted
