use denote.Param.Send.{sendable}
use Rattle.session_shell.proofs.Sends.{hall_sync, pass_send}
use Rattle.session_tests.proofs.two_sessions.serve_both.Goals as goal

pub join-requires : goal.join-requires
join-requires g c k =
    (search (hall_sync, pass_send, sendable) depth 60 fits 20000, (search (pass_send, sendable) depth 30, (c.requires.0, c.requires.1)))
