use denote.Param.Send.{sendable}
use Rattle.platform_sessions.proofs.hall_pass.HallPass.TheSendSync as pass
use Rattle.platform_sessions.proofs.sending.pass_is_send.Goals as goal

pub is_send-requires : goal.is_send-requires
is_send-requires c = search (pass.the_send, sendable) depth 20
