use denote.Param.Send.{sendable}
use Rattle.scr_core.proofs.Sends.{core_send}
use Rattle.scr_core.proofs.sending.core_is_send.Goals as goal

pub is_send-requires : goal.is_send-requires
is_send-requires c = search (core_send, sendable)
