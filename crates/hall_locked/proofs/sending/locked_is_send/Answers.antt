use denote.Param.Send.{sendable}
use Rattle.hall_locked.proofs.Sends.{locked_send}
use Rattle.hall_locked.proofs.sending.locked_is_send.Goals as goal

pub is_send-requires : goal.is_send-requires
is_send-requires g c = search (locked_send, sendable) depth 20
