use denote.Param.Send.{sendable}
use Rattle.platform_sessions.proofs.Sends.{hall_sync}
use Rattle.platform_sessions.proofs.sending.hall_is_sync.Goals as goal

pub is_sync-requires : goal.is_sync-requires
is_sync-requires g c = search (hall_sync, sendable) depth 30
