-- That threads may share a hall, and that a pass may go to another thread, passed on to whoever serves sessions in threads.
pub use Rattle.platform_sessions.proofs.Sends.{hall_sync, pass_send}
