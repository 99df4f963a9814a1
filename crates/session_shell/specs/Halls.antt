-- A hall and its passes as contracts see them, passed on to whoever serves sessions of it. Our own.
pub use Rattle.platform_sessions.specs.Cores.{AreWithinGreatest}
pub use Rattle.platform_sessions.specs.Halls.{HallPassView, HallView, IsOf, KeepsPass, Own, View, core_seen}
