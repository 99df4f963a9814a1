-- The core as contracts see it, and who is active there, passed on to the platform. Our own.
pub use Rattle.scr_core.specs.Cores.{AreWithinGreatest, CoreView}
pub use Rattle.scr_callees.specs.Callees.{IsActiveAt}
