-- The core as contracts see it, passed on to whoever stands on the locked value. Our own.
pub use Rattle.scr_core.specs.Cores.{AreWithinGreatest, CoreView}
