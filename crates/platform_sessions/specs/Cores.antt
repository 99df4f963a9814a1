-- The core as contracts see it, passed on to whoever stands on a hall. Our own.
pub use Rattle.hall_locked.specs.Cores.{AreWithinGreatest, CoreView}
