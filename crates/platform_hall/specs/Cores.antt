-- The core as contracts see it, passed on to whoever stands on the platform. Our own.
pub use Rattle.scr_requests.specs.Cores.{AreWithinGreatest, CoreView}
