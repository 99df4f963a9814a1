-- The events of bundles, with those that are owed. Our own: a bundle that is STOPPING owes its STOPPED.
use Rattle.std.specs.Prelude.{ℕ, List}
use Rattle.bundle_life.specs.declared.bundle.BundleEvent.{BundleEvent}

pub record EventList : Type 0 where
  pub events : List BundleEvent
  pub owed : ℕ
