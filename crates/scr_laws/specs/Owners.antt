-- What bundles have. OSGi Core 8, chapter 4, "Stopping Bundles"; chapter 5, "Unregistering Services"; OSGi Compendium
-- 8, chapter 112, "Component Configurations".
use Rattle.std.specs.Prelude.{◌≡◌, ◌⊎◌, ℕ, true, Option, Some, option_map}
use Rattle.std.specs.List.{Contains}
use Rattle.bundle_life.specs.declared.bundle.BundleLife.{BundleLife}
use Rattle.bundle_life.specs.Lives.{bundle_of, state_number}
use Rattle.component_state.specs.declared.component.Component.{Component}
use Rattle.component_state.specs.Components.{existing}
use Rattle.component_state.specs.Rows.{rows_of}
use Rattle.service_listeners.specs.declared.listener.Listener.{Listener}
use Rattle.service_registry.specs.declared.row.ServiceRow.{ServiceRow}
use Rattle.use_counts.specs.declared.uses.UseRow.{UseRow}
use Rattle.scr_world.specs.Lists.{is_active_bundle}
use Rattle.scr_world.specs.Worlds.{is_registered}
use Rattle.scr_world.specs.declared.marks.Token.{Token}
use Rattle.scr_world.specs.declared.world.World.{World}

-- active bundles alone have services, listeners, gets and component configurations, and gets are of registered
-- services. So a bundle that has stopped, or is stopping, has none of them
pub record HaveActiveOwners (w : World) : Type 0 where
  pub services : (r : ServiceRow) → Contains w.registry.rows r → is_active_bundle w r.bundle ≡ true
  pub component_services : (r : ServiceRow) → Contains (rows_of w.open_periods) r → is_active_bundle w r.bundle ≡ true
  pub components : (c : Component) → Contains (existing w.components) c → is_active_bundle w c.bundle ≡ true
  pub listeners : (l : Listener) → Contains w.listeners.rows l → is_active_bundle w l.bundle ≡ true
  pub uses : (u : UseRow) → Contains w.uses u → is_active_bundle w u.bundle ≡ true
  pub used : (u : UseRow) → Contains w.uses u → is_registered w u.service ≡ true
  pub tokens : (t : Token) → Contains w.tokens t → is_active_bundle w t.bundle ≡ true
  pub got : (t : Token) → Contains w.tokens t → is_registered w t.service ≡ true

-- a bundle has no service, no component configuration, no listener and no get
pub record HasNothing (w : World) (bundle : ℕ) : Type 0 where
  pub services : (r : ServiceRow) → Contains w.registry.rows r → r.bundle ≡ bundle → ⊥
  pub component_services : (r : ServiceRow) → Contains (rows_of w.open_periods) r → r.bundle ≡ bundle → ⊥
  pub components : (c : Component) → Contains (existing w.components) c → c.bundle ≡ bundle → ⊥
  pub listeners : (l : Listener) → Contains w.listeners.rows l → l.bundle ≡ bundle → ⊥
  pub uses : (u : UseRow) → Contains w.uses u → u.bundle ≡ bundle → ⊥
  pub tokens : (t : Token) → Contains w.tokens t → t.bundle ≡ bundle → ⊥

-- the state of a bundle
abbrev pub state_of : World → ℕ → Option ℕ
state_of w bundle = option_map (λ (b : BundleLife). state_number b.state) (bundle_of w.bundles.rows bundle)

-- what a stop leaves: the bundle is STOPPING or RESOLVED, and has nothing
pub record IsStopped (w : World) (bundle : ℕ) : Type 0 where
  pub state : (state_of w bundle ≡ Some 16) ⊎ (state_of w bundle ≡ Some 4)
  pub nothing : HasNothing w bundle
