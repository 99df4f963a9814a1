-- Whom calls reach. Our own; when an instance is active is OSGi Compendium 8, chapter 112, "Activation".
use Rattle.std.specs.Prelude.{◌≡◌, ℕ, List, codes, true}
use Rattle.std.specs.List.{Contains}
use Rattle.callback_orders.specs.Lives.{held_for}
use Rattle.prop_map.specs.Words.{has}
use Rattle.scr_calls.specs.Servlets.{Standing, reached}
use Rattle.scr_readers.specs.Reaching.{inward, outer}
use Rattle.scr_readers.specs.declared.live.Inward.TheVariants.{Live as ToInward}
use Rattle.scr_readers.specs.declared.live.Live.{Live}
use Rattle.scr_readers.specs.declared.live.Outer.TheVariants.{Live as ToOuter}
use Rattle.scr_world.specs.Instances.{is_active_instance}
use Rattle.scr_world.specs.declared.instance.Instance.{Instance}
use Rattle.scr_world.specs.declared.marks.Token.{Token}
use Rattle.scr_world.specs.declared.world.World.{World}

-- a living instance of this number is active
pub record IsActiveAt (w : World) (number : ℕ) : Type 0 where
  pub one : Instance
  pub there : Contains w.instances one
  pub its_number : one.number ≡ number
  pub active : is_active_instance one ≡ true

-- whoever is reached by a get, by a nested call, or as a servlet that the whiteboard's instance holds, is active
pub record ReachActive (w : World) : Type 0 where
  pub by_get : (note : Token) (live : Live) → outer w note ≡ ToOuter live → IsActiveAt w live.instance
  pub nested : (caller : ℕ) (reference : List ℕ) (service : ℕ) (live : Live) → inward w caller reference ≡ ToInward service live → IsActiveAt w live.instance
  pub servlet : (service : ℕ) (live : Live) → has (held_for (codes "servlets") w.whiteboard.callbacks) service ≡ true → reached w service ≡ Standing live → IsActiveAt w live.instance
