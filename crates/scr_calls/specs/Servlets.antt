-- Which servlet a request reaches in a world. OSGi Compendium 8, chapter 140, has the choice; what is reached is our own.
use Rattle.std.specs.Prelude.{ℕ, List, codes, Option, Some, None, if◌then◌else◌}
use Rattle.scr_world.specs.declared.instance.Instance.{Instance}
use Rattle.scr_world.specs.declared.world.World.{World}
use Rattle.scr_world.specs.Views.{ends}
use Rattle.scr_readers.specs.Reaching.{held_rows, is_direct, live_of, server_of}
use Rattle.scr_readers.specs.declared.live.Live.{Live}
use Rattle.wb_routes.specs.Choices.{choice_in}
use Rattle.wb_routes.specs.Listing.{Routing, routing_of}

-- the routes of what the whiteboard's instance holds
abbrev pub routing_in : World → Routing
routing_in w = routing_of (held_rows w (codes "contexts") w.whiteboard) (held_rows w (codes "servlets") w.whiteboard)

-- the servlet that is chosen for a path
abbrev pub choice : World → List ℕ → Option ℕ
choice w path = choice_in (routing_in w).tables path

-- whom a request reaches at its servlet: nobody, since the service has no object; nobody, since its instance is ending; or the instance
pub data Reached : Type 0 where
  Objectless : Reached
  Ending : Reached
  Standing : Live → Reached

abbrev pub reached_by : World → Option Instance → Reached
reached_by w None = Ending
reached_by w (Some i) = if ends w i then Ending else Standing (live_of w i)

-- the whiteboard is of bundle 0
abbrev pub reached : World → ℕ → Reached
reached w service = if is_direct w service then Objectless else reached_by w (server_of w 0 service)
