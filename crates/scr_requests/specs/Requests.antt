-- Whom a request reaches, by what a core tells of it. OSGi Compendium 8, chapter 140, has the choice of a servlet; what is reached there is our own.
use Rattle.std.specs.Prelude.{◌≡◌, ℕ, List, codes, length, Option, Some, None, if◌then◌else◌}
use Rattle.journal_core.specs.declared.entry.Entry.{Entry}
use Rattle.scr_calls.specs.Servlets.{Ending, Objectless, Reached, Standing, choice, reached, routing_in}
use Rattle.scr_readers.specs.Reaching.{held_rows, is_ending_at}
use Rattle.scr_readers.specs.declared.live.Live.{Live}
use Rattle.scr_requests.specs.declared.reaching.Reach.{Reach}
use Rattle.scr_requests.specs.declared.reaching.Reach.TheVariants.{Nowhere as ToNowhere, Objectless as ToObjectless, Ending as ToEnding, Standing as ToStanding}
use Rattle.scr_requests.specs.declared.servlets.Servlets.{Servlets}
use Rattle.scr_world.specs.Calls.{world_at}
use Rattle.scr_world.specs.declared.step.Step.{Step}
use Rattle.scr_world.specs.declared.world.World.{World}

-- these are the servlets in the world of a journal, made when it was as long as it is
pub record AreServletsOf (journal : List (Entry Step)) (servlets : Servlets) : Type 0 where
  pub made_at : servlets.made_at ≡ length journal
  pub routes : servlets.routes ≡ routing_in (world_at journal)
  pub rows : servlets.rows ≡ held_rows (world_at journal) (codes "servlets") (world_at journal).whiteboard

-- who is reached at a servlet, by the active instance of its service: that may be ending, or there may be none
abbrev pub reached_by_active : World → Option Live → Reached
reached_by_active w None = Ending
reached_by_active w (Some live) = if is_ending_at w live.instance then Ending else Standing live

-- so this is told
abbrev pub reach_by : World → ℕ → Option Live → Reach
reach_by w service None = ToEnding service
reach_by w service (Some live) = if is_ending_at w live.instance then ToEnding service else ToStanding service live

-- a request reaches so at the servlet of this service
abbrev pub IsReachAt : World → ℕ → Reach → Type 0
IsReachAt w service ToNowhere = ⊥
IsReachAt w service (ToObjectless s) = (s ≡ service) × (reached w service ≡ Objectless)
IsReachAt w service (ToEnding s) = (s ≡ service) × (reached w service ≡ Ending)
IsReachAt w service (ToStanding s live) = (s ≡ service) × (reached w service ≡ Standing live)

-- a request of this path reaches so: at the servlet that is chosen for it, or nowhere where none is
abbrev pub IsReachBy : World → Option ℕ → Reach → Type 0
IsReachBy w None reach = reach ≡ ToNowhere
IsReachBy w (Some service) reach = IsReachAt w service reach

abbrev pub IsReach : World → List ℕ → Reach → Type 0
IsReach w path reach = IsReachBy w (choice w path) reach
