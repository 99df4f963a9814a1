-- Whom a request reaches is what is told of it.
use Rattle.std.proofs.Common.{◌≡◌, ℕ, List, ap, sym, ◌∙◌, refl, subst, Bool, true, false, Option, Some, None}
use Rattle.std.specs.Prelude.{codes, if◌then◌else◌}
use Rattle.callback_orders.specs.Lives.{held_for}
use Rattle.prop_map.specs.Words.{has}
use Rattle.scr_callees.specs.Callees.{IsActiveAt}
pub use Rattle.scr_callees.proofs.Reaching.{reach_active}
use Rattle.scr_calls.specs.Servlets.{Ending, Objectless, Reached, Standing, choice, reached, reached_by, routing_in}
use Rattle.scr_promises.proofs.ViewedReferences.{has_sorted}
use Rattle.scr_readers.specs.Reaching.{active_for, is_direct, is_ending_at, server_of}
use Rattle.scr_readers.specs.declared.live.Live.{Live}
use Rattle.scr_requests.specs.Requests.{IsReach, IsReachAt, IsReachBy, reach_by, reached_by_active}
use Rattle.scr_requests.specs.declared.reaching.Reach.{Reach}
use Rattle.scr_requests.specs.declared.reaching.Reach.TheVariants.{Objectless as ToObjectless, Ending as ToEnding, Standing as ToStanding}
use Rattle.scr_requests.proofs.Chosen.{chosen_held}
use Rattle.scr_requests.proofs.Standing.{reached_active}
use Rattle.scr_world.specs.Legal.{IsLegal}
use Rattle.scr_world.specs.Lists.{world_of}
use Rattle.scr_world.specs.Steps.{History}
use Rattle.scr_world.specs.declared.world.World.{World}
use Rattle.wb_routes.specs.Choices.{choice_in}
use Rattle.wb_routes.specs.Listing.{Routing}

-- who is chosen is held as a servlet
pub held_servlet : (w : World) (path : List ℕ) (s : ℕ) → choice w path ≡ Some s → has (held_for (codes "servlets") w.whiteboard.callbacks) s ≡ true
held_servlet w path s is = sym (has_sorted w (held_for (codes "servlets") w.whiteboard.callbacks) s) ∙ chosen_held w path s is

-- who is chosen in the routes of a world
pub chosen_in : (w : World) (routes : Routing) (path : List ℕ) (o : Option ℕ) → routes ≡ routing_in w → o ≡ choice_in routes.tables path → choice w path ≡ o
chosen_in w routes path o same is = sym (is ∙ ap (λ (r : Routing). choice_in r.tables path) same)

-- no object is there
pub at_objectless : (w : World) (s : ℕ) → is_direct w s ≡ true → IsReachAt w s (ToObjectless s)
at_objectless w s direct = (refl, ap (λ b. if b then Objectless else reached_by w (server_of w 0 s)) direct)

told_so : (w : World) (s : ℕ) (live : Option Live) → reached w s ≡ reached_by_active w live → IsReachAt w s (reach_by w s live)
told_so w s None is = (refl, is)
told_so w s (Some live) is =
    elim (is_ending_at w live.instance)
    as (λ b. reached w s ≡ (if b then Ending else Standing live) → IsReachAt w s (if b then ToEnding s else ToStanding s live)) [
      | true ↦ λ h. (refl, h)
      | false ↦ λ h. (refl, h)
    ] is

-- an object is there
pub at_active : (limit : ℕ) (past : History) → IsLegal limit past → (s : ℕ) → has (held_for (codes "servlets") (world_of past).whiteboard.callbacks) s ≡ true → is_direct (world_of past) s ≡ false
    → (live : Option Live) → live ≡ active_for (world_of past) 0 s → (r : Reach) → r ≡ reach_by (world_of past) s live → IsReachAt (world_of past) s r
at_active limit past legal s held other live is r told =
    let w = world_of past in
    let reaches : reached w s ≡ reached_by_active w live =
    ap (λ b. if b then Objectless else reached_by w (server_of w 0 s)) other ∙ reached_active limit past legal s held other ∙ ap (reached_by_active w) (sym is) in
    subst (λ x. IsReachAt w s x) (sym told) (told_so w s live reaches)

-- a request that is told to reach so, by the choice
pub by_choice : (w : World) (path : List ℕ) (o : Option ℕ) (r : Reach) → choice w path ≡ o → IsReachBy w o r → IsReach w path r
by_choice w path o r chosen is = subst (λ x. IsReachBy w x r) (sym chosen) is

-- who is reached is active
pub reached_is_active : (limit : ℕ) (past : History) → IsLegal limit past → (path : List ℕ) (s : ℕ) (live : Live) → IsReach (world_of past) path (ToStanding s live) → IsActiveAt (world_of past) live.instance
reached_is_active limit past legal path s live is = go (choice (world_of past) path) refl is
  where
    go : (o : Option ℕ) → choice (world_of past) path ≡ o → IsReachBy (world_of past) o (ToStanding s live) → IsActiveAt (world_of past) live.instance
    go None chosen told = cc
    go (Some n) chosen told = (reach_active limit past legal).servlet n live (held_servlet (world_of past) path n chosen) told.1
