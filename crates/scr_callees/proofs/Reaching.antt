-- Whoever a call reaches is active.
use Rattle.std.proofs.Common.{◌≡◌, ℕ, List, [], ◌∷◌, ap, sym, ◌∙◌, refl, Bool, true, false, ◌&&◌, ◌||◌, Option, Some, None}
use Rattle.std.specs.Prelude.{codes, find, ◌==◌, not, option_map, if◌then◌else◌}
use Rattle.std.specs.List.{Contains}
use Rattle.std.specs.Option.{option_map_or}
use Rattle.std.proofs.lemmas.Bool.{and_parts, eq-eqb}
use Rattle.component_state.proofs.Apart.{in_first}
use Rattle.callback_orders.specs.Lives.{held_for}
use Rattle.prop_map.specs.Words.{has}
use Rattle.scr_callees.specs.Callees.{IsActiveAt, ReachActive}
use Rattle.scr_callees.proofs.Providing.{server_active}
use Rattle.scr_calls.specs.Servlets.{Ending, Objectless, Standing, reached, reached_by}
use Rattle.scr_laws.proofs.Listed.{found_was}
use Rattle.scr_promises.proofs.HeldSteps.{board_bundle}
use Rattle.scr_promises.proofs.ViewedReferences.{has_sorted}
use Rattle.scr_readers.specs.Reaching.{active_for, held_best_first, instance_at, inward, inward_by, inward_to, is_direct, live_of, outer, outer_by, server_of}
use Rattle.scr_readers.specs.declared.live.Inward.TheVariants.{Gone, Live as ToInward, NoObject, NoService}
use Rattle.scr_readers.specs.declared.live.Live.{Live}
use Rattle.scr_readers.specs.declared.live.Outer.TheVariants.{Gone as UseGone, Live as ToOuter, NoObject as UseNoObject}
use Rattle.scr_world.specs.Calls.{has_token}
use Rattle.scr_world.specs.Instances.{is_active_instance}
use Rattle.scr_world.specs.Legal.{IsLegal}
use Rattle.scr_world.specs.Lists.{world_of}
use Rattle.scr_world.specs.Steps.{History}
use Rattle.scr_world.specs.Views.{bundle_of_instance, ends, serves}
use Rattle.scr_world.specs.Worlds.{all_instances, sorted}
use Rattle.scr_world.specs.declared.instance.Instance.{Instance}
use Rattle.scr_world.specs.declared.marks.Token.{Token}
use Rattle.scr_world.specs.declared.world.World.{World}

module _ (limit : ℕ) (past : History) (legal : IsLegal limit past) where
  abbrev w : World
  w = world_of past

  -- ---- by a get

  by_active : (bundle service : ℕ) (o : Option Instance) (live : Live) → find (λ (i : Instance). serves w bundle service i && is_active_instance i) w.instances ≡ o → outer_by (option_map (live_of w) o) ≡ ToOuter live → IsActiveAt w live.instance
  by_active bundle service None live found is = cc
  by_active bundle service (Some i) live found is =
      let there = found_was (λ (x : Instance). serves w bundle service x && is_active_instance x) w.instances i found in
      let same : live_of w i ≡ live = cc in
      record {
        one = i;
        there = there.0;
        its_number = ap (λ (l : Live). l.instance) same;
        active = (and_parts (serves w bundle service i) (is_active_instance i) there.1).1;
      }

  by_note : (note : Token) (live : Live) → outer w note ≡ ToOuter live → IsActiveAt w live.instance
  by_note note live is = go (has_token w note) (is_direct w note.service) is
    where
      go : (stands direct : Bool) → (if not stands then UseGone else (if direct then UseNoObject else outer_by (active_for (world_of past) note.bundle note.service))) ≡ ToOuter live → IsActiveAt (world_of past) live.instance
      go false direct told = cc
      go true true told = cc
      go true false told = by_active note.bundle note.service (find (λ (i : Instance). serves (world_of past) note.bundle note.service i && is_active_instance i) (world_of past).instances) live refl told

  -- ---- by a reference

  module _ (caller : Instance) (there : Contains (all_instances w) caller) (name : List ℕ) where
    by_server : (s service : ℕ) (live : Live) (o : Option Instance) → is_direct w s ≡ false → has (held_for name caller.callbacks) s ≡ true → server_of w (bundle_of_instance w caller) s ≡ o
        → inward_by w s o ≡ ToInward service live → IsActiveAt w live.instance
    by_server s service live None other held found is = cc
    by_server s service live (Some i) other held found is = go (ends w i) refl is
      where
        go : (b : Bool) → ends (world_of past) i ≡ b → (if b then Gone s else ToInward s (live_of (world_of past) i)) ≡ ToInward service live → IsActiveAt (world_of past) live.instance
        go true ending told = cc
        go false on told =
            let its = found_was (serves (world_of past) (bundle_of_instance (world_of past) caller) s) (world_of past).instances i found in
            let same : live_of (world_of past) i ≡ live = cc in
            record {
              one = i;
              there = its.0;
              its_number = ap (λ (l : Live). l.instance) same;
              active = server_active limit past legal caller there name s held other i its.0 its.1 on;
            }

    by_held : (ss : List ℕ) (service : ℕ) (live : Live) → sorted w (held_for name caller.callbacks) ≡ ss → inward_to w (bundle_of_instance w caller) ss ≡ ToInward service live → IsActiveAt w live.instance
    by_held [] service live held is = cc
    by_held (s ∷ ss) service live held is = go (is_direct w s) refl is
      where
        first : has (held_for name caller.callbacks) s ≡ true
        first = sym (has_sorted (world_of past) (held_for name caller.callbacks) s) ∙ ap (λ ns. has ns s) held ∙ or_first (eq-eqb s s refl)
          where
            or_first : {b : Bool} → b ≡ true → (b || has ss s) ≡ true
            or_first is = ap (λ c. c || has ss s) is

        go : (b : Bool) → is_direct (world_of past) s ≡ b → (if b then NoObject s else inward_by (world_of past) s (server_of (world_of past) (bundle_of_instance (world_of past) caller) s)) ≡ ToInward service live → IsActiveAt (world_of past) live.instance
        go true direct told = cc
        go false other told = by_server s service live (server_of (world_of past) (bundle_of_instance (world_of past) caller) s) other first refl told

  by_caller : (number : ℕ) (reference : List ℕ) (service : ℕ) (live : Live) → inward w number reference ≡ ToInward service live → IsActiveAt w live.instance
  by_caller number reference service live is = go (instance_at w number) refl is
    where
      go : (o : Option Instance) → instance_at (world_of past) number ≡ o → option_map_or (λ (i : Instance). inward_to (world_of past) (bundle_of_instance (world_of past) i) (held_best_first (world_of past) reference i)) o NoService ≡ ToInward service live → IsActiveAt (world_of past) live.instance
      go None found told = cc
      go (Some i) found told = by_held i (found_was (λ (x : Instance). x.number == number) (all_instances (world_of past)) i found).0 reference (held_best_first (world_of past) reference i) service live refl told

  -- ---- as a servlet

  by_board : (service : ℕ) (live : Live) → has (held_for (codes "servlets") w.whiteboard.callbacks) service ≡ true → reached w service ≡ Standing live → IsActiveAt w live.instance
  by_board service live held is = go (is_direct w service) refl is
    where
      board : Contains (all_instances (world_of past)) (world_of past).whiteboard
      board = in_first (world_of past).whiteboard (world_of past).instances

      by_one : (o : Option Instance) → is_direct (world_of past) service ≡ false → server_of (world_of past) 0 service ≡ o → reached_by (world_of past) o ≡ Standing live → IsActiveAt (world_of past) live.instance
      by_one None other found told = cc
      by_one (Some i) other found told = standing (ends (world_of past) i) refl told
        where
          standing : (b : Bool) → ends (world_of past) i ≡ b → (if b then Ending else Standing (live_of (world_of past) i)) ≡ Standing live → IsActiveAt (world_of past) live.instance
          standing true ending told = cc
          standing false on told =
              let its = found_was (serves (world_of past) 0 service) (world_of past).instances i found in
              let same : live_of (world_of past) i ≡ live = cc in
              record {
                one = i;
                there = its.0;
                its_number = ap (λ (l : Live). l.instance) same;
                active = server_active limit past legal (world_of past).whiteboard board (codes "servlets") service held other i its.0
                    (ap (λ n. serves (world_of past) n service i) (board_bundle past) ∙ its.1) on;
              }

      go : (b : Bool) → is_direct (world_of past) service ≡ b → (if b then Objectless else reached_by (world_of past) (server_of (world_of past) 0 service)) ≡ Standing live → IsActiveAt (world_of past) live.instance
      go true direct told = cc
      go false other told = by_one (server_of (world_of past) 0 service) other refl told

  pub reach_active : ReachActive w
  reach_active = record { by_get = by_note; nested = by_caller; servlet = by_board }
