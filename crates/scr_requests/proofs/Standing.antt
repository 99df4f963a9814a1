-- Whom a request reaches at a servlet that is held, by the active instance of its service.
use Rattle.std.proofs.Common.{◌≡◌, ℕ, ap, sym, ◌∙◌, refl, subst, Bool, true, false, ◌&&◌, Option, Some, None}
use Rattle.std.specs.Prelude.{codes, find, option_map, if◌then◌else◌, ◌==◌}
use Rattle.std.specs.List.{Contains}
use Rattle.std.specs.Option.{option_map_or}
use Rattle.std.proofs.lemmas.Bool.{and_from, and_parts, both_ways, eq-eqb, eqb-true, ne_eqb}
use Rattle.callback_orders.specs.declared.callback.Callback.TheVariants.{Create}
use Rattle.callback_orders.specs.Lives.{held_for}
use Rattle.component_state.proofs.Apart.{in_first, in_rest, one_of}
use Rattle.prop_map.specs.Words.{has}
use Rattle.scr_requests.specs.Requests.{reached_by_active}
use Rattle.scr_callees.proofs.Providing.{one_server, server_active}
use Rattle.scr_calls.specs.Servlets.{Ending, Reached, Standing, reached_by}
use Rattle.scr_laws.proofs.LegalOrder.{legal_ordered}
use Rattle.scr_laws.proofs.Listed.{found_is, found_was, none_found}
use Rattle.scr_laws.proofs.Sequences.{no_board}
use Rattle.scr_promises.proofs.HeldSteps.{board_bundle}
use Rattle.scr_readers.specs.Reaching.{active_for, instance_at, is_direct, is_ending_at, live_of, server_of}
use Rattle.scr_world.specs.Instances.{is_active_instance}
use Rattle.scr_world.specs.Legal.{IsLegal}
use Rattle.scr_world.specs.Lists.{world_of}
use Rattle.scr_world.specs.Steps.{History}
use Rattle.scr_world.specs.Views.{ends, serves}
use Rattle.scr_world.specs.Worlds.{all_instances}
use Rattle.scr_world.specs.declared.instance.Instance.{Instance}
use Rattle.scr_world.specs.declared.world.World.{World}

module _ (limit : ℕ) (past : History) (legal : IsLegal limit past) where
  abbrev w : World
  w = world_of past

  -- an instance by its number
  ending_at : (i : Instance) → Contains w.instances i → is_ending_at w i.number ≡ ends w i
  ending_at i h =
      let are = legal_ordered limit past legal in
      let some : (i.number == 0) ≡ false = ne_eqb i.number 0 (λ zero. no_board w are 0 0 Create i h (zero ∙ sym are.board.number)) in
      let found : instance_at w i.number ≡ Some i = found_is (λ (x : Instance). x.number == i.number) (all_instances w) i (in_rest w.whiteboard w.instances i h) (eq-eqb i.number i.number refl)
      (λ y k same. one_of (λ (x : Instance). x.number) (all_instances w) are.apart y i k (in_rest w.whiteboard w.instances i h) (eqb-true y.number i.number same)) in
      ap (λ b. if b then false else option_map_or (ends w) (instance_at w i.number) true) some ∙ ap (λ o. option_map_or (ends w) o true) found

  module _ (s : ℕ) (held : has (held_for (codes "servlets") w.whiteboard.callbacks) s ≡ true) (other : is_direct w s ≡ false) where
    serving_on : (i : Instance) → Contains w.instances i → serves w 0 s i ≡ true → ends w i ≡ false → is_active_instance i ≡ true
    serving_on i h serving on =
        server_active limit past legal w.whiteboard (in_first w.whiteboard w.instances) (codes "servlets") s held other i h (ap (λ n. serves w n s i) (board_bundle past) ∙ serving) on

    abbrev is_up : Instance → Bool
    is_up i = serves w 0 s i && is_active_instance i

    -- no instance of it is active
    none_up : find is_up w.instances ≡ None → (o : Option Instance) → server_of w 0 s ≡ o → reached_by w o ≡ Ending
    none_up none None found = refl
    none_up none (Some j) found = go (ends w j) refl
      where
        there : Contains (world_of past).instances j × (serves (world_of past) 0 s j ≡ true)
        there = found_was (serves (world_of past) 0 s) (world_of past).instances j found

        go : (b : Bool) → ends (world_of past) j ≡ b → (if b then Ending else Standing (live_of (world_of past) j)) ≡ Ending
        go true ending = refl
        go false on = absurd (both_ways (is_up j) (none_found is_up (world_of past).instances j none there.0) (and_from (serves (world_of past) 0 s j) (is_active_instance j) there.1 (serving_on j there.0 there.1 on)))

    -- one is
    one_up : (i : Instance) → find is_up w.instances ≡ Some i → (o : Option Instance) → server_of w 0 s ≡ o → reached_by w o ≡ (if is_ending_at w i.number then Ending else Standing (live_of w i))
    one_up i up o found = go o found ∙ ap (λ b. if b then Ending else Standing (live_of (world_of past) i)) (sym (ending_at i there.0))
      where
        there : Contains (world_of past).instances i × (is_up i ≡ true)
        there = found_was is_up (world_of past).instances i up

        serving : serves (world_of past) 0 s i ≡ true
        serving = (and_parts (serves (world_of past) 0 s i) (is_active_instance i) there.1).0

        by_one : (j : Instance) → Contains (world_of past).instances j → serves (world_of past) 0 s j ≡ true → (a b : Bool) → ends (world_of past) j ≡ a → ends (world_of past) i ≡ b
            → (if a then Ending else Standing (live_of (world_of past) j)) ≡ (if b then Ending else Standing (live_of (world_of past) i))
        by_one j k its true true ending also = refl
        by_one j k its false b on also =
            let same : j ≡ i = one_server limit past legal 0 s other j i k there.0 its serving on in
            let not_ending : b ≡ false = sym also ∙ ap (ends (world_of past)) (sym same) ∙ on in
            ap (λ (x : Instance). Standing (live_of (world_of past) x)) same ∙ ap (λ c. if c then Ending else Standing (live_of (world_of past) i)) (sym not_ending)
        by_one j k its true false ending on =
            let same : i ≡ j = one_server limit past legal 0 s other i j there.0 k serving its on in
            absurd (both_ways (ends (world_of past) j) (ap (ends (world_of past)) (sym same) ∙ on) ending)

        go : (o : Option Instance) → server_of (world_of past) 0 s ≡ o → reached_by (world_of past) o ≡ (if ends (world_of past) i then Ending else Standing (live_of (world_of past) i))
        go None nobody = absurd (both_ways (serves (world_of past) 0 s i) (none_found (serves (world_of past) 0 s) (world_of past).instances i nobody there.0) serving)
        go (Some j) found = (let its = found_was (serves (world_of past) 0 s) (world_of past).instances j found in by_one j its.0 its.1 (ends (world_of past) j) (ends (world_of past) i) refl refl)

    pub reached_active : reached_by w (server_of w 0 s) ≡ reached_by_active w (active_for w 0 s)
    reached_active = go (find is_up w.instances) refl
      where
        go : (o : Option Instance) → find is_up (world_of past).instances ≡ o → reached_by (world_of past) (server_of (world_of past) 0 s) ≡ reached_by_active (world_of past) (option_map (live_of (world_of past)) o)
        go None none = none_up none (server_of (world_of past) 0 s) refl
        go (Some i) up = one_up i up (server_of (world_of past) 0 s) refl
