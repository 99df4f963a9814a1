-- The world after an entry, put together from its step, its pass and what settles.
use Rattle.std.proofs.Common.{◌≡◌, ◌+◌, ◌∷◌, [], ◌∙◌, ℕ, List, Bool, true, false, Some, ap, cond, refl, sym}
use Rattle.std.specs.Prelude.{◌==◌, ◌&&◌, ◌||◌, filter, map, not, length}
use Rattle.std.specs.List.{Contains, list_any}
use Rattle.std.specs.Option.{option_map_or}
use Rattle.bundle_life.specs.declared.bundle.BundleLife.{BundleLife}
use Rattle.bundle_life.specs.declared.bundle.BundleState.{BundleState}
use Rattle.bundle_life.specs.declared.bundle.BundleState.TheVariants.{Installed, Resolved, Stopping, Active}
use Rattle.bundle_life.specs.Lives.{bundle_of, is_active, is_stopping, resolved_among, state_is, stop_completed}
use Rattle.component_state.specs.declared.open_period.OpenPeriod.{OpenPeriod}
use Rattle.component_state.specs.declared.pass.Passed.{Passed}
use Rattle.component_state.specs.Passes.{HasPassed}
use Rattle.component_state.specs.Periods.{is_current, open_after}
use Rattle.component_state.proofs.Apart.{in_first, in_rest}
use Rattle.prop_map.specs.Words.{has}
use Rattle.scr_laws.specs.Following.{entry_of}
use Rattle.scr_growth.specs.Growths.{IsRest, passed_world, reserved_with_tokens, services_among, settled_world, with_listeners_told}
use Rattle.scr_growth.specs.declared.settling.Rest.{Rest}
use Rattle.scr_laws.proofs.Resting.{stopped_was_stopping}
use Rattle.scr_laws.proofs.Tables.{rest_if_key, tables_apart}
use Rattle.scr_laws.specs.Askeds.{IsAsked}
use Rattle.scr_world.specs.Consequences.{begins_draining, gate_of, is_draining, shut_between, stage_in, stage_of, stopped_by}
use Rattle.scr_world.specs.Instances.{has_failed, is_active_instance}
use Rattle.scr_world.specs.Lists.{is_active_bundle, tokens_in, uses_in, with_gets_and_events, with_lists_of, world_after_entry}
use Rattle.scr_world.specs.Room.{reserved}
use Rattle.scr_world.specs.Stepping.{world_after_step}
use Rattle.scr_world.specs.Worlds.{is_registered}
use Rattle.scr_world.specs.declared.instance.Instance.{Instance}
use Rattle.scr_world.specs.declared.marks.Token.{Token}
use Rattle.scr_world.specs.declared.step.Step.{Step}
use Rattle.scr_world.specs.declared.world.World.{World}
use Rattle.service_registry.specs.Registries.{with_numbers_given}
use Rattle.use_counts.specs.declared.uses.UseRow.{UseRow}

-- ---- completing stops leaves who is ACTIVE

stopping_is_not_active : (s : BundleState) → is_stopping s ≡ true → is_active s ≡ false
stopping_is_not_active Installed e = refl
stopping_is_not_active Resolved e = refl
stopping_is_not_active Stopping e = refl
stopping_is_not_active Active e = absurd cc

module _ (numbers : List ℕ) where
  one_stays : (b : BundleLife) → (has numbers b.number ≡ true → is_stopping b.state ≡ true) → is_active (resolved_among numbers b).state ≡ is_active b.state
  one_stays b rests = go (has numbers b.number) refl
    where
      go : (k : Bool) → has numbers b.number ≡ k → is_active (cond k (record b { state = Resolved }) b).state ≡ is_active b.state
      go true is = sym (stopping_is_not_active b.state (rests is))
      go false is = refl

  active_stays : (rows : List BundleLife) → ((b : BundleLife) → Contains rows b → has numbers b.number ≡ true → is_stopping b.state ≡ true) → (n : ℕ) → state_is is_active (map (resolved_among numbers) rows) n ≡ state_is is_active rows n
  active_stays [] rests n = refl
  active_stays (b ∷ bs) rests n =
      ap (λ k. option_map_or (λ (c : BundleLife). is_active c.state) (cond (k == n) (Some (resolved_among numbers b)) (bundle_of (map (resolved_among numbers) bs) n)) false) (rest_if_key numbers b)
      ∙ go (b.number == n) (one_stays b (rests b (in_first b bs))) (active_stays bs (λ c h. rests c (in_rest b bs c h)) n)
    where
      go : (k : Bool) → is_active (resolved_among numbers b).state ≡ is_active b.state → state_is is_active (map (resolved_among numbers) bs) n ≡ state_is is_active bs n
          → option_map_or (λ (c : BundleLife). is_active c.state) (cond k (Some (resolved_among numbers b)) (bundle_of (map (resolved_among numbers) bs) n)) false ≡ option_map_or (λ (c : BundleLife). is_active c.state) (cond k (Some b) (bundle_of bs n)) false
      go true one later = one
      go false one later = later

kept_alike : {X : Type 0} (p q : X → Bool) → ((x : X) → p x ≡ q x) → (xs : List X) → filter p xs ≡ filter q xs
kept_alike p q same [] = refl
kept_alike p q same (x ∷ xs) = ap (λ b. cond b (x ∷ filter p xs) (filter p xs)) (same x) ∙ ap (λ ys. cond (q x) (x ∷ ys) ys) (kept_alike p q same xs)

-- ---- two worlds that differ in what settling doesn't look at

-- with the stops of these complete, one entry later, and so many services numbered more
abbrev completed : List ℕ → ℕ → World → World
completed stopped given w = record w { entries = w.entries + 1; bundles = stop_completed stopped w.bundles; registry = with_numbers_given given w.registry }

module _ (w : World) (stopped : List ℕ) (given : ℕ) (rest : (b : BundleLife) → Contains w.bundles.rows b → has stopped b.number ≡ true → is_stopping b.state ≡ true) where
  uses_stay : uses_in (completed stopped given w) ≡ uses_in w
  uses_stay = kept_alike (λ (u : UseRow). is_registered w u.service && state_is is_active (map (resolved_among stopped) w.bundles.rows) u.bundle) (λ (u : UseRow). is_registered w u.service && is_active_bundle w u.bundle)
      (λ u. ap (λ b. is_registered w u.service && b) (active_stays stopped w.bundles.rows rest u.bundle)) w.uses

  tokens_stay : tokens_in (completed stopped given w) ≡ tokens_in w
  tokens_stay = kept_alike (λ (t : Token). is_registered w t.service && state_is is_active (map (resolved_among stopped) w.bundles.rows) t.bundle) (λ (t : Token). is_registered w t.service && is_active_bundle w t.bundle)
      (λ t. ap (λ b. is_registered w t.service && b) (active_stays stopped w.bundles.rows rest t.bundle)) w.tokens

  draining_stays : (i : Instance) → is_draining (completed stopped given w) i ≡ is_draining w i
  draining_stays i = ap (λ b. is_active_instance i && (not (is_current w.open_periods i.origin) || (not (i.consumer == 0) && not b) || has_failed i.callbacks)) (active_stays stopped w.bundles.rows rest i.consumer)

  shut_stays : (was : World) → shut_between was (completed stopped given w) ≡ shut_between was w
  unfolding shut_between
  shut_stays was = ap (map gate_of) (kept_alike (begins_draining was (completed stopped given w)) (begins_draining was w)
      (λ i. ap (λ b. b && not (list_any (λ (j : Instance). (j.number == i.number) && is_draining was j) was.instances)) (draining_stays i)) w.instances)

-- ---- the world after an entry

module _ (was : World) (asked : IsAsked was) (step : Step) (pass : Passed) (passed : HasPassed (stage_of step was) pass) where
  stops : (b : BundleLife) → Contains (world_after_step step was).bundles.rows b → has (stopped_by step was) b.number ≡ true → is_stopping b.state ≡ true
  unfolding world_after_step
  stops b here is = stopped_was_stopping step was (tables_apart step was.bundles was.documents was.configurations asked.apart).one_bundle b here is

  open_is : pass.open_now ≡ open_after (world_after_step step was).entries (world_after_step step was).components pass.closed pass.opened (world_after_step step was).open_periods
  unfolding stage_of stage_in
  open_is = passed.open_now

  given : ℕ
  given = services_among pass.opened

  lists_are : with_lists_of (entry_of step pass was) (world_after_step step was) ≡ completed (stopped_by step was) (services_among pass.opened) (passed_world step was pass.open_now)
  lists_are = ap (λ (now : List OpenPeriod). completed (stopped_by step was) (services_among pass.opened) (passed_world step was now)) (sym open_is)

  -- listeners stay as they are until they are told
  silent : (world_after_step step was).listeners ≡ was.listeners
  unfolding world_after_step
  silent = refl

  module _ (r : Rest) (is : IsRest was (passed_world step was pass.open_now) r) where
    abbrev now : World
    now = passed_world step was pass.open_now

    put_together : settled_world r (stopped_by step was) (with_listeners_told step was (record now { registry = with_numbers_given (services_among pass.opened) now.registry })) ≡ with_gets_and_events step was (completed (stopped_by step was) (services_among pass.opened) now)
    put_together = rw (is.entries, is.gets.uses, is.gets.tokens, is.held, silent, uses_stay now (stopped_by step was) (services_among pass.opened) stops, tokens_stay now (stopped_by step was) (services_among pass.opened) stops) refl

    pub settled_is : settled_world r (stopped_by step was) (with_listeners_told step was (record now { registry = with_numbers_given (services_among pass.opened) now.registry })) ≡ world_after_entry (entry_of step pass was) was
    unfolding world_after_entry
    settled_is = put_together ∙ ap (with_gets_and_events step was) (sym lists_are)

    shut_of : shut_between was (with_gets_and_events step was (completed (stopped_by step was) (services_among pass.opened) now)) ≡ shut_between was (completed (stopped_by step was) (services_among pass.opened) now)
    unfolding shut_between
    shut_of = refl

    pub shut_is : r.shut ≡ shut_between was (world_after_entry (entry_of step pass was) was)
    shut_is =
        is.shut ∙ sym (shut_stays now (stopped_by step was) (services_among pass.opened) stops was) ∙ sym shut_of
        ∙ ap (shut_between was) (sym put_together ∙ settled_is)

    reserved_of : r.reserved ≡ reserved (with_gets_and_events step was (completed (stopped_by step was) (services_among pass.opened) now))
    reserved_of = is.reserved ∙ ap (λ ts. reserved_with_tokens now (length ts)) (is.gets.tokens ∙ sym (tokens_stay now (stopped_by step was) (services_among pass.opened) stops))

    pub reserved_is : r.reserved ≡ reserved (world_after_entry (entry_of step pass was) was)
    reserved_is = reserved_of ∙ ap reserved (sym put_together ∙ settled_is)
