-- The end of a turn by which no creation or activation fails: no component configuration fails, and no instance is made.
use Rattle.std.proofs.Common.{◌≡◌, ℕ, [], ap, sym, ◌∙◌, refl, subst, cond, Bool, true, false, ◌&&◌, ◌||◌, Some}
use Rattle.std.specs.Prelude.{filter, map, not}
use Rattle.std.specs.List.{Contains, list_all}
use Rattle.callback_orders.specs.declared.callback.Outcome.{Outcome}
use Rattle.callback_orders.specs.declared.callback.Outcome.TheVariants.{Done, Refused, NoMemory}
use Rattle.callback_orders.specs.Grammar.{is_activate, is_create}
use Rattle.callback_orders.specs.Sequences.{is_done, is_failed}
use Rattle.component_state.specs.declared.origin.Origin.{Origin}
use Rattle.component_state.specs.Periods.{is_current}
use Rattle.component_state.proofs.Apart.{kept_was}
use Rattle.scr_laws.proofs.Ends.{either_of}
use Rattle.scr_laws.proofs.Legal.{in_map}
use Rattle.scr_laws.proofs.Listed.{mapped_was, none_kept}
use Rattle.scr_promises.proofs.Waits.{all_to}
use Rattle.scr_promises.specs.Settlings.{ends_well}
use Rattle.scr_world.specs.Instances.{ended_in, has_turn, last_is, lives_on, with_outcome}
use Rattle.scr_world.specs.Stepping.{ending_in, failing, instances_by}
use Rattle.scr_world.specs.Worlds.{origins_of}
use Rattle.scr_world.specs.declared.instance.Instance.{Instance}
use Rattle.scr_world.specs.declared.step.Step.TheVariants.{End}
use Rattle.scr_world.specs.declared.world.World.{World}

failed_not_done : (outcome : Outcome) → is_failed (Some outcome) ≡ true → is_done (Some outcome) ≡ false
failed_not_done Done is = cc
failed_not_done Refused is = refl
failed_not_done NoMemory is = refl

module _ (turn : ℕ) (outcome : Outcome) (w : World) where
  makes : Instance → Bool
  makes i = last_is is_create i.callbacks || last_is is_activate i.callbacks

  module _ (well : list_all (ends_well turn outcome) w.instances ≡ true) where
    none_ends : is_failed (Some outcome) ≡ true → (i : Instance) → Contains w.instances i → (has_turn turn i && (makes i && is_current w.open_periods i.origin)) ≡ false
    unfolding makes
    none_ends failed i h = go (has_turn turn i) (makes i) (is_done (Some outcome)) (failed_not_done outcome failed) (all_to (ends_well turn outcome) w.instances well i h)
      where
        go : (told made done : Bool) → done ≡ false → (not (told && made) || done) ≡ true → (told && (made && is_current w.open_periods i.origin)) ≡ false
        go false made done off is = refl
        go true false done off is = refl
        go true true done off is = cc

    pub none_failing : failing (End turn outcome) w ≡ []
    unfolding makes
    none_failing = go (is_failed (Some outcome)) refl
      where
        go : (b : Bool) → is_failed (Some outcome) ≡ b → cond b (map (λ (i : Instance). i.origin.configuration) (ending_in turn w)) [] ≡ []
        go false is = refl
        go true is = ap (map (λ (i : Instance). i.origin.configuration))
            (none_kept (λ (i : Instance). has_turn turn i && ((last_is is_create i.callbacks || last_is is_activate i.callbacks) && is_current w.open_periods i.origin)) w.instances (none_ends is))

  -- each instance behind it was there before
  pub origin_was : (o : Origin) → Contains (origins_of (instances_by (End turn outcome) w)) o → Contains (origins_of w.instances) o
  origin_was o h =
      let its = mapped_was (λ (i : Instance). i.origin) (filter lives_on (map (ended_in turn outcome w.generations) w.instances)) o h in
      let lives = kept_was lives_on (map (ended_in turn outcome w.generations) w.instances) its.0 its.1.0 in
      let was = mapped_was (ended_in turn outcome w.generations) w.instances its.0 lives.0 in
      let same : was.0.origin ≡ o = sym (either_of (λ (j : Instance). j.origin) (has_turn turn was.0) (with_outcome outcome w.generations was.0) was.0 refl) ∙ ap (λ (i : Instance). i.origin) was.1.1 ∙ its.1.1 in
      subst (λ (x : Origin). Contains (origins_of w.instances) x) same (in_map (λ (i : Instance). i.origin) w.instances was.0 was.1.0)
