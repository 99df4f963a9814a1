-- An instance that serves a registered service for a bundle that is active isn't ending.
use Rattle.std.proofs.Common.{◌≡◌, ◌<◌, ◌⊎◌, ℕ, ap, sym, ◌∙◌, refl, subst, cond, Bool, true, false, ◌&&◌, ◌||◌, inl, inr, Option, Some, None}
use Rattle.std.specs.Prelude.{nat_lt, not, ◌==◌}
use Rattle.std.specs.List.{Contains}
use Rattle.std.specs.Option.{option_map_or}
use Rattle.std.proofs.lemmas.Bool.{and_from, and_parts, both_ways, cases_Bool, eq-eqb, eqb-true, lt-ltb}
use Rattle.bundle_life.specs.Lives.{is_active, state_is}
use Rattle.component_state.specs.declared.component.Component.{Component}
use Rattle.component_state.specs.declared.open_period.OpenPeriod.{OpenPeriod}
use Rattle.component_state.specs.Components.{component_of, consumer_for, has_singleton_scope}
use Rattle.component_state.specs.Periods.{is_current}
use Rattle.component_state.proofs.Apart.{any_from}
use Rattle.scr_promises.specs.Endings.{has_deactivate, outlives_consumer}
use Rattle.scr_promises.proofs.EndingLaws.{end_in_time}
use Rattle.scr_promises.proofs.InstanceServices.{have_periods}
use Rattle.scr_world.specs.Legal.{IsLegal}
use Rattle.scr_world.specs.Lists.{is_active_bundle, world_of}
use Rattle.scr_world.specs.Steps.{History}
use Rattle.scr_world.specs.Views.{ends, serves}
use Rattle.scr_world.specs.declared.instance.Instance.{Instance}
use Rattle.scr_world.specs.declared.world.World.{World}

and_off : (b : Bool) → (b && false) ≡ false
and_off true = refl
and_off false = refl

module _ (limit : ℕ) (past : History) (legal : IsLegal limit past) where
  abbrev w : World
  w = world_of past

  -- bundle 0, or an active one
  abbrev pub IsUp : ℕ → Type 0
  IsUp bundle = (bundle ≡ 0) ⊎ (is_active_bundle w bundle ≡ true)

  -- for whom a bundle has its instance
  consumer_up : (c : Component) (bundle consumer : ℕ) → (consumer == consumer_for c bundle) ≡ true → IsUp bundle → IsUp consumer
  consumer_up c bundle consumer same up = go (has_singleton_scope c.description.scope) (eqb-true consumer (consumer_for c bundle) same) up
    where
      go : (b : Bool) → consumer ≡ cond b 0 bundle → IsUp bundle → IsUp consumer
      go true is u = inl is
      go false is (inl none) = inl (is ∙ none)
      go false is (inr on) = inr (ap (is_active_bundle (world_of past)) is ∙ on)

  module _ (p : OpenPeriod) (there : Contains w.open_periods p) (s : ℕ) (number : p.row.id ≡ s) (some : 0 < s) (bundle : ℕ) (up : IsUp bundle) (x : Instance) (h : Contains w.instances x) (serving : serves w bundle s x ≡ true) where
    both : ((x.service == s) ≡ true) × (option_map_or (λ (c : Component). x.consumer == consumer_for c bundle) (component_of w.components x.origin.configuration) false ≡ true)
    both = and_parts (x.service == s) (option_map_or (λ (c : Component). x.consumer == consumer_for c bundle) (component_of w.components x.origin.configuration) false) serving

    service : x.service ≡ s
    service = eqb-true x.service s both.0

    current : is_current w.open_periods x.origin ≡ true
    current =
        let its = (have_periods limit past legal x h).period p there (number ∙ sym service) (subst (λ n. 0 < n) (sym service) some) in
        any_from (λ (q : OpenPeriod). (q.configuration == x.origin.configuration) && nat_lt q.opened x.origin.created) w.open_periods p there
        (and_from (p.configuration == x.origin.configuration) (nat_lt p.opened x.origin.created) (eq-eqb p.configuration x.origin.configuration its.0) (lt-ltb p.opened x.origin.created its.1))

    for_consumer : (o : Option Component) → option_map_or (λ (c : Component). x.consumer == consumer_for c bundle) o false ≡ true → IsUp x.consumer
    for_consumer None e = cc
    for_consumer (Some c) e = consumer_up c bundle x.consumer e up

    alone : IsUp x.consumer → outlives_consumer w x ≡ false
    alone (inl none) = ap (λ b. not b && not (state_is is_active w.bundles.rows x.consumer)) (eq-eqb x.consumer 0 none)
    alone (inr on) = ap (λ b. not (x.consumer == 0) && not b) on ∙ and_off (not (x.consumer == 0))

    pub serving_goes_on : ends w x ≡ false
    serving_goes_on = (end_in_time limit past legal).reasons x h ∙ ap (λ b. not b || outlives_consumer w x) current ∙ alone (for_consumer (component_of w.components x.origin.configuration) both.1)

    -- so it wasn't told of Deactivate
    pub serving_quiet : has_deactivate x.callbacks ≡ false
    serving_quiet = elim (cases_Bool (has_deactivate x.callbacks)) [
      | inr off ↦ off
      | inl on ↦ absurd (both_ways (ends w x) serving_goes_on ((end_in_time limit past legal).deactivated x h on))
    ]
