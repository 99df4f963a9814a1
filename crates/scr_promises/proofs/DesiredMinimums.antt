-- What an instance that isn't ending desires for a reference are as many services as the least minimum that this has had since the instance's Create.
use Rattle.std.proofs.Common.{◌≡◌, ◌≤◌, ℕ, List, [], ap, sym, ◌∙◌, subst, true, false, inl, inr, Option}
use Rattle.std.specs.Prelude.{◌&&◌, ◌==◌}
use Rattle.std.specs.List.{Contains}
use Rattle.std.specs.Option.{option_map_or}
use Rattle.std.proofs.lemmas.Bool.{and_from, cases_Bool, eq-eqb}
use Rattle.callback_orders.specs.Lives.{held_for}
use Rattle.component_dto.specs.declared.description.Reference.{Reference}
use Rattle.component_state.specs.declared.component.Component.{Component}
use Rattle.component_state.specs.Components.{exists}
use Rattle.component_state.specs.Periods.{is_current, is_open}
use Rattle.component_state.specs.Reasons.{choice_at}
use Rattle.component_state.proofs.Apart.{any_from}
use Rattle.prop_map.specs.declared.properties.Property.{Property}
use Rattle.prop_map.specs.Words.{has, with_places}
use Rattle.reference_match.specs.Needs.{need_of}
use Rattle.reference_match.specs.Targets.{desired, is_multiple, is_static, targets}
use Rattle.scr_promises.specs.Endings.{outlives_consumer}
use Rattle.scr_promises.proofs.EndingLaws.{current_open}
use Rattle.scr_promises.proofs.InstanceComponents.{its_component}
use Rattle.scr_promises.proofs.ViewedReferences.{has_sorted, placed_was}
use Rattle.scr_promises.proofs.KnownLaws.{current_from}
use Rattle.scr_laws.proofs.Calm.{open_lives}
use Rattle.scr_laws.proofs.Legal.{legal_scratch}
use Rattle.scr_laws.proofs.Sounding.{legal_sound}
use Rattle.scr_promises.specs.Minimums.{least_minimum, minimum_now}
use Rattle.scr_promises.proofs.ChosenMinimums.{have_chosen_enough}
use Rattle.scr_promises.proofs.EnoughTargets.{desired_for_minimum}
use Rattle.scr_promises.proofs.LeastMinimums.{least_low}
use Rattle.scr_promises.proofs.TargetLists.{AreEnough, fewer}
use Rattle.scr_promises.proofs.RightLaws.{static_desired}
use Rattle.scr_world.specs.Instances.{has_failed}
use Rattle.scr_world.specs.Legal.{IsLegal}
use Rattle.scr_world.specs.Lists.{world_of}
use Rattle.scr_world.specs.Steps.{History}
use Rattle.scr_world.specs.Views.{desired_services, ends, references_in, targets_for}
use Rattle.scr_world.specs.Worlds.{registered_services, sorted}
use Rattle.scr_world.specs.declared.instance.Instance.{Instance}
use Rattle.scr_world.specs.declared.world.World.{World}

-- so many different services are desired for the reference at a place
pub record DesiresEnough (w : World) (i : Instance) (k : ℕ) (q : Reference) (count : ℕ) : Type 0 where
  pub services : List ℕ
  pub are : AreEnough count services
  pub desired : (s : ℕ) → has services s ≡ true → has (desired_services w i k q) s ≡ true

module _ (limit : ℕ) (past : History) (legal : IsLegal limit past) (i : Instance) (h : Contains (world_of past).instances i) (off : ends (world_of past) i ≡ false)
    (k : ℕ) (q : Reference) (in_q : Contains (with_places 0 (references_in (world_of past) i)) (k, q)) where
  abbrev w : World
  w = world_of past

  abbrev least : ℕ
  least = least_minimum i.origin.created i.origin.configuration q past

  pub desires_enough : DesiresEnough w i k q least
  desires_enough =
      let current = current_from (is_current w.open_periods i.origin) (outlives_consumer w i) (has_failed i.callbacks) off in
      let its = its_component limit past legal i h in
      let c = its.0 in
      let opened = ap (is_open w.open_periods) its.1.number ∙ current_open w.open_periods i.origin current in
      let lives = open_lives w (legal_scratch limit past legal) (legal_sound limit past legal).numbered c opened its.1.there in
      let present : exists w.components i.origin.configuration ≡ true = any_from (λ (x : Component). (x.number == i.origin.configuration) && x.exists) w.components c its.1.there (and_from (c.number == i.origin.configuration) c.exists (eq-eqb c.number i.origin.configuration its.1.number) lives) in
      let minimum : minimum_now w i.origin.configuration q ≡ (need_of c.properties q).minimum = ap (λ (o : Option Component). (need_of (option_map_or (λ (x : Component). x.properties) o []) q).minimum) its.1.found in
      let low = subst (λ n. least ≤ n) minimum (least_low i.origin.created i.origin.configuration q past present) in
      let there = placed_was 0 c.description.references k q (subst (λ (rs : List Reference). Contains (with_places 0 rs) (k, q)) its.1.references in_q) in
      let choice = choice_at i.origin.chosen k in
      let held = held_for q.name i.callbacks in
      elim (cases_Bool (is_static q.policy)) [
        | inl static ↦ record {
          services = choice;
          are = have_chosen_enough limit past legal i h k q in_q static;
          desired = λ s on. ap (λ (ss : List ℕ). has ss s) (static_desired q.policy q.policy_option (is_multiple q.cardinality) (sorted w choice) held (targets_for w i q) static) ∙ has_sorted w choice s ∙ on;
        }
        | inr dynamic ↦ record {
          services = desired_services w i k q;
          are = subst (λ (ps : List Property). AreEnough least (desired (need_of ps q) (sorted w choice) held (targets (need_of ps q) (registered_services w)))) (sym its.1.properties) (fewer (desired_for_minimum limit past legal c its.1.there opened q there (sorted w choice) held dynamic) low);
          desired = λ s on. on;
        }
      ]
