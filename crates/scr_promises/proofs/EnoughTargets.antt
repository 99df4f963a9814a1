-- A component configuration that is open has for each reference as many targets as its minimum, and so has what it chooses and what a dynamic reference desires.
use Rattle.std.proofs.Common.{◌≡◌, ◌≤◌, ℕ, List, sym, ◌∙◌, length, true, false, ◌&&◌}
use Rattle.std.specs.Prelude.{filter, map, not}
use Rattle.std.specs.List.{Contains, list_all}
use Rattle.std.proofs.lemmas.Bool.{and_parts, leb-true}
use Rattle.component_dto.specs.declared.description.Reference.{Reference}
use Rattle.component_state.specs.declared.component.Component.{Component}
use Rattle.component_state.specs.Components.{lacks_configuration, needs_of}
use Rattle.component_state.specs.Periods.{is_open}
use Rattle.component_state.specs.Scratch.{is_satisfied}
use Rattle.component_state.proofs.Apart.{in_left}
use Rattle.prop_map.specs.Maps.{get}
use Rattle.prop_map.specs.Words.{has}
use Rattle.reference_match.specs.declared.need.Need.{Need}
use Rattle.reference_match.specs.Needs.{minimum_key, need_of}
use Rattle.reference_match.specs.Targets.{chosen, desired_by, is_met, is_multiple, is_static, meets, targets}
use Rattle.scr_laws.specs.Opens.{has_leaving, meets_all}
use Rattle.scr_laws.proofs.Described.{legal_in_order}
use Rattle.scr_laws.proofs.Legal.{in_map, legal_scratch}
use Rattle.scr_laws.proofs.Opening.{opens_each}
use Rattle.scr_promises.proofs.ApartServices.{services_apart}
use Rattle.scr_promises.proofs.TargetLists.{AreEnough, chosen_enough, dynamic_enough, minimum_low, targets_enough}
use Rattle.scr_promises.proofs.Waits.{all_to}
use Rattle.scr_world.specs.Legal.{IsLegal}
use Rattle.scr_world.specs.Lists.{world_of}
use Rattle.scr_world.specs.Steps.{History}
use Rattle.scr_world.specs.Worlds.{registered_services}
use Rattle.scr_world.specs.declared.world.World.{World}

module _ (limit : ℕ) (past : History) (legal : IsLegal limit past) (c : Component) (there : Contains (world_of past).components c) (opened : is_open (world_of past).open_periods c.number ≡ true) (q : Reference) (in_q : Contains c.description.references q) where
  abbrev w : World
  w = world_of past

  abbrev need : Need
  need = need_of c.properties q

  met : is_met (registered_services w) need ≡ true
  met =
      let to_be = sym (opens_each w (legal_in_order limit past legal) (legal_scratch limit past legal) c there) ∙ opened in
      let all = (and_parts (meets_all w c) (not (has w.failed c.number) && not (has_leaving w c.number)) to_be).0 in
      let satisfied = (and_parts c.exists (is_satisfied (registered_services w) c) all).1 in
      let needs = (and_parts (not (lacks_configuration c)) (list_all (is_met (registered_services w)) (needs_of c)) satisfied).1 in
      all_to (is_met (registered_services w)) (needs_of c) needs need (in_left (map (need_of c.properties) c.description.references) _ need (in_map (need_of c.properties) c.description.references q in_q))

  pub targets_for_minimum : AreEnough need.minimum (targets need (registered_services w))
  targets_for_minimum = targets_enough need (registered_services w) need.minimum (services_apart limit past legal) (leb-true need.minimum (length (filter (meets need) (registered_services w))) met)

  low : is_multiple q.cardinality ≡ false → need.minimum ≤ 1
  low unary = minimum_low q.cardinality (get c.properties (minimum_key q.name)) unary

  pub chosen_for_minimum : AreEnough need.minimum (chosen need (targets need (registered_services w)))
  chosen_for_minimum = chosen_enough need (targets need (registered_services w)) need.minimum targets_for_minimum low

  pub desired_for_minimum : (choice held : List ℕ) → is_static q.policy ≡ false → AreEnough need.minimum (desired_by q.policy q.policy_option (is_multiple q.cardinality) choice held (targets need (registered_services w)))
  desired_for_minimum choice held dynamic = dynamic_enough q.policy q.policy_option (is_multiple q.cardinality) choice held (targets need (registered_services w)) need.minimum dynamic targets_for_minimum low
