-- Who desires services: an instance that isn't ending, and that of the whiteboard. Each service that it desires is registered with the interface of its reference, directly or
-- by an open period.
use Rattle.std.proofs.Common.{◌≡◌, ◌<◌, ◌⊎◌, ℕ, List, [], ap, sym, ◌∙◌, refl, subst, true, false, inl, inr}
use Rattle.std.specs.Prelude.{map}
use Rattle.std.specs.List.{Contains, list_any}
use Rattle.std.proofs.lemmas.Bool.{both_ways}
use Rattle.callback_orders.specs.declared.instance_view.InstanceView.{InstanceView}
use Rattle.callback_orders.specs.Lives.{held_for}
use Rattle.component_dto.specs.declared.description.Reference.{Reference}
use Rattle.component_state.specs.declared.component.Component.{Component}
use Rattle.component_state.specs.declared.open_period.OpenPeriod.{OpenPeriod}
use Rattle.component_state.specs.Periods.{is_current, is_open}
use Rattle.component_state.specs.Reasons.{choice_at}
use Rattle.component_state.proofs.Apart.{any_from, in_first, in_left, in_rest, in_right, kept_from}
use Rattle.prop_map.specs.Words.{has, with_places}
use Rattle.reference_match.specs.Needs.{need_of}
use Rattle.reference_match.specs.Targets.{is_multiple, is_static}
use Rattle.scr_promises.specs.Choices.{Stands}
use Rattle.scr_promises.proofs.ChoiceLaws.{choices_stand}
use Rattle.scr_promises.specs.Endings.{outlives_consumer}
use Rattle.scr_promises.proofs.EndingLaws.{current_open}
use Rattle.scr_promises.proofs.InstanceComponents.{its_component}
use Rattle.scr_promises.proofs.ViewedReferences.{has_sorted, placed_was}
use Rattle.scr_promises.proofs.HeldSteps.{board_bundle, board_references}
use Rattle.scr_promises.proofs.KnownLaws.{current_from}
use Rattle.scr_promises.proofs.TargetRows.{desired_among, target_row}
use Rattle.scr_laws.proofs.Calm.{open_lives}
use Rattle.scr_laws.proofs.Legal.{in_map, legal_scratch}
use Rattle.scr_laws.proofs.Sounding.{legal_sound}
use Rattle.scr_promises.proofs.RegistrySteps.{number_of}
use Rattle.scr_promises.proofs.ServiceLaws.{IsKind, are_services, of_command, of_component, of_platform, of_those_left, registered_is, registered_kind}
use Rattle.scr_laws.proofs.OwnerLaws.{active_owners}
use Rattle.scr_world.specs.Instances.{has_failed}
use Rattle.scr_world.specs.Legal.{IsLegal}
use Rattle.scr_world.specs.Lists.{is_active_bundle, world_of}
use Rattle.scr_world.specs.Steps.{History}
use Rattle.scr_world.specs.Views.{bundle_of_instance, desired_services, ends, properties_in, reference_view, references_in, targets_for, view_of, whiteboard_view}
use Rattle.scr_world.specs.Wanted.{ConsumerView, consumer_views}
use Rattle.scr_world.specs.Whiteboard.{condition, platform_rows, whiteboard_references}
use Rattle.scr_world.specs.Worlds.{direct_services, is_registered, registered_services, sorted}
use Rattle.scr_world.specs.declared.instance.Instance.{Instance}
use Rattle.scr_world.specs.declared.world.World.{World}
use Rattle.service_registry.specs.declared.row.ServiceRow.{ServiceRow}
use Rattle.service_registry.specs.Services.{has_interface}

-- the whiteboard's references are dynamic
dynamic_all : (q : Reference) → Contains whiteboard_references q → is_static q.policy ≡ true → ⊥
dynamic_all q h static = both_ways (list_any (λ (r : Reference). is_static r.policy) whiteboard_references) refl (any_from (λ (r : Reference). is_static r.policy) whiteboard_references q h static)

-- an instance that desires services, by a view: its bundle is 0 or active, and its choices stand
pub record GoesOn (w : World) (i : Instance) (v : InstanceView) : Type 0 where
  pub bundle : (bundle_of_instance w i ≡ 0) ⊎ (is_active_bundle w (bundle_of_instance w i) ≡ true)
  pub listed : Contains (consumer_views w) (bundle_of_instance w i, v)
  pub references : v.references ≡ map (reference_view false w i) (with_places 0 (references_in w i))
  pub stand : (r : ℕ × Reference) → Contains (with_places 0 (references_in w i)) r → is_static r.1.policy ≡ true → Stands w i r

-- a service that is registered with an interface: without a component, or by an open period
pub data IsOffered (w : World) (interface : List ℕ) (s : ℕ) : Type 0 where
  directly : (row : ServiceRow) → Contains (direct_services w) row → row.id ≡ s → IsOffered w interface s
  by_period : (p : OpenPeriod) → Contains w.open_periods p → p.row.id ≡ s → 0 < s → has_interface interface p.row ≡ true → IsOffered w interface s

module _ (limit : ℕ) (past : History) (legal : IsLegal limit past) where
  abbrev w : World
  w = world_of past

  pub made_goes_on : (i : Instance) → Contains w.instances i → ends w i ≡ false → GoesOn w i (view_of w i)
  made_goes_on i h off =
      let current = current_from (is_current w.open_periods i.origin) (outlives_consumer w i) (has_failed i.callbacks) off in
      let c = its_component limit past legal i h in
      let opened = ap (is_open w.open_periods) c.1.number ∙ current_open w.open_periods i.origin current in
      let exists = open_lives w (legal_scratch limit past legal) (legal_sound limit past legal).numbered c.0 opened c.1.there in
      let view : Instance → ConsumerView = λ j. (bundle_of_instance w j, view_of w j) in
      record {
        bundle = inr (ap (is_active_bundle w) c.1.bundle ∙ (active_owners limit past legal).components c.0 (kept_from (λ (x : Component). x.exists) w.components c.0 c.1.there exists));
        listed = in_rest (0, whiteboard_view w) (map view w.instances) (view i) (in_map view w.instances i h);
        references = ap (λ e. map (reference_view e w i) (with_places 0 (references_in w i))) off;
        stand = λ r in_r static. choices_stand limit past legal i h current r in_r static;
      }

  pub board_goes_on : GoesOn w w.whiteboard (whiteboard_view w)
  board_goes_on =
      let view : Instance → ConsumerView = λ j. (bundle_of_instance w j, view_of w j) in
      record {
        bundle = inl (board_bundle past);
        listed = subst (λ n. Contains (consumer_views w) (n, whiteboard_view w)) (sym (board_bundle past)) (in_first (0, whiteboard_view w) (map view w.instances));
        references = refl;
        stand = λ r in_r static. absurd (dynamic_all r.1 (subst (λ (rs : List Reference). Contains rs r.1) (board_references past) (placed_was 0 (references_in w w.whiteboard) r.0 r.1 in_r)) static);
      }

  module _ (i : Instance) (v : InstanceView) (on : GoesOn w i v) (r : ℕ × Reference) (in_r : Contains (with_places 0 (references_in w i)) r) (s : ℕ) (wish : has (desired_services w i r.0 r.1) s ≡ true) where
    target : has (targets_for w i r.1) s ≡ true
    target =
        let choice = choice_at i.origin.chosen r.0 in
        desired_among r.1.policy r.1.policy_option (is_multiple r.1.cardinality) (sorted w choice) (held_for r.1.name i.callbacks) (targets_for w i r.1) s
        (λ static chose. (on.stand r in_r static).targets s (sym (has_sorted w choice s) ∙ chose)) wish

    of_kind : (row : ServiceRow) → Contains (registered_services w) row → row.id ≡ s → has_interface r.1.interface_name row ≡ true → IsKind w row → IsOffered w r.1.interface_name s
    of_kind row k number has_it (of_platform is) = directly row (subst (λ (q : ServiceRow). Contains (direct_services w) q) is (in_left platform_rows w.registry.rows condition (in_first condition []))) number
    of_kind row k number has_it (of_command here) = directly row (in_right platform_rows w.registry.rows row here) number
    of_kind row k number has_it (of_component p here is above) = by_period p here (ap number_of is ∙ number) (subst (λ n. 0 < n) number above) (ap (has_interface r.1.interface_name) is ∙ has_it)
    of_kind row k number has_it (of_those_left here) = absurd (both_ways (is_registered w row.id) ((are_services limit past legal).left_gone row here) (registered_is w row k))

    pub offered : IsOffered w r.1.interface_name s
    offered =
        let row = target_row (need_of (properties_in w i) r.1) (registered_services w) s target in
        of_kind row.0 row.1 row.2 row.3 (registered_kind w row.0 row.1)
