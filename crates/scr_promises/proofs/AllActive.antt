-- In a quiet world every instance that isn't ending is active and holds what it desires, and so does that of the whiteboard: one waits only for one of a lower level.
use Rattle.std.proofs.Common.{◌≡◌, ◌<◌, ℕ, zero, suc, ◌+◌, List, ap, sym, ◌∙◌, refl, subst, arith, Bool, true, false, ◌&&◌, None}
use Rattle.std.specs.Prelude.{map, ◌==◌}
use Rattle.std.specs.List.{Contains, list_any}
use Rattle.std.proofs.lemmas.Bool.{and_from, and_parts, both_ways, eq-eqb, eqb-true, or_left, or_right}
use Rattle.callback_orders.specs.declared.instance_view.InstanceView.{InstanceView}
use Rattle.callback_orders.specs.declared.instance_view.Phase.{Phase}
use Rattle.callback_orders.specs.declared.instance_view.Phase.TheVariants.{Making, Active, Left}
use Rattle.callback_orders.specs.declared.instance_view.ReferenceView.{ReferenceView}
use Rattle.callback_orders.specs.declared.instance_view.Wish.{Wish}
use Rattle.callback_orders.specs.Due.{due_in_phase, due_while_active}
use Rattle.callback_orders.specs.Lives.{held_for, phase_of}
use Rattle.component_dto.specs.declared.description.Reference.{Reference}
use Rattle.component_state.specs.declared.component.Component.{Component}
use Rattle.component_state.proofs.Apart.{any_found, any_from, either_way, in_first, in_rest}
use Rattle.level_order.specs.Levels.{provides}
use Rattle.prop_map.specs.Words.{has, with_places}
use Rattle.scr_promises.proofs.EndingLaws.{end_in_time}
use Rattle.scr_promises.proofs.InstanceComponents.{IsComponentOf, its_component}
use Rattle.scr_promises.proofs.ViewedReferences.{desires_seen, holds_seen, placed_was}
use Rattle.scr_laws.proofs.Legal.{in_map}
use Rattle.scr_laws.proofs.Listed.{mapped_was}
use Rattle.scr_laws.proofs.Sounding.{legal_sound}
use Rattle.scr_promises.proofs.GoingOn.{GoesOn, IsOffered, board_goes_on, by_period, directly, made_goes_on, offered}
use Rattle.scr_promises.proofs.Heights.{height, height_bound, provider_lower, top_of}
use Rattle.scr_promises.proofs.Providers.{IsServedBy, key, key_wanted, served}
use Rattle.scr_promises.proofs.Quietness.{none_due, none_outstanding, wanted_there}
use Rattle.scr_promises.proofs.Sets.{in_has}
use Rattle.scr_promises.proofs.Waits.{AllReady, HoldsIts, active_holds, desired_held, going_due, held_desired, making_goes_on}
use Rattle.scr_world.specs.Instances.{is_active_instance, is_active_phase}
use Rattle.scr_world.specs.Legal.{IsLegal}
use Rattle.scr_world.specs.Lists.{world_of}
use Rattle.scr_world.specs.Quiet.{IsQuiet}
use Rattle.scr_world.specs.Steps.{History}
use Rattle.scr_world.specs.Views.{bundle_of_instance, desired_services, ends, is_ready, reference_view, references_in, serves, view_of, whiteboard_view}
use Rattle.scr_world.specs.Worlds.{direct_services}
use Rattle.scr_world.specs.declared.instance.Instance.{Instance}
use Rattle.scr_world.specs.declared.world.World.{World}
use Rattle.service_registry.specs.declared.row.ServiceRow.{ServiceRow}

-- an instance holds for each reference what it desires
abbrev pub HoldsDesired : World → Instance → Type 0
HoldsDesired w i = (r : ℕ × Reference) → Contains (with_places 0 (references_in w i)) r → (s : ℕ) → has (held_for r.1.name i.callbacks) s ≡ has (desired_services w i r.0 r.1) s

-- those that aren't ending and have an interface that an instance references are active
abbrev ServersActive : World → Instance → Type 0
ServersActive w i = (x : Instance) → Contains w.instances x → ends w x ≡ false → (c : Component) → IsComponentOf w x c → (r : Reference) → Contains (references_in w i) r → provides c.description r.interface_name ≡ true → is_active_instance x ≡ true

-- who serves a desired service, where it isn't direct, is there
data IsMet (w : World) (i : Instance) (s : ℕ) (interface : List ℕ) : Type 0 where
  by_direct : (row : ServiceRow) → Contains (direct_services w) row → row.id ≡ s → IsMet w i s interface
  by_one : (x : Instance) → IsServedBy w i s interface x → IsMet w i s interface

pub active_phase : (phase : Phase) → is_active_phase phase ≡ true → phase ≡ Active
active_phase Making is = cc
active_phase Active is = refl
active_phase Left is = cc

module _ (limit : ℕ) (past : History) (legal : IsLegal limit past) (quiet : IsQuiet (world_of past)) where
  abbrev w : World
  w = world_of past

  -- ---- one that goes on

  module _ (i : Instance) (v : InstanceView) (on : GoesOn w i v) where
    met : (r : ℕ × Reference) → Contains (with_places 0 (references_in w i)) r → (s : ℕ) → has (desired_services w i r.0 r.1) s ≡ true → IsMet w i s r.1.interface_name
    met r in_r s wish = go (offered limit past legal i v on r in_r s wish)
      where
        go : IsOffered (world_of past) r.1.interface_name s → IsMet (world_of past) i s r.1.interface_name
        go (directly row there number) = by_direct row there number
        go (by_period p here number some has_it) =
            let k = key limit past legal i v on r in_r s wish p here number some has_it in
            let there = wanted_there (world_of past) quiet k (key_wanted limit past legal i v on r in_r s wish p here number some has_it) in
            let x = any_found (λ (j : Instance). (j.origin.configuration == k.configuration) && (j.consumer == k.consumer)) (world_of past).instances there in
            let both = and_parts (x.0.origin.configuration == k.configuration) (x.0.consumer == k.consumer) x.2 in
            by_one x.0 (served limit past legal i v on r in_r s wish p here number some has_it x.0 x.1 (eqb-true x.0.origin.configuration k.configuration both.0) (eqb-true x.0.consumer k.consumer both.1))

    module _ (active : ServersActive w i) where
      ready : (r : ℕ × Reference) → Contains (with_places 0 (references_in w i)) r → (s : ℕ) → has (desired_services w i r.0 r.1) s ≡ true → is_ready w (bundle_of_instance w i) s ≡ true
      ready r in_r s wish = go (met r in_r s wish)
        where
          by_number : ServiceRow → Bool
          by_number = λ (q : ServiceRow). q.id == s

          serving : Instance → Bool
          serving = λ (j : Instance). serves (world_of past) (bundle_of_instance (world_of past) i) s j && is_active_instance j

          go : IsMet (world_of past) i s r.1.interface_name → is_ready (world_of past) (bundle_of_instance (world_of past) i) s ≡ true
          go (by_direct row there number) = or_left (list_any by_number (direct_services (world_of past))) (list_any serving (world_of past).instances) (any_from by_number (direct_services (world_of past)) row there (eq-eqb row.id s number))
          go (by_one x is) = or_right (list_any by_number (direct_services (world_of past))) (list_any serving (world_of past).instances)
              (any_from serving (world_of past).instances x is.there (and_from (serves (world_of past) (bundle_of_instance (world_of past) i) s x) (is_active_instance x) is.serving
              (active x is.there is.going_on is.component is.its r.1 (placed_was 0 (references_in (world_of past) i) r.0 r.1 in_r) is.has_it)))

      all_ready : AllReady v.references
      all_ready q h y k =
          let was = mapped_was (reference_view false w i) (with_places 0 (references_in w i)) q (subst (λ (qs : List ReferenceView). Contains qs q) on.references h) in
          let desired = desired_services w i was.0.0 was.0.1 in
          let wish : ℕ → Wish = λ s. record { service = s; ready = is_ready w (bundle_of_instance w i) s } in
          let its = mapped_was wish desired y (subst (λ (x : ReferenceView). Contains x.desired y) (sym was.1.1) k) in
          ap (λ (x : Wish). x.ready) (sym its.1.1) ∙ ready was.0 was.1.0 its.0 (in_has desired its.0 its.1.0)

      holds_when : due_while_active v ≡ None → HoldsDesired w i
      holds_when none r in_r s =
          let shown = reference_view false w i r in
          let there = subst (λ (qs : List ReferenceView). Contains qs shown) (sym on.references) (in_map (reference_view false w i) (with_places 0 (references_in w i)) r in_r) in
          let its : HoldsIts shown = active_holds v all_ready none shown there in
          either_way (has (held_for r.1.name i.callbacks) s) (has (desired_services w i r.0 r.1) s)
          (λ held. sym (desires_seen w i false r s) ∙ held_desired shown its s (holds_seen w i false r s ∙ held))
          (λ desired. sym (holds_seen w i false r s) ∙ desired_held shown its s (desires_seen w i false r s ∙ desired))

  -- ---- every instance that isn't ending is active

  due_of_made : (i : Instance) → Contains w.instances i → ends w i ≡ false → due_in_phase (view_of w i) (phase_of i.callbacks) ≡ None
  due_of_made i h off = going_due (view_of w i) (none_outstanding w quiet i (in_rest w.whiteboard w.instances i h)) off
      (none_due w quiet (view_of w i) (in_rest (whiteboard_view w) (map (view_of w) w.instances) (view_of w i) (in_map (view_of w) w.instances i h)))

  active_when : (i : Instance) → Contains w.instances i → ends w i ≡ false → ServersActive w i → is_active_instance i ≡ true
  active_when i h off active = go (phase_of i.callbacks) refl (due_of_made i h off)
    where
      go : (phase : Phase) → phase_of i.callbacks ≡ phase → due_in_phase (view_of (world_of past) i) phase ≡ None → is_active_phase phase ≡ true
      go Making is none = absurd (making_goes_on i.number (view_of (world_of past) i).references (all_ready i (view_of (world_of past) i) (made_goes_on limit past legal i h off) active) none)
      go Active is none = refl
      go Left is none = absurd (both_ways (ends (world_of past) i) off ((end_in_time limit past legal).left i h is))

  active_below : (n : ℕ) (i : Instance) → Contains w.instances i → ends w i ≡ false → (d : Component) → IsComponentOf w i d → height w d < n → is_active_instance i ≡ true
  active_below zero i h off d its low = absurd (omega (arith, low))
  active_below (suc n) i h off d its low = active_when i h off (λ x k goes_on c is r in_r provided.
      (let lower = provider_lower w (legal_sound limit past legal) c d is.there its.there r (subst (λ (rs : List Reference). Contains rs r) its.references in_r) provided in
      active_below n x k goes_on c is (omega (arith, low, lower))))

  pub all_active : (i : Instance) → Contains w.instances i → ends w i ≡ false → is_active_instance i ≡ true
  all_active i h off =
      let d = its_component limit past legal i h in
      active_below (top_of w + 1) i h off d.0 d.1 (height_bound w (legal_sound limit past legal) d.0 d.1.there)

  servers_active : (i : Instance) → ServersActive w i
  servers_active i x h off c its r in_r provided = all_active x h off

  -- ---- and holds what it desires

  pub made_holds : (i : Instance) → Contains w.instances i → ends w i ≡ false → HoldsDesired w i
  made_holds i h off =
      let active = active_phase (phase_of i.callbacks) (all_active i h off) in
      holds_when i (view_of w i) (made_goes_on limit past legal i h off) (servers_active i) (ap (due_in_phase (view_of w i)) (sym active) ∙ due_of_made i h off)

  pub board_holds : HoldsDesired w w.whiteboard
  board_holds =
      let v = whiteboard_view w in
      holds_when w.whiteboard v (board_goes_on limit past legal) (servers_active w.whiteboard)
      (going_due v (none_outstanding w quiet w.whiteboard (in_first w.whiteboard w.instances)) refl (none_due w quiet v (in_first v (map (view_of w) w.instances))))
