-- In a quiet world no instance is ending: it would be held by one of a higher level that is ending as well.
use Rattle.std.proofs.Common.{◌≡◌, ◌<◌, ◌≤◌, ℕ, zero, suc, ◌+◌, List, ap, sym, ◌∙◌, refl, subst, arith, Bool, true, false, ◌&&◌, inl, inr}
use Rattle.std.specs.Prelude.{map, not, ◌==◌}
use Rattle.std.specs.List.{Contains, list_any}
use Rattle.std.specs.Str.{bytes_eq}
use Rattle.std.proofs.lemmas.Bool.{and_from, and_parts, both_ways, cases_Bool}
use Rattle.callback_orders.specs.declared.instance_view.InstanceView.{InstanceView}
use Rattle.callback_orders.specs.Lives.{held_for}
use Rattle.component_dto.specs.declared.description.Reference.{Reference}
use Rattle.component_state.specs.declared.component.Component.{Component}
use Rattle.component_state.proofs.Apart.{any_found, in_cases, in_either, in_rest}
use Rattle.level_order.specs.Levels.{provides}
use Rattle.prop_map.specs.Words.{has, with_places}
use Rattle.scr_promises.proofs.InstanceComponents.{IsComponentOf, its_component}
use Rattle.scr_promises.proofs.ViewedReferences.{placed_in}
use Rattle.scr_promises.proofs.InstanceServices.{have_periods}
use Rattle.scr_promises.proofs.KnownLaws.{hold_as}
use Rattle.scr_promises.proofs.ServingLaws.{serving_goes_on}
use Rattle.scr_laws.proofs.Legal.{in_map}
use Rattle.scr_laws.proofs.Listed.{single}
use Rattle.scr_laws.proofs.Sounding.{legal_sound}
use Rattle.scr_promises.proofs.AllActive.{HoldsDesired, board_holds, made_holds}
use Rattle.scr_promises.proofs.GoingOn.{GoesOn, IsOffered, board_goes_on, by_period, directly, made_goes_on, offered}
use Rattle.scr_promises.proofs.Heights.{height, height_bound, provider_lower, top_of}
use Rattle.scr_promises.proofs.InstanceInterfaces.{have_interfaces}
use Rattle.scr_promises.proofs.Quietness.{none_due, none_outstanding, none_passes}
use Rattle.scr_promises.proofs.Waits.{ending_due, ending_waits}
use Rattle.scr_promises.proofs.RegistrySteps.{number_of}
use Rattle.scr_world.specs.Consequences.{is_draining}
use Rattle.scr_world.specs.Instances.{is_active_instance}
use Rattle.scr_world.specs.Legal.{IsLegal, awaits_drain}
use Rattle.scr_world.specs.Lists.{holds, world_of}
use Rattle.scr_world.specs.Quiet.{IsQuiet}
use Rattle.scr_world.specs.Steps.{History}
use Rattle.scr_world.specs.Views.{bundle_of_instance, ends, has_holder, is_holder, references_in, serves, view_of, whiteboard_view}
use Rattle.scr_world.specs.Whiteboard.{condition, platform_rows}
use Rattle.scr_world.specs.Worlds.{all_instances, direct_services}
use Rattle.scr_world.specs.declared.instance.Instance.{Instance}
use Rattle.scr_world.specs.declared.world.World.{World}
use Rattle.service_registry.specs.declared.row.ServiceRow.{ServiceRow}

above_none : (n : ℕ) → not (n == 0) ≡ true → 0 < n
above_none zero some = cc
above_none (suc n) some = omega arith

not_both : (a b : Bool) → (not a && b) ≡ false → b ≡ true → a ≡ true
not_both true b off on = refl
not_both false true off on = cc
not_both false false off on = cc

-- one that is ending as well holds an instance, and stands higher
record HoldsAbove (w : World) (c : Component) : Type 0 where
  holder : Instance
  there : Contains w.instances holder
  ending : ends w holder ≡ true
  component : Component
  its : IsComponentOf w holder component
  higher : height w c < height w component

module _ (limit : ℕ) (past : History) (legal : IsLegal limit past) (quiet : IsQuiet (world_of past)) where
  abbrev w : World
  w = world_of past

  ending_held : (i : Instance) → Contains w.instances i → ends w i ≡ true → has_holder w i ≡ true
  ending_held i h on =
      let v = view_of w i in
      let none = ending_due v (none_outstanding w quiet i (in_rest w.whiteboard w.instances i h)) on
      (none_due w quiet v (in_rest (whiteboard_view w) (map (view_of w) w.instances) v (in_map (view_of w) w.instances i h))) in
      let waits = ending_waits v v.phase none in
      let draining = and_from (is_active_instance i) (ends w i) waits.0 on in
      let drained : i.drained ≡ true = elim (cases_Bool i.drained) [
        | inl is ↦ is
        | inr off ↦ absurd (both_ways (awaits_drain w i) (none_passes (awaits_drain w) w.instances quiet.drained i h) (and_from (is_draining w i) (not i.drained) draining (ap not off)))
      ] in
      not_both (has_holder w i) i.drained waits.1 drained

  module _ (i : Instance) (h : Contains w.instances i) (on : ends w i ≡ true) (some : 0 < i.service) where
    -- its service isn't direct
    indirect : (row : ServiceRow) → Contains (direct_services w) row → row.id ≡ i.service → ⊥
    indirect row there number = elim (in_either platform_rows w.registry.rows row there) [
      | inl platform ↦ (let none = ap number_of (sym (single condition row platform)) in omega (arith, none, number, some))
      | inr commanded ↦ (have_periods limit past legal i h).of_component row commanded number some
    ]

    -- an instance that holds it
    record IsHeldBy (j : Instance) : Type 0 where
      reference : Reference
      known : Contains (references_in w j) reference
      holding : has (held_for reference.name j.callbacks) i.service ≡ true
      serving : serves w (bundle_of_instance w j) i.service i ≡ true

    held_by : (j : Instance) → is_holder w i j ≡ true → IsHeldBy j
    held_by j is =
        let both = and_parts (holds w.components i.service j) (serves w (bundle_of_instance w j) i.service i) is in
        let found = any_found (λ (r : Reference). has (held_for r.name j.callbacks) i.service) (references_in w j) both.0 in
        record { reference = found.0; known = found.1; holding = found.2; serving = both.1 }

    -- one that goes on would desire it, so the instance wouldn't be ending
    going_wrong : (j : Instance) (v : InstanceView) → GoesOn w j v → HoldsDesired w j → IsHeldBy j → ⊥
    going_wrong j v goes_on held is = go (offered limit past legal j v goes_on r place.1 i.service (sym (held r place.1 i.service) ∙ is.holding))
      where
        place : (n : ℕ) × Contains (with_places 0 (references_in (world_of past) j)) (n, is.reference)
        place = placed_in 0 (references_in (world_of past) j) is.reference is.known

        r : ℕ × Reference
        r = (place.0, is.reference)

        go : IsOffered (world_of past) is.reference.interface_name i.service → ⊥
        go (directly row there number) = indirect row there number
        go (by_period p here number above has_it) =
            both_ways (ends (world_of past) i) (serving_goes_on limit past legal p here i.service number above (bundle_of_instance (world_of past) j) goes_on.bundle i h is.serving) on

    -- one that is ending references an interface of the instance's component
    ending_above : (c : Component) → IsComponentOf w i c → (j : Instance) → Contains w.instances j → ends w j ≡ true → IsHeldBy j → HoldsAbove w c
    ending_above c its j there ending is =
        let known = hold_as limit past legal j (in_rest w.whiteboard w.instances j there) is.reference is.known i.service is.holding in
        let interfaces = have_interfaces limit past legal i h known.row known.known known.number (subst (λ n. 0 < n) (sym known.number) some) c its.there its.number in
        let provided : provides c.description known.reference.interface_name ≡ true =
        ap (λ (names : List (List ℕ)). list_any (λ name. bytes_eq name known.reference.interface_name) names) (sym interfaces) ∙ known.interface in
        let d = its_component limit past legal j there in
        record {
          holder = j;
          there = there;
          ending = ending;
          component = d.0;
          its = d.1;
          higher = provider_lower w (legal_sound limit past legal) c d.0 its.there d.1.there known.reference (subst (λ (rs : List Reference). Contains rs known.reference) d.1.references known.there) provided;
        }

    held_above : (c : Component) → IsComponentOf w i c → (j : Instance) → Contains (all_instances w) j → is_holder w i j ≡ true → HoldsAbove w c
    held_above c its j there is = elim (in_cases w.whiteboard w.instances j there) [
      | inl board ↦ absurd (going_wrong w.whiteboard (whiteboard_view w) (board_goes_on limit past legal) (board_holds limit past legal quiet) (subst (λ (x : Instance). IsHeldBy x) (sym board) (held_by j is)))
      | inr made ↦ elim (cases_Bool (ends w j)) [
        | inl ending ↦ ending_above c its j made ending (held_by j is)
        | inr off ↦ absurd (going_wrong j (view_of w j) (made_goes_on limit past legal j made off) (made_holds limit past legal quiet j made off) (held_by j is))
      ]
    ]

  above : (i : Instance) → Contains w.instances i → ends w i ≡ true → (c : Component) → IsComponentOf w i c → HoldsAbove w c
  above i h on c its =
      let parts = and_parts (not (i.service == 0)) (list_any (is_holder w i) (all_instances w)) (ending_held i h on) in
      let j = any_found (is_holder w i) (all_instances w) parts.1 in
      held_above i h on (above_none i.service parts.0) c its j.0 j.1 j.2

  none_above : (n : ℕ) (i : Instance) → Contains w.instances i → ends w i ≡ true → (c : Component) → IsComponentOf w i c → top_of w + 1 ≤ n + height w c → ⊥
  none_above zero i h on c its high = let low = height_bound w (legal_sound limit past legal) c its.there in omega (arith, low, high)
  none_above (suc n) i h on c its high =
      let up = above i h on c its in
      let higher = up.higher in
      none_above n up.holder up.there up.ending up.component up.its (omega (arith, higher, high))

  pub none_ending : (i : Instance) → Contains w.instances i → ends w i ≡ false
  none_ending i h = elim (cases_Bool (ends w i)) [
    | inr off ↦ off
    | inl on ↦ (let c = its_component limit past legal i h in absurd (none_above (top_of w + 1) i h on c.0 c.1 (omega arith)))
  ]
