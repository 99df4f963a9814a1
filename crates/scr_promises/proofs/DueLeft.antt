-- Where a callback is due in a settling, a turn is to come.
use Rattle.std.proofs.Common.{◌≡◌, ◌≤◌, ℕ, List, [], ◌∷◌, ◌++◌, ap, sym, ◌∙◌, refl, subst, cond, arith, Bool, true, false, inl, inr, ◌⊎◌, Option, Some, None}
use Rattle.std.specs.Prelude.{is_some, map, not, nat_lt, ◌==◌, ◌&&◌}
use Rattle.std.specs.List.{Contains, slice_index_or}
use Rattle.std.proofs.lemmas.Bool.{and_from, and_parts, both_ways, cases_Bool, eq-eqb}
use Rattle.callback_orders.specs.declared.callback.Callback.{Callback}
use Rattle.callback_orders.specs.declared.callback.Callback.TheVariants.{Bind, Activate, Deactivate, Destroy}
use Rattle.callback_orders.specs.declared.due.DueRef.{DueRef}
use Rattle.callback_orders.specs.declared.due.DueRef.TheVariants.{Create as CreateDue, Bind as BindDue, Updated as UpdatedDue, Unbind as UnbindDue, Activate as ActivateDue, Modified as ModifiedDue, Deactivate as DeactivateDue, Destroy as DestroyDue}
use Rattle.callback_orders.specs.declared.instance_view.HeldService.{HeldService}
use Rattle.callback_orders.specs.declared.instance_view.InstanceView.{InstanceView}
use Rattle.callback_orders.specs.declared.instance_view.Key.{Key}
use Rattle.callback_orders.specs.declared.instance_view.Phase.{Phase}
use Rattle.callback_orders.specs.declared.instance_view.Phase.TheVariants.{Active}
use Rattle.callback_orders.specs.declared.instance_view.ReferenceView.{ReferenceView}
use Rattle.callback_orders.specs.declared.instance_view.Wish.{Wish}
use Rattle.callback_orders.specs.Due.{due_of}
use Rattle.callback_orders.specs.Grammar.{is_activate, is_deactivate, is_destroy}
use Rattle.callback_orders.specs.Lives.{callback_of, held_for, phase_of}
use Rattle.callback_orders.specs.References.{is_desired, is_held}
use Rattle.callback_orders.specs.Sequences.{alternate, begun, created, is_bind_or_unbind, one_at_a_time}
use Rattle.callback_orders.proofs.HeldLemmas.{text_same}
use Rattle.component_dto.specs.declared.description.Reference.{Reference}
use Rattle.component_state.specs.declared.component.Component.{Component}
use Rattle.component_state.specs.Components.{existing}
use Rattle.component_state.specs.Reasons.{choice_at}
use Rattle.component_state.specs.Rows.{service_in}
use Rattle.component_state.proofs.Apart.{any_found, any_from, in_cases, in_first, in_rest, kept_was, not_true}
use Rattle.prop_map.specs.Words.{has, one_if, with_places}
use Rattle.reference_match.specs.Targets.{is_multiple}
use Rattle.scr_promises.proofs.WhileActive.{held_begun}
use Rattle.scr_promises.proofs.Comings.{IsSeen, gains, one_made, whiteboard}
use Rattle.scr_promises.proofs.DueCallbacks.{due_ended, due_stands, first_is}
use Rattle.scr_promises.proofs.ViewedReferences.{desires_seen, has_sorted, holds_seen, name_there, viewed}
use Rattle.scr_laws.proofs.LegalOrder.{legal_ordered}
use Rattle.scr_laws.proofs.Viewing.{board_due_binds, due_may}
use Rattle.scr_promises.proofs.HeldSteps.{held_next}
use Rattle.scr_promises.proofs.KnownLaws.{IsRegisteredWith, bound_row}
use Rattle.scr_laws.proofs.Listed.{mapped_was}
use Rattle.scr_promises.specs.Names.{HaveOwnNames}
use Rattle.scr_promises.proofs.BeginSteps.{last_has}
use Rattle.scr_promises.proofs.CallbackKinds.{one_activate, one_deactivate, one_destroy, was_told}
use Rattle.scr_promises.proofs.Covers.{AreAccounted, HasTables, accounted_counted, registered_counted}
use Rattle.scr_promises.proofs.DueReasons.{due_says}
use Rattle.scr_promises.proofs.InstanceSteps.{IsCounted, as_direct, as_held, of_component}
use Rattle.scr_promises.proofs.MayBind.{desired_may}
use Rattle.scr_promises.proofs.NewInstances.{consumer_counted}
use Rattle.scr_promises.proofs.NewKeys.{key_counted}
use Rattle.scr_promises.proofs.OwnNames.{instance_names}
use Rattle.scr_promises.proofs.PairMoves.{HasOwnNames}
use Rattle.scr_promises.proofs.PairSteps.{value_free, value_held}
use Rattle.scr_promises.proofs.Potentials.{bindable, component_left, components_with, consumers_for, direct_with, has_new, held_at, instance_left, is_new_of, key_full, key_left, life_left, may_bind, pair_left, reference_left, turns_left}
use Rattle.scr_promises.proofs.SettlingWorlds.{IsSettled}
use Rattle.scr_promises.proofs.Sums.{total, total_has}
use Rattle.scr_promises.proofs.Tellings.{firm_held}
use Rattle.scr_promises.proofs.CallbackSteps.{firm}
use Rattle.scr_world.specs.Dues.{due_in, names_of}
use Rattle.scr_world.specs.Legal.{IsLegal}
use Rattle.scr_world.specs.Lists.{is_active_bundle, world_of}
use Rattle.scr_world.specs.Steps.{History}
use Rattle.scr_world.specs.Views.{awaits_modified, desired_services, desired_unless_ending, ends, is_changed, reference_view, references_in, targets_for, view_as, view_of, views_of, whiteboard_view}
use Rattle.scr_world.specs.Wanted.{has_instance, missing, wanted}
use Rattle.scr_world.specs.Worlds.{all_instances, sorted}
use Rattle.scr_world.specs.declared.instance.Instance.{Instance}
use Rattle.scr_world.specs.declared.step.Step.TheVariants.{Begin}
use Rattle.scr_world.specs.declared.world.World.{World}
use Rattle.service_registry.specs.declared.row.ServiceRow.{ServiceRow}

one_on : (b : Bool) → b ≡ true → 1 ≤ one_if b
one_on true on = omega arith
one_on false on = cc

module _ (start : World) (limit : ℕ) (past : History) (legal : IsLegal limit past) (tables : HasTables start (world_of past)) (accounted : AreAccounted start (world_of past)) where
  abbrev w : World
  w = world_of past

  -- ---- one instance

  module _ (e : Bool) (phase : Phase) (i : Instance) (there : Contains (all_instances w) i) (own : HasOwnNames w i) (seen : IsSeen w i (view_as phase e w i)) (due : DueRef) (is_due : due_of (view_as phase e w i) ≡ Some due)
      (order : is_bind_or_unbind (callback_of (names_of w i) due) ≡ false → created (i.callbacks ++ begun (callback_of (names_of w i) due) ∷ []) ≡ true) where
    abbrev v : InstanceView
    v = view_as phase e w i

    abbrev Some_left : Type 0
    Some_left = 1 ≤ instance_left start e w i

    abbrev name_at : ℕ → List ℕ
    name_at k = slice_index_or (names_of w i) k []

    seen_at : (k : ℕ) (shown : ReferenceView) → Contains (with_places 0 v.references) (k, shown) → (q : Reference) × Contains (with_places 0 (references_in w i)) (k, q) × (shown ≡ reference_view e w i (k, q))
    seen_at k shown h = viewed (reference_view e w i) 0 (references_in w i) k shown h

    firm_was : (name : List ℕ) → firm name i.callbacks ≡ held_for name i.callbacks
    firm_was name = firm_held name i.callbacks (due_ended v due is_due)

    -- a pair that is counted
    by_pair : (r : ℕ × Reference) → Contains (with_places 0 (references_in w i)) r → (s : ℕ) → IsCounted start w i.number r s → 1 ≤ pair_left e w i r s → Some_left
    by_pair r in_r s counted one =
        let low = of_reference counted in
        let all = total_has (reference_left start e w i) (with_places 0 (references_in w i)) r in_r in
        omega (arith, low, all)
      where
        of_reference : IsCounted start (world_of past) i.number r s → 1 ≤ reference_left start e (world_of past) i r
        of_reference (as_direct q h is) =
            let has_it = total_has (λ (x : ServiceRow). pair_left e (world_of past) i r x.id) (direct_with start r.1.interface_name) q h in
            let same = ap (pair_left e (world_of past) i r) is in
            omega (arith, has_it, same, one)
        of_reference (of_component c h on is) =
            let has_it = total_has (component_left e (world_of past) i r) (components_with start r.1.interface_name) c h in
            let same = ap (λ b. cond b (pair_left e (world_of past) i r (service_in (world_of past).open_periods c.number)) 2) on ∙ ap (pair_left e (world_of past) i r) is in
            omega (arith, has_it, same, one)
        of_reference (as_held h) = (let has_it = total_has (pair_left e (world_of past) i r) (held_at start i.number r.1.name) s h in omega (arith, has_it, one))

    by_held : (k : ℕ) (q : Reference) → Contains (with_places 0 (references_in w i)) (k, q) → (t : ℕ) → has (held_for q.name i.callbacks) t ≡ true → Some_left
    by_held k q h t on = by_pair (k, q) h t (accounted_counted start limit past legal tables i (k, q) t (accounted i there (k, q) h t on))
        (value_held (has (firm q.name i.callbacks) t) (is_changed w i q.name t) (not e && has (bindable w i (k, q)) t) (ap (λ (ns : List ℕ). has ns t) (firm_was q.name) ∙ on))

    unbinds : (m k t : ℕ) → due ≡ UnbindDue m k t → Some_left
    unbinds m k t is_it =
        let u = (due_stands v (UnbindDue m k t) (is_due ∙ ap Some is_it)).1 in
        let at = seen_at k u.reference u.there in
        by_held k at.0 at.1 t (sym (holds_seen w i e (k, at.0) t) ∙ ap (λ (x : ReferenceView). is_held x t) (sym at.2) ∙ u.held)

    tells : (m k t : ℕ) → due ≡ UpdatedDue m k t → Some_left
    tells m k t is_it =
        let says = due_says v (UpdatedDue m k t) (is_due ∙ ap Some is_it) in
        let at = seen_at k says.0 says.1 in
        let is_there = any_from (λ (h : HeldService). h.service == t) says.0.held says.2.one says.2.there (eq-eqb says.2.one.service t says.2.service) in
        by_held k at.0 at.1 t (sym (holds_seen w i e (k, at.0) t) ∙ ap (λ (x : ReferenceView). is_held x t) (sym at.2) ∙ is_there)

    now_held : (k : ℕ) (q : Reference) (t : ℕ) → Contains (with_places 0 (references_in w i)) (k, q) → (c : Callback) → c ≡ Bind (name_at k) t → has (held_for q.name (i.callbacks ++ begun c ∷ [])) t ≡ true
    now_held k q t h c is_bind =
        ap (λ (x : Callback). has (held_for q.name (i.callbacks ++ begun x ∷ [])) t) is_bind
        ∙ ap (λ (ns : List ℕ). has ns t) (held_begun q.name i.callbacks [] (begun (Bind (name_at k) t)))
        ∙ ap (λ (b : Bool). has (cond b (held_for q.name i.callbacks ++ t ∷ []) (held_for q.name i.callbacks)) t) (text_same (name_at k) q.name (name_there (references_in w i) k q h))
        ∙ last_has (held_for q.name i.callbacks) t

    registered : (k : ℕ) (q : Reference) (t : ℕ) → Contains (with_places 0 (references_in w i)) (k, q) → callback_of (names_of w i) due ≡ Bind (name_at k) t → has (held_for q.name i.callbacks) t ≡ false → IsRegisteredWith w t q.interface_name
    registered k q t h call off =
        let c = callback_of (names_of w i) due in
        let step = Begin 0 0 0 0 c [] in
        elim (held_next w step i q.name t (i.callbacks ++ begun c ∷ []) (gains v seen due is_due refl refl) (now_held k q t h c call)) [
          | inl before ↦ absurd (both_ways (has (held_for q.name i.callbacks) t) off before)
          | inr bound ↦ (
              let row = bound_row limit past legal step i q.name t bound in
              subst (λ (x : ℕ × Reference). IsRegisteredWith w t x.1.interface_name) (own (bound.place, bound.reference) (k, q) bound.there h bound.named) row)
        ]

    binds : (m k t : ℕ) → due ≡ BindDue m k t → Some_left
    binds m k t is_it =
        let b = (due_stands v (BindDue m k t) (is_due ∙ ap Some is_it)).1 in
        let at = seen_at k b.reference b.there in
        let q = at.0 in
        let off : has (held_for q.name i.callbacks) t ≡ false = sym (holds_seen w i e (k, q) t) ∙ ap (λ (x : ReferenceView). is_held x t) (sym at.2) ∙ b.unheld in
        let row = registered k q t at.1 (ap (callback_of (names_of w i)) is_it) off in
        let wished = any_from (λ (x : Wish). x.service == t) b.reference.desired b.wish b.wished (eq-eqb b.wish.service t b.service) in
        let desired : has (desired_services w i k q) t ≡ true = ap (λ (x : Bool). has (desired_unless_ending x w i k q) t) (sym b.going_on) ∙ sym (desires_seen w i e (k, q) t) ∙ ap (λ (x : ReferenceView). is_desired x t) (sym at.2) ∙ wished in
        let choice = choice_at i.origin.chosen k in
        let may = desired_may q.policy q.policy_option (is_multiple q.cardinality) choice (sorted w choice) (held_for q.name i.callbacks) (targets_for w i q) t (λ on. sym (has_sorted w choice t) ∙ on) off desired in
        let free : has (bindable w i (k, q)) t ≡ true = ap (λ (hs : List ℕ). has (may_bind q.policy q.policy_option (is_multiple q.cardinality) choice hs (targets_for w i q)) t) (firm_was q.name) ∙ may in
        by_pair (k, q) at.1 t (registered_counted start limit past legal tables i.number (k, q) t row)
        (value_free (has (firm q.name i.callbacks) t) (is_changed w i q.name t) (not e && has (bindable w i (k, q)) t) (ap (λ (ns : List ℕ). has ns t) (firm_was q.name) ∙ off)
        (and_from (not e) (has (bindable w i (k, q)) t) (ap not b.going_on) free))

    by_life : 1 ≤ life_left w i → Some_left
    by_life one = omega (arith, one)

    created_as : (c : Callback) → callback_of (names_of w i) due ≡ c → is_bind_or_unbind c ≡ false → created (i.callbacks ++ begun c ∷ []) ≡ true
    created_as c is_it other = subst (λ (x : Callback). created (i.callbacks ++ begun x ∷ []) ≡ true) is_it (order (ap is_bind_or_unbind is_it ∙ other))

    some_due : (x : DueRef) → due ≡ x → Some_left
    some_due (CreateDue key) is_it = absurd (due_stands v (CreateDue key) (is_due ∙ ap Some is_it))
    some_due (BindDue m k t) is_it = binds m k t is_it
    some_due (UpdatedDue m k t) is_it = tells m k t is_it
    some_due (UnbindDue m k t) is_it = unbinds m k t is_it
    some_due (ActivateDue m) is_it = (
        let none = one_activate i.callbacks (created_as Activate (ap (callback_of (names_of w i)) is_it) refl) in
        let one = one_on (not (was_told is_activate i.callbacks)) (ap not none) in
        by_life (omega (arith, one)))
    some_due (DeactivateDue m) is_it = (
        let none = one_deactivate i.callbacks (created_as Deactivate (ap (callback_of (names_of w i)) is_it) refl) in
        let one = one_on (not (was_told is_deactivate i.callbacks)) (ap not none) in
        by_life (omega (arith, one)))
    some_due (DestroyDue m) is_it = (
        let none = one_destroy i.callbacks (created_as Destroy (ap (callback_of (names_of w i)) is_it) refl) in
        let one = one_on (not (was_told is_destroy i.callbacks)) (ap not none) in
        by_life (omega (arith, one)))
    some_due (ModifiedDue m) is_it = (
        let stale : awaits_modified w i ≡ true = due_says v (ModifiedDue m) (is_due ∙ ap Some is_it) in
        let one = one_on (awaits_modified w i) stale in
        by_life (omega (arith, one)))

    pub instance_due : Some_left
    instance_due = some_due due refl

-- ---- the first due callback

module _ (start : World) (limit : ℕ) (past : History) (legal : IsLegal limit past) (names : HaveOwnNames (world_of past)) (is : IsSettled start (world_of past)) where
  abbrev at : World
  at = world_of past

  abbrev Left : Type 0
  Left = 1 ≤ turns_left start at

  by_made : (i : Instance) → Contains at.instances i → (d : DueRef) → due_of (view_of at i) ≡ Some d → Left
  by_made i h d is_due =
      let may = due_may at (legal_ordered limit past legal) i h d is_due in
      let all = i.callbacks ++ begun (callback_of (names_of at i) d) ∷ [] in
      let order = (and_parts (created all) (one_at_a_time all) (and_parts (created all && one_at_a_time all) (alternate [] all) may.order).0).0 in
      let one = instance_due start limit past legal is.tables is.accounted (ends at i) (phase_of i.callbacks) i (in_rest at.whiteboard at.instances i h) (instance_names limit past legal names i (in_rest at.whiteboard at.instances i h)) (one_made h refl) d is_due (λ other. order) in
      let all_left = total_has (λ (x : Instance). instance_left start (ends at x) at x) at.instances i h in
      omega (arith, one, all_left)

  by_board : (d : DueRef) → due_of (whiteboard_view at) ≡ Some d → Left
  by_board d is_due =
      let binds = board_due_binds at (legal_ordered limit past legal) d is_due in
      let one = instance_due start limit past legal is.tables is.accounted false Active at.whiteboard (in_first at.whiteboard at.instances) (instance_names limit past legal names at.whiteboard (in_first at.whiteboard at.instances)) (whiteboard refl refl) d is_due
      (λ other. absurd (both_ways (is_bind_or_unbind (callback_of (names_of at at.whiteboard) d)) other binds)) in
      omega (arith, one)

  by_key : (key : Key) → Contains (missing at) key → Left
  by_key key h =
      let counted = key_counted limit past legal key h in
      let c = counted.component in
      let in_start : Contains (existing start.components) c = subst (λ (cs : List Component). Contains (existing cs) c) is.tables.components counted.there in
      let consumers = consumer_counted start c key.consumer (active_start key.consumer counted.active) counted.for_all in
      let full = ap (λ b. cond b 0 (key_full start c)) (none_there c counted.number) in
      let inner = total_has (key_left start at c) (consumers_for start c) key.consumer consumers in
      let outer = total_has (λ (x : Component). total (key_left start at x) (consumers_for start x)) (existing start.components) c in_start in
      omega (arith, full, inner, outer)
    where
      active_start : (n : ℕ) → (n ≡ 0) ⊎ (is_active_bundle (world_of past) n ≡ true) → (n ≡ 0) ⊎ (is_active_bundle start n ≡ true)
      active_start n (inl none) = inl none
      active_start n (inr on) = inr (is.active n on)

      none_there : (c : Component) → c.number ≡ key.configuration → has_new start (world_of past) c key.consumer ≡ false
      none_there c number = elim (cases_Bool (has_new start (world_of past) c key.consumer)) [
        | inr off ↦ off
        | inl on ↦ (
            let i = any_found (is_new_of start c key.consumer) (world_of past).instances on in
            let parts = and_parts (nat_lt start.instances_numbered i.0.number) ((i.0.origin.configuration == c.number) && (i.0.consumer == key.consumer)) i.2 in
            let rest = and_parts (i.0.origin.configuration == c.number) (i.0.consumer == key.consumer) parts.1 in
            let off = not_true (has_instance (world_of past).instances key) (kept_was (λ (k : Key). not (has_instance (world_of past).instances k)) (wanted (world_of past)) key h).1 in
            absurd (both_ways (has_instance (world_of past).instances key) off (any_from (λ (x : Instance). (x.origin.configuration == key.configuration) && (x.consumer == key.consumer)) (world_of past).instances i.0 i.1
            (and_from (i.0.origin.configuration == key.configuration) (i.0.consumer == key.consumer) (ap (λ n. i.0.origin.configuration == n) (sym number) ∙ rest.0) rest.1))))
      ]

  pub due_left : (d : DueRef) → due_in at ≡ Some d → Left
  due_left d is_due = elim (first_is (views_of at) (missing at) d is_due) [
    | inl view ↦ elim (in_cases (whiteboard_view at) (map (view_of at) at.instances) view.0 view.1) [
      | inl board ↦ by_board d (ap due_of board ∙ view.2)
      | inr made ↦ (let i = mapped_was (view_of at) at.instances view.0 made in by_made i.0 i.1.0 d (ap due_of i.1.1 ∙ view.2))
    ]
    | inr new ↦ by_key new.0 new.1
  ]

  pub due_counts : one_if (is_some (due_in at)) ≤ turns_left start at
  due_counts = go (due_in at) refl
    where
      go : (o : Option DueRef) → due_in (world_of past) ≡ o → one_if (is_some o) ≤ turns_left start (world_of past)
      go None is_due = omega arith
      go (Some d) is_due = due_left d is_due
