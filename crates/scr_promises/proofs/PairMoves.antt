-- Over an entry of a settling one service and one reference of an instance never get more turns to come, and fewer with each Bind, Unbind and Updated of them.
use Rattle.std.proofs.Common.{◌≡◌, ◌≤◌, ℕ, ◌+◌, List, [], ◌∷◌, ◌++◌, ap, sym, ◌∙◌, refl, subst, arith, Bool, true, false, ◌&&◌, inl, inr, ◌⊎◌, Some}
use Rattle.std.specs.Prelude.{not, ◌==◌}
use Rattle.std.specs.List.{Contains, slice_index_or}
use Rattle.std.specs.Option.{option_map_or}
use Rattle.std.specs.Str.{bytes_eq}
use Rattle.std.proofs.lemmas.Bool.{and_from, and_parts, both_ways, cases_Bool, eq-eqb, eqb-true, le-ltb, lt-ltb, ltb-true}
use Rattle.callback_orders.specs.declared.callback.Callback.{Callback}
use Rattle.callback_orders.specs.declared.callback.Callback.TheVariants.{Bind, Updated, Unbind, Activate, Modified, Deactivate, Destroy}
use Rattle.callback_orders.specs.declared.callback.Outcome.{Outcome}
use Rattle.callback_orders.specs.declared.callback.Outcome.TheVariants.{Done}
use Rattle.callback_orders.specs.declared.due.DueRef.{DueRef}
use Rattle.callback_orders.specs.declared.due.DueRef.TheVariants.{Create as CreateDue, Bind as BindDue, Updated as UpdatedDue, Unbind as UnbindDue, Activate as ActivateDue, Modified as ModifiedDue, Deactivate as DeactivateDue, Destroy as DestroyDue}
use Rattle.callback_orders.specs.declared.instance_view.HeldService.{HeldService}
use Rattle.callback_orders.specs.declared.instance_view.InstanceView.{InstanceView}
use Rattle.callback_orders.specs.declared.instance_view.Phase.{Phase}
use Rattle.callback_orders.specs.declared.instance_view.ReferenceView.{ReferenceView}
use Rattle.callback_orders.specs.declared.instance_view.Wish.{Wish}
use Rattle.callback_orders.specs.Due.{due_of}
use Rattle.callback_orders.specs.Lives.{callback_of, held_by, held_for}
use Rattle.callback_orders.specs.References.{is_desired, is_held}
use Rattle.callback_orders.specs.Sequences.{begun, ended, is_outstanding}
use Rattle.callback_orders.proofs.HeldLemmas.{text_is}
use Rattle.component_dto.specs.declared.description.Reference.{Reference}
use Rattle.component_state.specs.declared.component.Component.{Component}
use Rattle.component_state.specs.declared.origin.Origin.{Origin}
use Rattle.component_state.specs.Reasons.{choice_at}
use Rattle.component_state.proofs.Apart.{any_from, kept_from, kept_was, not_true}
use Rattle.journal_core.specs.declared.entry.Entry.{Entry}
use Rattle.prop_map.specs.Words.{has, with_places}
use Rattle.prop_map.specs.declared.reference_words.Policy.TheVariants.{Dynamic}
use Rattle.prop_map.specs.declared.reference_words.PolicyOption.TheVariants.{Reluctant}
use Rattle.reference_match.specs.declared.need.Need.{Need}
use Rattle.reference_match.specs.Needs.{need_of}
use Rattle.reference_match.specs.Targets.{is_multiple, meets, targets}
use Rattle.scr_promises.proofs.DueCallbacks.{due_ended, due_stands}
use Rattle.scr_promises.proofs.ViewedReferences.{desires_seen, has_sorted, holds_seen, name_there, viewed}
use Rattle.scr_laws.proofs.NothingShut.{taken_calls}
use Rattle.scr_laws.proofs.Listed.{mapped_was}
use Rattle.scr_promises.proofs.CallbackSteps.{ended_twice, firm, firm_begun}
use Rattle.scr_promises.proofs.Waits.{holds_desired}
use Rattle.scr_promises.specs.Settlings.{is_settling}
use Rattle.scr_promises.proofs.BestTargets.{best_is, best_target, best_was}
use Rattle.scr_promises.proofs.DueReasons.{due_says}
use Rattle.scr_promises.proofs.EntryGrowth.{components_stay, registered_then, registered_was, revision_falls, target_before, target_then}
use Rattle.scr_promises.proofs.MayBind.{IsLetGo, desired_may, is_stuck, let_go_closed, may_before, other_stuck, stuck_at, stuck_by}
use Rattle.scr_promises.proofs.PairSteps.{value_binds, value_stays, value_tells, value_unbinds}
use Rattle.scr_promises.proofs.Potentials.{bindable, may_bind, pair_left}
use Rattle.scr_promises.proofs.Tellings.{firm_held, held_bound, held_elsewhere, held_stays, held_unbound, told_elsewhere, told_now, touched, touches}
use Rattle.scr_world.specs.Dues.{names_of}
use Rattle.scr_world.specs.Instances.{with_effect_of_begin}
use Rattle.scr_world.specs.Legal.{IsLegal}
use Rattle.scr_world.specs.Lists.{world_of}
use Rattle.scr_world.specs.Steps.{History}
use Rattle.scr_world.specs.Stepping.{before_turn}
use Rattle.scr_world.specs.Views.{desired_services, desired_unless_ending, is_changed, properties_in, reference_view, references_in, targets_for, view_as}
use Rattle.told_revisions.specs.Told.{revision_told}
use Rattle.scr_world.specs.Whiteboard.{component_in}
use Rattle.scr_world.specs.Worlds.{registered_services, revision_of, sorted}
use Rattle.scr_world.specs.declared.instance.Instance.{Instance}
use Rattle.scr_world.specs.declared.step.Step.{Step}
use Rattle.scr_world.specs.declared.world.World.{World}

-- ---- how an instance comes out of an entry

abbrev pub told_of : World → ℕ → Callback → Instance → Instance
told_of w turn callback i = with_effect_of_begin (before_turn w) callback (record i { turn = turn; callbacks = i.callbacks ++ begun callback ∷ [] })

-- as it was, with the outcome of its last callback, or told of its due callback
pub data Moves (ending : Bool) (w : World) (i j : Instance) : Type 0 where
  rests : j.callbacks ≡ i.callbacks → j.told_revisions ≡ i.told_revisions → j.properties_taken_at ≡ i.properties_taken_at → Moves ending w i j
  ends_turn : (o : Outcome) → j.callbacks ≡ ended o i.callbacks → j.told_revisions ≡ i.told_revisions → j.properties_taken_at ≡ i.properties_taken_at → Moves ending w i j
  begins : (turn : ℕ) (phase : Phase) (due : DueRef) → due_of (view_as phase ending w i) ≡ Some due → j ≡ told_of w turn (callback_of (names_of w i) due) i → Moves ending w i j

-- an instance's references differ in name
abbrev pub HasOwnNames : World → Instance → Type 0
HasOwnNames w i = (a b : ℕ × Reference) → Contains (with_places 0 (references_in w i)) a → Contains (with_places 0 (references_in w i)) b → a.1.name ≡ b.1.name → a ≡ b

module _ (limit : ℕ) (entry : Entry Step) (past : History) (legal : IsLegal limit (entry ∷ past)) (settles : is_settling entry.step (world_of past) ≡ true) (closed : entry.closed ≡ []) where
  abbrev w : World
  w = world_of past

  abbrev then : World
  then = world_of (entry ∷ past)

  module _ (e d : Bool) (goes_on : e ≡ true → d ≡ true) (i j : Instance) (origin : j.origin ≡ i.origin) (r : ℕ × Reference) (s : ℕ) (low : s ≤ w.registry.numbered) where
    abbrev name : List ℕ
    name = r.1.name

    abbrev n : Need
    n = need_of (properties_in w i) r.1

    abbrev held : List ℕ
    held = held_for name i.callbacks

    abbrev these : List ℕ
    these = targets n (registered_services w)

    abbrev those : List ℕ
    those = targets n (registered_services then)

    -- ---- targets

    need_then : need_of (properties_in then j) r.1 ≡ n
    need_then =
        ap (λ (o : Origin). need_of (option_map_or (λ (c : Component). c.properties) (component_in then.components o.configuration) []) r.1) origin
        ∙ ap (λ (cs : List Component). need_of (option_map_or (λ (c : Component). c.properties) (component_in cs i.origin.configuration) []) r.1) (components_stay limit entry past legal settles closed)

    may_then : bindable then j r ≡ may_bind r.1.policy r.1.policy_option (is_multiple r.1.cardinality) (choice_at i.origin.chosen r.0) (firm name j.callbacks) those
    may_then =
        ap (λ (o : Origin). may_bind r.1.policy r.1.policy_option (is_multiple r.1.cardinality) (choice_at o.chosen r.0) (firm name j.callbacks) (targets_for then j r.1)) origin
        ∙ ap (λ (m : Need). may_bind r.1.policy r.1.policy_option (is_multiple r.1.cardinality) (choice_at i.origin.chosen r.0) (firm name j.callbacks) (targets m (registered_services then))) need_then

    to : has those s ≡ true → has these s ≡ true
    to = target_before limit entry past legal settles closed n s low

    grow : (u : ℕ) → has these u ≡ true → has those u ≡ true
    grow u = target_then limit entry past legal settles closed n u

    best : has (best_target n (registered_services then)) s ≡ true → has (best_target n (registered_services w)) s ≡ true
    best on =
        let b = best_was n (registered_services then) s on in
        let kept = kept_was (meets n) (registered_services then) b.0 b.1 in
        let old = registered_was limit entry past legal settles closed b.0 kept.0 (let same = b.2 in omega (arith, low, same)) in
        subst (λ k. has (best_target n (registered_services w)) k ≡ true) b.2
        (best_is n (registered_services w) b.0 (kept_from (meets n) (registered_services w) b.0 old kept.1) (λ x h.
        let was = kept_was (meets n) (registered_services w) x h in
        b.3 x (kept_from (meets n) (registered_services then) x (registered_then limit entry past legal settles closed x was.0) was.1)))

    -- ---- what may be bound, and what changed

    abbrev KeepsStuck : Type 0
    KeepsStuck = r.1.policy ≡ Dynamic → r.1.policy_option ≡ Reluctant → is_multiple r.1.cardinality ≡ false → is_stuck (firm name i.callbacks) these ≡ true → is_stuck (firm name j.callbacks) those ≡ true

    open_before : (e ≡ false → KeepsStuck) → (not d && has (bindable then j r) s) ≡ true → (not e && has (bindable w i r) s) ≡ true
    open_before stuck on = go e refl
      where
        both : (not d ≡ true) × (has (bindable then j r) s ≡ true)
        both = and_parts (not d) (has (bindable then j r) s) on

        go : (b : Bool) → e ≡ b → (not b && has (bindable w i r) s) ≡ true
        go true is = absurd (both_ways d (not_true d both.0) (goes_on is))
        go false is = may_before r.1.policy r.1.policy_option (is_multiple r.1.cardinality) (choice_at i.origin.chosen r.0) (firm name i.callbacks) (firm name j.callbacks) these those s to best (stuck is)
            (ap (λ (ns : List ℕ). has ns s) (sym may_then) ∙ both.1)

    changed_before : revision_told j.told_revisions name s ≡ revision_told i.told_revisions name s → is_changed then j name s ≡ true → is_changed w i name s ≡ true
    changed_before same on =
        let less = ltb-true (revision_told j.told_revisions name s) (revision_of then s) on in
        let falls = revision_falls limit entry past legal settles closed s low in
        lt-ltb (revision_told i.told_revisions name s) (revision_of w s) (omega (arith, less, falls, same))

    -- where the callback isn't of this service and this reference
    elsewhere : has (firm name j.callbacks) s ≡ has (firm name i.callbacks) s → revision_told j.told_revisions name s ≡ revision_told i.told_revisions name s → (e ≡ false → KeepsStuck) → pair_left d then j r s ≤ pair_left e w i r s
    elsewhere holds told stuck = value_stays (has (firm name i.callbacks) s) (has (firm name j.callbacks) s) (is_changed w i name s) (is_changed then j name s) (not e && has (bindable w i r) s) (not d && has (bindable then j r) s)
        holds (λ on changed. changed_before told changed) (λ off on. open_before stuck on)

    quietly : firm name j.callbacks ≡ firm name i.callbacks → j.told_revisions ≡ i.told_revisions → pair_left d then j r s ≤ pair_left e w i r s
    quietly same told = elsewhere (ap (λ (ns : List ℕ). has ns s) same) (ap (λ ts. revision_told ts name s) told)
        (λ off dynamic reluctant unary stuck. (let u = stuck_at (firm name i.callbacks) these stuck in stuck_by (firm name j.callbacks) those u.0 (grow u.0 u.1.0) (ap (λ (ns : List ℕ). has ns u.0) same ∙ u.1.1)))

    -- ---- a callback begins

    module _ (turn : ℕ) (phase : Phase) (due : DueRef) (is_due : due_of (view_as phase e w i) ≡ Some due) (is : j ≡ told_of w turn (callback_of (names_of w i) due) i) where
      abbrev v : InstanceView
      v = view_as phase e w i

      abbrev callback : Callback
      callback = callback_of (names_of w i) due

      none_out : is_outstanding i.callbacks ≡ false
      none_out = due_ended v due is_due

      firm_was : firm name i.callbacks ≡ held
      firm_was = firm_held name i.callbacks none_out

      firm_then : firm name j.callbacks ≡ held_by name callback (Some Done) held
      firm_then =
          ap (λ (x : Instance). firm name x.callbacks) is
          ∙ ap (firm name) (taken_calls (before_turn w) callback (record i { turn = turn; callbacks = i.callbacks ++ begun callback ∷ [] }))
          ∙ firm_begun name i.callbacks callback

      told_then : touches callback name s ≡ false → revision_told j.told_revisions name s ≡ revision_told i.told_revisions name s
      told_then off = ap (λ (x : Instance). revision_told x.told_revisions name s) is ∙ told_elsewhere (before_turn w) callback (record i { turn = turn; callbacks = i.callbacks ++ begun callback ∷ [] }) name s off

      holds_then : touches callback name s ≡ false → has (firm name j.callbacks) s ≡ has (firm name i.callbacks) s
      holds_then off = ap (λ (ns : List ℕ). has ns s) firm_then ∙ held_elsewhere callback name held s off ∙ ap (λ (ns : List ℕ). has ns s) (sym firm_was)

      -- a held target that isn't unbound is held still
      stuck_with : (u : ℕ) → has these u ≡ true → has held u ≡ true → ((q : List ℕ) (t : ℕ) → callback ≡ Unbind q t → touches callback name u ≡ false) → is_stuck (firm name j.callbacks) those ≡ true
      stuck_with u there on other = stuck_by (firm name j.callbacks) those u (grow u there) (ap (λ (ns : List ℕ). has ns u) firm_then ∙ held_stays callback name held u on other)

      no_unbind : ((q : List ℕ) (t : ℕ) → callback ≡ Unbind q t → ⊥) → KeepsStuck
      no_unbind never dynamic reluctant unary stuck =
          let u = stuck_at (firm name i.callbacks) these stuck in
          stuck_with u.0 u.1.0 (ap (λ (ns : List ℕ). has ns u.0) (sym firm_was) ∙ u.1.1) (λ q t clash. absurd (never q t clash))

      other_callback : touches callback name s ≡ false → ((q : List ℕ) (t : ℕ) → callback ≡ Unbind q t → ⊥) → pair_left d then j r s ≤ pair_left e w i r s
      other_callback off never = elsewhere (holds_then off) (told_then off) (λ going. no_unbind never)

      module _ (own : HasOwnNames w i) (in_r : Contains (with_places 0 (references_in w i)) r) where
        abbrev name_at : ℕ → List ℕ
        name_at k = slice_index_or (names_of w i) k []

        -- the reference of a view at a place, where it has the name
        same_reference : (k : ℕ) (q : Reference) → Contains (with_places 0 (references_in w i)) (k, q) → name_at k ≡ name → (k, q) ≡ r
        same_reference k q h named = own (k, q) r h in_r (sym (name_there (references_in w i) k q h) ∙ named)

        seen : (k : ℕ) (shown : ReferenceView) → Contains (with_places 0 v.references) (k, shown) → name_at k ≡ name → shown ≡ reference_view e w i r
        seen k shown h named =
            let found = viewed (reference_view e w i) 0 (references_in w i) k shown h in
            found.2 ∙ ap (reference_view e w i) (same_reference k found.0 found.1 named)

        held_shown : (k t : ℕ) (shown : ReferenceView) → Contains (with_places 0 v.references) (k, shown) → name_at k ≡ name → t ≡ s → is_held shown t ≡ has held s
        held_shown k t shown h named service = ap (λ (x : ReferenceView). is_held x t) (seen k shown h named) ∙ holds_seen w i e r t ∙ ap (has held) service

        told_revision : (q : List ℕ) (t : ℕ) → (callback ≡ Bind q t) ⊎ (callback ≡ Updated q t) → touches callback name s ≡ true → is_changed then j name s ≡ false
        told_revision q t which on =
            let falls = revision_falls limit entry past legal settles closed s low in
            let told : revision_told j.told_revisions name s ≡ revision_of w s = ap (λ (x : Instance). revision_told x.told_revisions name s) is ∙ go which in
            le-ltb (revision_told j.told_revisions name s) (revision_of then s) (omega (arith, falls, told))
          where
            old : Instance
            old = record i { turn = turn; callbacks = i.callbacks ++ begun callback ∷ [] }

            go : (callback ≡ Bind q t) ⊎ (callback ≡ Updated q t) → revision_told (with_effect_of_begin (before_turn (world_of past)) callback old).told_revisions name s ≡ revision_of (world_of past) s
            go (inl bind) =
                let touching_it = ap (λ (c : Callback). touches c name s) (sym bind) ∙ on in
                ap (λ (c : Callback). revision_told (with_effect_of_begin (before_turn (world_of past)) c old).told_revisions name s) bind
                ∙ told_now q name t s (revision_of (world_of past) t) i.told_revisions touching_it ∙ ap (revision_of (world_of past)) (touched q name t s touching_it).1
            go (inr updated) =
                let touching_it = ap (λ (c : Callback). touches c name s) (sym updated) ∙ on in
                ap (λ (c : Callback). revision_told (with_effect_of_begin (before_turn (world_of past)) c old).told_revisions name s) updated
                ∙ told_now q name t s (revision_of (world_of past) t) i.told_revisions touching_it ∙ ap (revision_of (world_of past)) (touched q name t s touching_it).1

        abbrev Less : Type 0
        Less = pair_left d then j r s + 1 ≤ pair_left e w i r s

        -- a Bind of it
        binds_less : (m k t : ℕ) → due ≡ BindDue m k t → touches callback name s ≡ true → Less
        binds_less m k t is_bind on =
            let call : callback ≡ Bind (name_at k) t = ap (callback_of (names_of w i)) is_bind in
            let touching_it = ap (λ (c : Callback). touches c name s) (sym call) ∙ on in
            let which = touched (name_at k) name t s touching_it in
            let b = (due_stands v (BindDue m k t) (is_due ∙ ap Some is_bind)).1 in
            let unheld : has held s ≡ false = sym (held_shown k t b.reference b.there which.0 which.1) ∙ b.unheld in
            let wished = any_from (λ (x : Wish). x.service == t) b.reference.desired b.wish b.wished (eq-eqb b.wish.service t b.service) in
            let shown = seen k b.reference b.there which.0 in
            let desired : has (desired_services w i r.0 r.1) s ≡ true =
            ap (λ (x : Bool). has (desired_unless_ending x w i r.0 r.1) s) (sym b.going_on) ∙ sym (desires_seen w i e r s) ∙ ap (is_desired (reference_view e w i r)) (sym which.1) ∙ ap (λ (x : ReferenceView). is_desired x t) (sym shown) ∙ wished in
            let choice = choice_at i.origin.chosen r.0 in
            let may = desired_may r.1.policy r.1.policy_option (is_multiple r.1.cardinality) choice (sorted w choice) held these s (λ on_it. sym (has_sorted w choice s) ∙ on_it) unheld desired in
            let free : has (bindable w i r) s ≡ true = ap (λ (hs : List ℕ). has (may_bind r.1.policy r.1.policy_option (is_multiple r.1.cardinality) choice hs these) s) firm_was ∙ may in
            value_binds (has (firm name i.callbacks) s) (has (firm name j.callbacks) s) (is_changed w i name s) (is_changed then j name s) (not e && has (bindable w i r) s) (not d && has (bindable then j r) s)
            (ap (λ (ns : List ℕ). has ns s) firm_was ∙ unheld)
            (ap (λ (ns : List ℕ). has ns s) firm_then ∙ ap (λ (c : Callback). has (held_by name c (Some Done) held) s) call ∙ held_bound (name_at k) name t s held touching_it)
            (and_from (not e) (has (bindable w i r) s) (ap not b.going_on) free)
            (told_revision (name_at k) t (inl call) on)

        -- an Updated of it
        tells_less : (m k t : ℕ) → due ≡ UpdatedDue m k t → touches callback name s ≡ true → Less
        tells_less m k t is_tell on =
            let call : callback ≡ Updated (name_at k) t = ap (callback_of (names_of w i)) is_tell in
            let touching_it = ap (λ (c : Callback). touches c name s) (sym call) ∙ on in
            let which = touched (name_at k) name t s touching_it in
            let says = due_says v (UpdatedDue m k t) (is_due ∙ ap Some is_tell) in
            let shown = seen k says.0 says.1 which.0 in
            let one = mapped_was (λ u. record { service = u; changed = is_changed w i name u }) (sorted w held) says.2.one (subst (λ (x : ReferenceView). Contains x.held says.2.one) shown says.2.there) in
            let number : one.0 ≡ s = ap (λ (h : HeldService). h.service) one.1.1 ∙ says.2.service ∙ which.1 in
            let changed : is_changed w i name s ≡ true = ap (is_changed w i name) (sym number) ∙ ap (λ (h : HeldService). h.changed) one.1.1 ∙ says.2.changed in
            let is_it = any_from (λ (h : HeldService). h.service == t) says.0.held says.2.one says.2.there (eq-eqb says.2.one.service t says.2.service) in
            let on_hold : has held s ≡ true = sym (held_shown k t says.0 says.1 which.0 which.1) ∙ is_it in
            value_tells (has (firm name i.callbacks) s) (has (firm name j.callbacks) s) (is_changed w i name s) (is_changed then j name s) (not e && has (bindable w i r) s) (not d && has (bindable then j r) s)
            (ap (λ (ns : List ℕ). has ns s) firm_was ∙ on_hold)
            (ap (λ (ns : List ℕ). has ns s) firm_then ∙ ap (λ (c : Callback). has (held_by name c (Some Done) held) s) call ∙ on_hold)
            changed
            (told_revision (name_at k) t (inr call) on)

        -- ---- an Unbind

        let_go : (m k t : ℕ) → due ≡ UnbindDue m k t → e ≡ false → name_at k ≡ name → IsLetGo r.1.policy r.1.policy_option (is_multiple r.1.cardinality) (sorted w (choice_at i.origin.chosen r.0)) held these t
        let_go m k t is_unbind off named = elim (due_says v (UnbindDue m k t) (is_due ∙ ap Some is_unbind)) [
          | inl ending ↦ absurd (both_ways e off ending)
          | inr at ↦ (
              let shown = seen k at.0 at.1 named in
              let desires : (u : ℕ) → is_desired at.0 u ≡ has (desired_services w i r.0 r.1) u = λ u. ap (λ (x : ReferenceView). is_desired x u) shown ∙ desires_seen w i e r u ∙ ap (λ (x : Bool). has (desired_unless_ending x w i r.0 r.1) u) off in
              record {
                other = sym (desires t) ∙ at.2.other;
                holds = λ u on. sym (holds_seen w i e r u) ∙ ap (λ (x : ReferenceView). is_held x u) (sym shown) ∙ holds_desired at.0 at.2.holds u (desires u ∙ on);
              })
        ]

        unbinds_less : (m k t : ℕ) → due ≡ UnbindDue m k t → touches callback name s ≡ true → Less
        unbinds_less m k t is_unbind on =
            let call : callback ≡ Unbind (name_at k) t = ap (callback_of (names_of w i)) is_unbind in
            let touching_it = ap (λ (c : Callback). touches c name s) (sym call) ∙ on in
            let which = touched (name_at k) name t s touching_it in
            let u = (due_stands v (UnbindDue m k t) (is_due ∙ ap Some is_unbind)).1 in
            let on_hold : has held s ≡ true = sym (held_shown k t u.reference u.there which.0 which.1) ∙ u.held in
            let gone : has (firm name j.callbacks) s ≡ false = ap (λ (ns : List ℕ). has ns s) firm_then ∙ ap (λ (c : Callback). has (held_by name c (Some Done) held) s) call ∙ held_unbound (name_at k) name t s held touching_it in
            value_unbinds (has (firm name i.callbacks) s) (has (firm name j.callbacks) s) (is_changed w i name s) (is_changed then j name s) (not e && has (bindable w i r) s) (not d && has (bindable then j r) s)
            (ap (λ (ns : List ℕ). has ns s) firm_was ∙ on_hold) gone (closed_then which.0 which.1 call on_hold e refl)
          where
            closed_then : name_at k ≡ name → t ≡ s → callback ≡ Unbind (name_at k) t → has held s ≡ true → (b : Bool) → e ≡ b → (not d && has (bindable then j r) s) ≡ false
            closed_then named service call on_hold true ending = ap (λ (x : Bool). not x && has (bindable then j r) s) (goes_on ending)
            closed_then named service call on_hold false off =
                let choice = choice_at i.origin.chosen r.0 in
                let going = subst (λ x. IsLetGo r.1.policy r.1.policy_option (is_multiple r.1.cardinality) (sorted w choice) held these x) service (let_go m k t is_unbind off named) in
                let none = let_go_closed r.1.policy r.1.policy_option (is_multiple r.1.cardinality) choice (sorted w choice) held (firm name j.callbacks) these those s going (λ on_it. has_sorted w choice s ∙ on_it) on_hold to best grow
                (λ u here apart. ap (λ (ns : List ℕ). has ns u) firm_then ∙ held_stays callback name held u here (λ q x clash. ap (λ (c : Callback). touches c name u) call ∙ off_there (name_at k) t u (ap (λ x. u == x) service ∙ apart))) in
                ap (λ (b : Bool). not d && b) (ap (λ (ns : List ℕ). has ns s) may_then ∙ none) ∙ both_false (not d)
              where
                both_false : (b : Bool) → (b && false) ≡ false
                both_false true = refl
                both_false false = refl

                off_there : (q : List ℕ) (x u : ℕ) → (u == x) ≡ false → (bytes_eq q name && (x == u)) ≡ false
                off_there q x u apart = elim (cases_Bool (x == u)) [
                  | inl same ↦ absurd (both_ways (u == x) apart (eq-eqb u x (sym (eqb-true x u same))))
                  | inr other ↦ ap (λ (b : Bool). bytes_eq q name && b) other ∙ both_false (bytes_eq q name)
                ]

        unbind_elsewhere : (m k t : ℕ) → due ≡ UnbindDue m k t → touches callback name s ≡ false → pair_left d then j r s ≤ pair_left e w i r s
        unbind_elsewhere m k t is_unbind off = elsewhere (holds_then off) (told_then off) (λ going. by_name going (bytes_eq (name_at k) name) refl)
          where
            call : callback ≡ Unbind (name_at k) t
            call = ap (callback_of (names_of w i)) is_unbind

            both_false : (b : Bool) → (b && false) ≡ false
            both_false true = refl
            both_false false = refl

            by_name : e ≡ false → (b : Bool) → bytes_eq (name_at k) name ≡ b → KeepsStuck
            by_name going false named dynamic reluctant unary stuck =
                let u = stuck_at (firm name i.callbacks) these stuck in
                stuck_with u.0 u.1.0 (ap (λ (ns : List ℕ). has ns u.0) (sym firm_was) ∙ u.1.1) (λ q x clash. ap (λ (c : Callback). touches c name u.0) call ∙ ap (λ (b : Bool). b && (t == u.0)) named)
            by_name going true named dynamic reluctant unary stuck =
                let choice = sorted w (choice_at i.origin.chosen r.0) in
                let is_let = let_go m k t is_unbind going (text_is (name_at k) name named) in
                let as_reluctant = subst (λ x. IsLetGo Dynamic Reluctant x choice held these t) unary (subst (λ x. IsLetGo Dynamic x (is_multiple r.1.cardinality) choice held these t) reluctant
                (subst (λ x. IsLetGo x r.1.policy_option (is_multiple r.1.cardinality) choice held these t) dynamic is_let)) in
                let u = other_stuck choice held these t as_reluctant (ap (λ (ns : List ℕ). is_stuck ns these) (sym firm_was) ∙ stuck) in
                stuck_with u.0 u.1.0 u.1.1.0 (λ q x clash. ap (λ (c : Callback). touches c name u.0) call ∙ ap (λ (b : Bool). bytes_eq (name_at k) name && b) (turned t u.0 u.1.1.1) ∙ both_false (bytes_eq (name_at k) name))
              where
                turned : (x u : ℕ) → (u == x) ≡ false → (x == u) ≡ false
                turned x u apart = elim (cases_Bool (x == u)) [
                  | inl same ↦ absurd (both_ways (u == x) apart (eq-eqb u x (sym (eqb-true x u same))))
                  | inr other ↦ other
                ]

        -- ---- any callback

        no_more : Less → pair_left d then j r s ≤ pair_left e w i r s
        no_more less = omega (arith, less)

        by_due : (x : DueRef) → due ≡ x → pair_left d then j r s ≤ pair_left e w i r s
        by_due (CreateDue key) is_it = absurd (due_stands v (CreateDue key) (is_due ∙ ap Some is_it))
        by_due (BindDue m k t) is_it = elim (cases_Bool (touches callback name s)) [
          | inl on ↦ no_more (binds_less m k t is_it on)
          | inr off ↦ other_callback off (λ q x clash. (let wrong : Bind (name_at k) t ≡ Unbind q x = sym (ap (callback_of (names_of w i)) is_it) ∙ clash in cc))
        ]
        by_due (UpdatedDue m k t) is_it = elim (cases_Bool (touches callback name s)) [
          | inl on ↦ no_more (tells_less m k t is_it on)
          | inr off ↦ other_callback off (λ q x clash. (let wrong : Updated (name_at k) t ≡ Unbind q x = sym (ap (callback_of (names_of w i)) is_it) ∙ clash in cc))
        ]
        by_due (UnbindDue m k t) is_it = elim (cases_Bool (touches callback name s)) [
          | inl on ↦ no_more (unbinds_less m k t is_it on)
          | inr off ↦ unbind_elsewhere m k t is_it off
        ]
        by_due (ActivateDue m) is_it = (let call : callback ≡ Activate = ap (callback_of (names_of w i)) is_it in other_callback (ap (λ (c : Callback). touches c name s) call) (λ q x clash. (let wrong : Activate ≡ Unbind q x = sym call ∙ clash in cc)))
        by_due (ModifiedDue m) is_it = (let call : callback ≡ Modified = ap (callback_of (names_of w i)) is_it in other_callback (ap (λ (c : Callback). touches c name s) call) (λ q x clash. (let wrong : Modified ≡ Unbind q x = sym call ∙ clash in cc)))
        by_due (DeactivateDue m) is_it = (let call : callback ≡ Deactivate = ap (callback_of (names_of w i)) is_it in other_callback (ap (λ (c : Callback). touches c name s) call) (λ q x clash. (let wrong : Deactivate ≡ Unbind q x = sym call ∙ clash in cc)))
        by_due (DestroyDue m) is_it = (let call : callback ≡ Destroy = ap (callback_of (names_of w i)) is_it in other_callback (ap (λ (c : Callback). touches c name s) call) (λ q x clash. (let wrong : Destroy ≡ Unbind q x = sym call ∙ clash in cc)))

        pub begins_low : pair_left d then j r s ≤ pair_left e w i r s
        begins_low = by_due due refl

        pub binds_fewer : (m k t : ℕ) → due ≡ BindDue m k t → touches callback name s ≡ true → pair_left d then j r s + 1 ≤ pair_left e w i r s
        binds_fewer = binds_less

        pub tells_fewer : (m k t : ℕ) → due ≡ UpdatedDue m k t → touches callback name s ≡ true → pair_left d then j r s + 1 ≤ pair_left e w i r s
        tells_fewer = tells_less

        pub unbinds_fewer : (m k t : ℕ) → due ≡ UnbindDue m k t → touches callback name s ≡ true → pair_left d then j r s + 1 ≤ pair_left e w i r s
        unbinds_fewer = unbinds_less

    -- ---- in any way

    pub pair_low : Moves e w i j → HasOwnNames w i → Contains (with_places 0 (references_in w i)) r → pair_left d then j r s ≤ pair_left e w i r s
    pair_low (rests calls told taken) own in_r = quietly (ap (firm name) calls) told
    pair_low (ends_turn o calls told taken) own in_r = quietly (ap (firm name) calls ∙ ap (held_for name) (ended_twice Done o i.callbacks)) told
    pair_low (begins turn phase due is_due is) own in_r = begins_low turn phase due is_due is own in_r
