-- While an instance is active it holds what it chose for each static reference, so none is bound or unbound.
use Rattle.std.proofs.Common.{◌≡◌, ℕ, List, [], ◌∷◌, ◌++◌, ap, sym, ◌∙◌, refl, subst, Bool, true, false, ◌&&◌, ◌||◌, inl, inr, ◌⊎◌}
use Rattle.std.specs.Prelude.{map, not, ◌==◌}
use Rattle.std.specs.List.{Contains, list_all, list_any, slice_index_or}
use Rattle.std.specs.Option.{option_map_or}
use Rattle.std.specs.Str.{bytes_eq}
use Rattle.std.proofs.lemmas.Bool.{and_from, and_parts, both_ways, cases_Bool, eq-eqb, eqb-true}
use Rattle.callback_orders.specs.declared.callback.Callback.{Callback}
use Rattle.callback_orders.specs.declared.callback.Callback.TheVariants.{Create as CreateCalled}
use Rattle.callback_orders.specs.declared.callback.Outcome.{Outcome}
use Rattle.callback_orders.specs.declared.due.DueRef.{DueRef}
use Rattle.callback_orders.specs.declared.due.DueRef.TheVariants.{Create as CreateDue, Bind as BindDue, Updated as UpdatedDue, Unbind as UnbindDue, Activate as ActivateDue, Modified as ModifiedDue, Deactivate as DeactivateDue, Destroy as DestroyDue}
use Rattle.callback_orders.specs.declared.instance_view.HeldService.{HeldService}
use Rattle.callback_orders.specs.declared.instance_view.InstanceView.{InstanceView}
use Rattle.callback_orders.specs.declared.instance_view.Phase.TheVariants.{Making}
use Rattle.callback_orders.specs.declared.instance_view.ReferenceView.{ReferenceView}
use Rattle.callback_orders.specs.declared.instance_view.Wish.{Wish}
use Rattle.callback_orders.specs.declared.word.Called.{Called}
use Rattle.callback_orders.specs.Grammar.{is_activate}
use Rattle.callback_orders.specs.Lives.{callback_of, held_for, phase_of}
use Rattle.callback_orders.specs.References.{desires_all, differs, holds_all, is_desired, is_held}
use Rattle.callback_orders.specs.Sequences.{begun, ended, is_outstanding}
use Rattle.callback_orders.proofs.HeldLemmas.{text_is, text_same}
use Rattle.component_dto.specs.declared.description.Reference.{Reference}
use Rattle.component_state.specs.declared.origin.Choice.{Choice}
use Rattle.component_state.specs.declared.origin.Origin.{Origin}
use Rattle.component_state.specs.Reasons.{choice_at}
use Rattle.component_state.proofs.Apart.{any_found, any_from, either_way, in_cases, in_none, not_true}
use Rattle.journal_core.specs.declared.entry.Entry.{Entry}
use Rattle.prop_map.specs.declared.reference_words.Policy.{Policy}
use Rattle.prop_map.specs.declared.reference_words.Policy.TheVariants.{Static, Dynamic}
use Rattle.prop_map.specs.declared.reference_words.PolicyOption.{PolicyOption}
use Rattle.prop_map.specs.Words.{has, with_places}
use Rattle.reference_match.specs.Targets.{desired_by, is_multiple, is_static}
use Rattle.scr_promises.specs.Statics.{KeepsStaticServices, is_dynamic_name, rebinds, told_while_active}
use Rattle.scr_promises.proofs.WhileActive.{active_ended, held_begun, held_ended, last_activate, last_begun, last_told, none_begun, none_outstanding, same_held, told_ended}
use Rattle.scr_promises.proofs.Comings.{IsNext, IsSeen, WasBefore, closes, gains, keeps, not_board, one_made, whiteboard}
use Rattle.scr_promises.proofs.DueCallbacks.{IsActivateOf, IsBindOf, IsUnbindOf, StandsFor, due_stands}
use Rattle.scr_promises.proofs.EndingLaws.{board_number, comes, none_at_first}
use Rattle.scr_promises.proofs.InstanceComponents.{references_kept}
use Rattle.scr_promises.proofs.ViewedReferences.{desires_seen, has_sorted, holds_seen, name_there, placed_was, viewed, viewed_at}
use Rattle.scr_laws.proofs.NothingShut.{phase_stays}
use Rattle.scr_laws.proofs.TurnCallbacks.{are_told_apart}
use Rattle.scr_laws.specs.Askeds.{HasOneOfEach}
use Rattle.scr_laws.proofs.InstanceLemmas.{IsMade}
use Rattle.scr_world.specs.Dues.{names_of}
use Rattle.scr_world.specs.Instances.{is_active_phase, last_is}
use Rattle.scr_world.specs.Legal.{IsLegal}
use Rattle.scr_world.specs.Lists.{world_of}
use Rattle.scr_world.specs.Steps.{History}
use Rattle.scr_world.specs.Views.{desired_unless_ending, ends, reference_view, references_in, targets_for, view_of}
use Rattle.scr_world.specs.Worlds.{sorted}
use Rattle.scr_world.specs.declared.instance.Instance.{Instance}
use Rattle.scr_world.specs.declared.step.Step.{Step}
use Rattle.scr_world.specs.declared.world.World.{World}

-- ---- what is kept

-- what is held under a name is what was chosen for each reference of this name
abbrev IsChosen : List Reference → List Choice → List ℕ → List Called → Type 0
IsChosen refs chosen name calls = (r : ℕ × Reference) → Contains (with_places 0 refs) r → r.1.name ≡ name → (s : ℕ) → has (held_for name calls) s ≡ has (choice_at chosen r.0) s

abbrev awaits_activate : List Called → Bool
awaits_activate calls = is_outstanding calls && last_is is_activate calls

record AreKept (refs : List Reference) (chosen : List Choice) (name : List ℕ) (calls : List Called) : Type 0 where
  none : list_any (rebinds name) (told_while_active calls) ≡ false
  active : is_active_phase (phase_of calls) ≡ true → IsChosen refs chosen name calls
  activating : awaits_activate calls ≡ true → IsChosen refs chosen name calls

abbrev HaveKept : World → Type 0
HaveKept w = (i : Instance) → Contains w.instances i → (name : List ℕ) → is_dynamic_name (references_in w i) name ≡ false → AreKept (references_in w i) i.origin.chosen name i.callbacks

-- ---- a static reference desires its choice

static_desires : (policy : Policy) (option : PolicyOption) (multiple : Bool) (choice held services : List ℕ) → is_static policy ≡ true → desired_by policy option multiple choice held services ≡ choice
static_desires Static option multiple choice held services static = refl
static_desires Dynamic option multiple choice held services static = cc

desires_choice : (w : World) (i : Instance) (e : Bool) (r : ℕ × Reference) (s : ℕ) → is_static r.1.policy ≡ true → e ≡ false → has (desired_unless_ending e w i r.0 r.1) s ≡ has (choice_at i.origin.chosen r.0) s
desires_choice w i e r s static goes_on =
    ap (λ b. has (desired_unless_ending b w i r.0 r.1) s) goes_on
    ∙ ap (λ ns. has ns s) (static_desires r.1.policy r.1.policy_option (is_multiple r.1.cardinality) (sorted w (choice_at i.origin.chosen r.0)) (held_for r.1.name i.callbacks) (targets_for w i r.1) static)
    ∙ has_sorted w (choice_at i.origin.chosen r.0) s

not_dynamic : (a b : Bool) → a ≡ true → (a && not b) ≡ false → b ≡ true
not_dynamic true true on off = refl
not_dynamic true false on off = cc
not_dynamic false b on off = cc

each_not : {X : Type 0} (p : X → Bool) (xs : List X) (x : X) → list_any p xs ≡ false → Contains xs x → p x ≡ false
each_not p xs x none here = elim (cases_Bool (p x)) [
  | inl on ↦ absurd (both_ways (list_any p xs) none (any_from p xs x here on))
  | inr off ↦ off
]

-- a reference of a name that no dynamic one has is static
static_of : (refs : List Reference) (name : List ℕ) → is_dynamic_name refs name ≡ false → (q : Reference) → Contains refs q → q.name ≡ name → is_static q.policy ≡ true
static_of refs name off q h same =
    not_dynamic (bytes_eq q.name name) (is_static q.policy) (text_same q.name name same) (each_not (λ (r : Reference). bytes_eq r.name name && not (is_static r.policy)) refs q off h)

all_found : {X : Type 0} (p : X → Bool) (xs : List X) → list_all p xs ≡ true → (x : X) → Contains xs x → p x ≡ true
all_found p [] all x h = absurd (in_none x h)
all_found p (y ∷ ys) all x h =
    let both = and_parts (p y) (list_all p ys) all in
    elim (in_cases y ys x h) [
      | inl same ↦ ap p (sym same) ∙ both.0
      | inr later ↦ all_found p ys both.1 x later
    ]

same_from : (r : ReferenceView) → differs r ≡ false → (holds_all r ≡ true) × (desires_all r ≡ true)
same_from r off = go (holds_all r) (desires_all r) off
  where
    go : (a b : Bool) → (not a || not b) ≡ false → (a ≡ true) × (b ≡ true)
    go true true e = (refl, refl)
    go true false e = cc
    go false b e = cc

module _ (w : World) (apart_board : (i : Instance) → Contains w.instances i → i ≡ w.whiteboard → ⊥) (j : Instance) (there : Contains w.instances j) (name : List ℕ) (off : is_dynamic_name (references_in w j) name ≡ false)
    (before : AreKept (references_in w j) j.origin.chosen name j.callbacks) where
  abbrev refs : List Reference
  refs = references_in w j

  seen_by : (v : InstanceView) → IsSeen w j v → v ≡ view_of w j
  seen_by v (one_made h is) = is
  seen_by v (whiteboard same is) = absurd (apart_board j there same)

  abbrev e : Bool
  e = ends w j

  -- the reference of a view at a place
  abbrev AtPlace : ℕ → ReferenceView → Type 0
  AtPlace k view = (q : Reference) × Contains (with_places 0 refs) (k, q) × (view ≡ reference_view e w j (k, q)) × (slice_index_or (map (λ (x : Reference). x.name) refs) k [] ≡ q.name)

  at_place : (k : ℕ) (view : ReferenceView) → Contains (with_places 0 (view_of w j).references) (k, view) → AtPlace k view
  at_place k view h = let found = viewed (reference_view e w j) 0 refs k view h in (found.0, found.1, found.2, name_there refs k found.0 found.1)

  module _ (k : ℕ) (view : ReferenceView) (at : AtPlace k view) (named : at.0.name ≡ name) (goes_on : e ≡ false) (s : ℕ) where
    static : is_static at.0.policy ≡ true
    static = static_of refs name off at.0 (placed_was 0 refs k at.0 at.1) named

    holds_so : is_held view s ≡ has (held_for name j.callbacks) s
    holds_so = ap (λ (r : ReferenceView). is_held r s) at.2 ∙ holds_seen w j e (k, at.0) s ∙ ap (λ n. has (held_for n j.callbacks) s) named

    desires_so : is_desired view s ≡ has (choice_at j.origin.chosen k) s
    desires_so = ap (λ (r : ReferenceView). is_desired r s) at.2 ∙ desires_seen w j e (k, at.0) s ∙ desires_choice w j e (k, at.0) s static goes_on

  module _ (v : InstanceView) (is_view : v ≡ view_of w j) where
    placed : (k : ℕ) (view : ReferenceView) → Contains (with_places 0 v.references) (k, view) → AtPlace k view
    placed k view h = at_place k view (subst (λ (x : InstanceView). Contains (with_places 0 x.references) (k, view)) is_view h)

    going : v.ending ≡ false → e ≡ false
    going g = sym (ap (λ (x : InstanceView). x.ending) is_view) ∙ g

    module _ (active : is_active_phase (phase_of j.callbacks) ≡ true) where
      bound_wrong : (k s : ℕ) → IsBindOf v k s → slice_index_or (map (λ (x : Reference). x.name) refs) k [] ≡ name → ⊥
      bound_wrong k s b named =
          let at = placed k b.reference b.there in
          let its = sym at.3 ∙ named in
          let goes_on = going b.going_on in
          let wanted = any_from (λ (x : Wish). x.service == s) b.reference.desired b.wish b.wished (eq-eqb b.wish.service s b.service) in
          let chose = sym (desires_so k b.reference at its goes_on s) ∙ wanted in
          both_ways (is_held b.reference s) b.unheld (holds_so k b.reference at its goes_on s ∙ before.active active (k, at.0) at.1 its s ∙ chose)

      unbound_wrong : (k s : ℕ) → IsUnbindOf v k s → slice_index_or (map (λ (x : Reference). x.name) refs) k [] ≡ name → ⊥
      unbound_wrong k s u named = elim u.why [
        | inl ending ↦ both_ways (is_active_phase (phase_of j.callbacks)) (ap (λ (x : InstanceView). is_active_phase x.phase) (sym is_view) ∙ ending.1) active
        | inr undesired ↦ (
            let at = placed k u.reference u.there in
            let its = sym at.3 ∙ named in
            let goes_on = going undesired.0 in
            let held = sym (holds_so k u.reference at its goes_on s) ∙ u.held in
            both_ways (is_desired u.reference s) undesired.1 (desires_so k u.reference at its goes_on s ∙ sym (before.active active (k, at.0) at.1 its s) ∙ held))
      ]

      other_name : (k : ℕ) → (slice_index_or (map (λ (x : Reference). x.name) refs) k [] ≡ name → ⊥) → bytes_eq (slice_index_or (map (λ (x : Reference). x.name) refs) k []) name ≡ false
      other_name k wrong = elim (cases_Bool (bytes_eq (slice_index_or (map (λ (x : Reference). x.name) refs) k []) name)) [
        | inl same ↦ absurd (wrong (text_is (slice_index_or (map (λ (x : Reference). x.name) refs) k []) name same))
        | inr other ↦ other
      ]

      -- what is due binds and unbinds nothing under this name
      no_rebinding : (d : DueRef) → StandsFor v d → rebinds name (callback_of (names_of w j) d) ≡ false
      no_rebinding (CreateDue key) stands = refl
      no_rebinding (BindDue n k s) stands = other_name k (bound_wrong k s stands.1)
      no_rebinding (UpdatedDue n k s) stands = refl
      no_rebinding (UnbindDue n k s) stands = other_name k (unbound_wrong k s stands.1)
      no_rebinding (ActivateDue n) stands = refl
      no_rebinding (ModifiedDue n) stands = refl
      no_rebinding (DeactivateDue n) stands = refl
      no_rebinding (DestroyDue n) stands = refl

    -- where Activate is due, what is held was chosen
    held_at_activate : IsActivateOf v → IsChosen refs j.origin.chosen name j.callbacks
    held_at_activate a r in_r named s =
        let view = reference_view e w j r in
        let here = subst (λ (x : InstanceView). Contains (with_places 0 x.references) (r.0, view)) (sym is_view) (viewed_at (reference_view e w j) 0 refs r.0 r.1 in_r) in
        let at : AtPlace r.0 view = (r.1, in_r, refl, name_there refs r.0 r.1 in_r) in
        let goes_on = going a.going_on in
        let both = same_from view (a.same r.0 view here) in
        either_way (has (held_for name j.callbacks) s) (has (choice_at j.origin.chosen r.0) s)
        (λ held. let h = any_found (λ (x : HeldService). x.service == s) view.held (holds_so r.0 view at named goes_on s ∙ held) in
        sym (desires_so r.0 view at named goes_on s) ∙ ap (is_desired view) (sym (eqb-true h.0.service s h.2)) ∙ all_found (λ (x : HeldService). is_desired view x.service) view.held both.1 h.0 h.1)
        (λ chose. let x = any_found (λ (y : Wish). y.service == s) view.desired (desires_so r.0 view at named goes_on s ∙ chose) in
        sym (holds_so r.0 view at named goes_on s) ∙ ap (is_held view) (sym (eqb-true x.0.service s x.2)) ∙ all_found (λ (y : Wish). is_held view y.service) view.desired both.0 x.0 x.1)

    module _ (d : DueRef) (stands : StandsFor v d) where
      abbrev callback : Callback
      callback = callback_of (names_of w j) d

      abbrev longer : List Called
      longer = j.callbacks ++ begun callback ∷ []

      held_longer : rebinds name callback ≡ false → (s : ℕ) → has (held_for name longer) s ≡ has (held_for name j.callbacks) s
      held_longer other s = ap (λ l. has l s) (held_begun name j.callbacks [] (begun callback) ∙ same_held name callback (held_for name j.callbacks) other)

      activates : (c : DueRef) → StandsFor v c → is_activate (callback_of (names_of w j) c) ≡ true → (rebinds name (callback_of (names_of w j) c) ≡ false) × IsActivateOf v
      activates (CreateDue key) st is = absurd st
      activates (BindDue n k s) st is = cc
      activates (UpdatedDue n k s) st is = cc
      activates (UnbindDue n k s) st is = cc
      activates (ActivateDue n) st is = (refl, st.1)
      activates (ModifiedDue n) st is = cc
      activates (DeactivateDue n) st is = cc
      activates (DestroyDue n) st is = cc

      active_before : is_active_phase (phase_of longer) ≡ true → is_active_phase (phase_of j.callbacks) ≡ true
      active_before on = sym (ap is_active_phase (phase_stays callback Making j.callbacks)) ∙ on

      gained : AreKept refs j.origin.chosen name longer
      gained = record {
        none = none_begun (rebinds name) callback Making j.callbacks before.none (λ on. no_rebinding on d stands);
        active = λ on r in_r named s. held_longer (no_rebinding (active_before on) d stands) s ∙ before.active (active_before on) r in_r named s;
        activating = λ on r in_r named s.
            let last = (and_parts (is_outstanding longer) (last_is is_activate longer) on).1 in
            let a = activates d stands (ap (λ o. option_map_or is_activate o false) (sym (last_begun j.callbacks callback)) ∙ last) in
            held_longer a.0 s ∙ held_at_activate a.1 r in_r named s;
      }

  closed : (o : Outcome) → is_outstanding j.callbacks ≡ true → AreKept refs j.origin.chosen name (ended o j.callbacks)
  closed o running = record {
    none = ap (list_any (rebinds name)) (told_ended o Making j.callbacks) ∙ before.none;
    active = λ on r in_r named s. elim (active_ended o Making j.callbacks running on) [
      | inl was ↦ ap (λ l. has l s) (held_ended o name j.callbacks [] (last_told (rebinds name) Making j.callbacks running was before.none)) ∙ before.active was r in_r named s
      | inr last ↦ ap (λ l. has l s) (held_ended o name j.callbacks [] (last_activate name j.callbacks last)) ∙ before.activating (and_from (is_outstanding j.callbacks) (last_is is_activate j.callbacks) running last) r in_r named s
    ];
    activating = λ on. absurd (both_ways (is_outstanding (ended o j.callbacks)) (none_outstanding o j.callbacks) (and_parts (is_outstanding (ended o j.callbacks)) (last_is is_activate (ended o j.callbacks)) on).0);
  }

  kept_next : (step : Step) (calls : List Called) → IsNext w step j calls → AreKept refs j.origin.chosen name calls
  kept_next step calls (keeps is) = subst (AreKept refs j.origin.chosen name) (sym is) before
  kept_next step calls (gains v seen due is_due begins is) = subst (AreKept refs j.origin.chosen name) (sym is) (gained v (seen_by v seen) due (due_stands v due is_due))
  kept_next step calls (closes turn outcome is_end its is) = subst (AreKept refs j.origin.chosen name) (sym is) (closed outcome (and_parts (j.turn == turn) (is_outstanding j.callbacks) its).1)

-- ---- over a journal

first_kept : (refs : List Reference) (chosen : List Choice) (name : List ℕ) → AreKept refs chosen name (begun CreateCalled ∷ [])
first_kept refs chosen name = record { none = refl; active = λ on. cc; activating = λ on. cc }

module _ (limit : ℕ) (entry : Entry Step) (past : History) (legal : IsLegal limit (entry ∷ past)) (have : HaveKept (world_of past)) where
  kept_if : (i : Instance) → WasBefore (world_of past) entry.step i ⊎ IsMade entry.step (world_of past) i → (name : List ℕ) → is_dynamic_name (references_in (world_of (entry ∷ past)) i) name ≡ false
      → AreKept (references_in (world_of (entry ∷ past)) i) i.origin.chosen name i.callbacks
  kept_if i (inl was) name off =
      let same = references_kept limit entry past legal was.was i was.there was.same.origin in
      let other = ap (λ rs. is_dynamic_name rs name) (sym same) ∙ off in
      subst (λ (rs : List Reference). AreKept rs i.origin.chosen name i.callbacks) (sym same)
      (subst (λ (o : Origin). AreKept (references_in (world_of past) was.was) o.chosen name i.callbacks) (sym was.same.origin)
      (kept_next (world_of past) (not_board (world_of past) (are_told_apart limit past legal.1).numbers (board_number past)) was.was was.there name other (have was.was was.there name other) entry.step i.callbacks was.calls))
  kept_if i (inr made) name off = subst (λ (x : Instance). AreKept (references_in (world_of (entry ∷ past)) x) x.origin.chosen name x.callbacks) made.4.1.1 (first_kept _ _ name)

  kept_then : HaveKept (world_of (entry ∷ past))
  kept_then i h name off = kept_if i (comes limit entry past legal i h) name off

have_kept : (limit : ℕ) (past : History) → IsLegal limit past → HaveKept (world_of past)
have_kept limit [] legal = λ i h. absurd (none_at_first i h)
have_kept limit (entry ∷ past) legal = kept_then limit entry past legal (have_kept limit past legal.1)

-- where references differ in name, no dynamic one has that of a static one
no_dynamic : (refs : List Reference) → HasOneOfEach (λ (r : Reference). r.name) refs → (r : Reference) → Contains refs r → is_static r.policy ≡ true → is_dynamic_name refs r.name ≡ false
no_dynamic refs one r h static = elim (cases_Bool (is_dynamic_name refs r.name)) [
  | inr off ↦ off
  | inl on ↦ (
      let q = any_found (λ (x : Reference). bytes_eq x.name r.name && not (is_static x.policy)) refs on in
      let both = and_parts (bytes_eq q.0.name r.name) (not (is_static q.0.policy)) q.2 in
      let same = one q.0 r q.1 h (text_is q.0.name r.name both.0) in
      absurd (both_ways (is_static q.0.policy) (not_true (is_static q.0.policy) both.1) (ap (λ (x : Reference). is_static x.policy) same ∙ static)))
]

pub keeps_static_services : (limit : ℕ) (past : History) → IsLegal limit past → KeepsStaticServices (world_of past)
keeps_static_services limit past legal = record {
  by_name = λ i h name off. (have_kept limit past legal i h name off).none;
  by_reference = λ i h one r in_r static. (have_kept limit past legal i h r.name (no_dynamic (references_in (world_of past) i) one r in_r static)).none;
}
