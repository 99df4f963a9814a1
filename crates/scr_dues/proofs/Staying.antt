-- Of an instance that goes on the same is due without the references for which nothing is due.
use Rattle.std.proofs.Common.{◌≡◌, ◌∙◌, ap, sym, subst, refl, ℕ, List, Bool, true, false, ◌&&◌, Option, Some, None, map}
use Rattle.std.specs.Prelude.{not, is_none, is_some, if◌then◌else◌}
use Rattle.std.specs.Str.{bytes_eq}
use Rattle.std.proofs.lemmas.Bool.{and_parts}
use Rattle.std.proofs.lemmas.Slice.Eq.{bytes_eq-Decides}
use Rattle.callback_orders.specs.declared.due.DueRef.{DueRef}
use Rattle.callback_orders.specs.declared.instance_view.HeldService.{HeldService}
use Rattle.callback_orders.specs.declared.instance_view.InstanceView.{InstanceView}
use Rattle.callback_orders.specs.declared.instance_view.Phase.{Phase}
use Rattle.callback_orders.specs.declared.instance_view.Phase.TheVariants.{Making, Active, Left}
use Rattle.callback_orders.specs.declared.instance_view.Wish.{Wish}
use Rattle.callback_orders.specs.Due.{due_in_phase, due_of}
use Rattle.callback_orders.specs.Lives.{held_for}
use Rattle.component_dto.specs.declared.description.Reference.{Reference}
use Rattle.component_state.specs.Reasons.{choice_at}
use Rattle.prop_map.specs.Words.{has, with_places}
use Rattle.prop_map.specs.declared.reference_words.Policy.{Policy}
use Rattle.prop_map.specs.declared.reference_words.Policy.TheVariants.{Static, Dynamic}
use Rattle.reference_match.specs.Needs.{need_of}
use Rattle.reference_match.specs.Targets.{is_static}
use Rattle.scr_world.specs.declared.instance.Instance.{Instance}
use Rattle.scr_world.specs.declared.world.World.{World}
use Rattle.scr_world.specs.Views.{bundle_of_instance, desired_unless_ending, is_changed, is_ready, properties_in, references_in, targets_for}
use Rattle.scr_world.specs.Worlds.{sorted}
use Rattle.scr_dues.specs.LeanViews.{best_held, due_view, is_settled, lean_reference, lean_view_as, references_looked_at, staying_reference, wants_nothing}
use Rattle.scr_dues.proofs.Meeting.{static_desires}
use Rattle.scr_dues.proofs.Settled.{WantsNothing, nothing, settled}
use Rattle.scr_dues.proofs.Wants.{WantsAs, in_making, while_active}

-- ---- what was chosen is looked at where the reference is static

pub static_is : (p : Policy) → is_static p ≡ true → p ≡ Static
static_is Static e = refl
static_is Dynamic e = cc

where_static_by : (p : Policy) (f : List ℕ → Bool) (a b : List ℕ) → (p ≡ Static → a ≡ b) → (is_static p && f a) ≡ (is_static p && f b)
where_static_by Static f a b same = ap f (same refl)
where_static_by Dynamic f a b same = refl

pub where_static : (p : Policy) (held choice a b : List ℕ) (untold : Bool) → held ≡ a → (p ≡ Static → choice ≡ b)
    → (is_static p && (untold && bytes_eq held choice)) ≡ (is_static p && (untold && bytes_eq a b))
where_static p held choice a b untold is same =
    ap (λ l. is_static p && (untold && bytes_eq l choice)) is ∙ where_static_by p (λ l. untold && bytes_eq a l) choice b same

none_is : {X : Type 0} (o : Option X) → is_none o ≡ true → is_some o ≡ false
none_is None e = refl
none_is (Some x) e = cc

-- ---- one reference

module _ (w : World) (i : Instance) where
  module _ (r : ℕ × Reference) where
    abbrev is_ready_anew : ℕ → Bool
    is_ready_anew s = not (has (best_held w i r.1.name) s) && is_ready w (bundle_of_instance w i) s

    abbrev is_told : ℕ → Bool
    is_told s = is_some r.1.updated && is_changed w i r.1.name s

    chosen_is : r.1.policy ≡ Static → desired_unless_ending false w i r.0 r.1 ≡ sorted w (choice_at i.origin.chosen r.0)
    chosen_is e = static_desires (need_of (properties_in w i) r.1) (sorted w (choice_at i.origin.chosen r.0)) (held_for r.1.name i.callbacks) (targets_for w i r.1) e

    settled_view : is_settled i r ≡ true → lean_reference false w i r ≡ settled false (best_held w i r.1.name) is_ready_anew is_told
    settled_view e =
        let parts : (is_static r.1.policy ≡ true) × ((is_none r.1.updated && bytes_eq (held_for r.1.name i.callbacks) (choice_at i.origin.chosen r.0)) ≡ true)
        = and_parts (is_static r.1.policy) (is_none r.1.updated && bytes_eq (held_for r.1.name i.callbacks) (choice_at i.origin.chosen r.0)) e in
        let others : (is_none r.1.updated ≡ true) × (bytes_eq (held_for r.1.name i.callbacks) (choice_at i.origin.chosen r.0) ≡ true)
        = and_parts (is_none r.1.updated) (bytes_eq (held_for r.1.name i.callbacks) (choice_at i.origin.chosen r.0)) parts.1 in
        let untold : is_some r.1.updated ≡ false = none_is r.1.updated others.0 in
        let same : held_for r.1.name i.callbacks ≡ choice_at i.origin.chosen r.0 = (bytes_eq-Decides (held_for r.1.name i.callbacks) (choice_at i.origin.chosen r.0)).0 others.1 in
        let desired : desired_unless_ending false w i r.0 r.1 ≡ best_held w i r.1.name = chosen_is (static_is r.1.policy parts.0) ∙ ap (sorted w) (sym same) in
        (λ j. record {
          told = untold j;
          desired = map (λ s. let made : Wish = record { service = s; ready = is_ready_anew s } in made) (desired j);
          held = map (λ s. let made : HeldService = record { service = s; changed = is_told s } in made) (best_held w i r.1.name);
        })

    settled_wants : is_settled i r ≡ true → WantsAs wants_nothing (lean_reference false w i r)
    settled_wants e =
        let none : WantsNothing (lean_reference false w i r) = subst WantsNothing (sym (settled_view e)) (nothing false (best_held w i r.1.name) is_ready_anew is_told refl) in
        record { bind = sym none.bind; unbind = sym none.unbind; tell = sym none.tell; same = sym none.same }

    wants_by : (b : Bool) → is_settled i r ≡ b → WantsAs (if b then wants_nothing else lean_reference false w i r) (lean_reference false w i r)
    wants_by true e = settled_wants e
    wants_by false e = record { bind = refl; unbind = refl; tell = refl; same = refl }

    staying_wants : WantsAs (staying_reference w i r) (lean_reference false w i r)
    unfolding staying_reference
    staying_wants = wants_by (is_settled i r) refl

  -- ---- all of them

  phase_by : (phase : Phase) (v : InstanceView) (rs : List (ℕ × Reference))
      → due_in_phase (record v { references = map (staying_reference w i) rs }) phase ≡ due_in_phase (record v { references = map (lean_reference false w i) rs }) phase
  phase_by Making v rs = in_making (staying_reference w i) (lean_reference false w i) staying_wants v rs
  phase_by Active v rs = while_active (staying_reference w i) (lean_reference false w i) staying_wants v rs
  phase_by Left v rs = refl

  goes_on_by : (phase : Phase) (ending : Bool) (v : InstanceView) (rs : List (ℕ × Reference))
      → due_of (record v { phase = phase; ending = ending; references = references_looked_at ending w i rs }) ≡ due_of (record v { phase = phase; ending = ending; references = map (lean_reference ending w i) rs })
  unfolding references_looked_at
  goes_on_by phase true v rs = refl
  goes_on_by phase false v rs = ap (λ (o : Option DueRef). if v.outstanding then None else o) (phase_by phase (record v { phase = phase; ending = false }) rs)

  pub looked_at : (phase : Phase) (ending : Bool) → due_of (due_view phase ending w i) ≡ due_of (lean_view_as phase ending w i)
  unfolding due_view lean_view_as
  looked_at phase ending = goes_on_by phase ending (lean_view_as phase ending w i) (with_places 0 (references_in w i))
