-- What is due for an instance in the making, by its references one after the other.
use Rattle.std.proofs.Common.{◌≡◌, ◌<◌, ◌∙◌, add-one, ap, sym, refl, arith, cond, ℕ, zero, suc, ◌+◌, List, [], ◌∷◌, Bool, true, false, Option, Some, None, drop, drop-cons, get_or, length, map, if◌then◌else◌}
use Rattle.std.specs.Prelude.{find, is_some, option_map}
use Rattle.std.specs.List.{Contains, enumerate_from}
use Rattle.std.specs.Option.{option_map_or, option_or}
use Rattle.std.specs.Str.{bytes_eq}
use Rattle.std.proofs.lemmas.Bool.{and_parts}
use Rattle.std.proofs.lemmas.Slice.Eq.{bytes_eq-Decides}
use Rattle.callback_orders.specs.declared.due.DueRef.{DueRef}
use Rattle.callback_orders.specs.declared.due.DueRef.TheVariants.{Activate, Bind, Unbind}
use Rattle.callback_orders.specs.declared.instance_view.HeldService.{HeldService}
use Rattle.callback_orders.specs.declared.instance_view.Phase.{Phase}
use Rattle.callback_orders.specs.declared.instance_view.Phase.TheVariants.{Making, Active, Left}
use Rattle.callback_orders.specs.declared.instance_view.ReferenceView.{ReferenceView}
use Rattle.callback_orders.specs.declared.instance_view.Wish.{Wish}
use Rattle.callback_orders.specs.Due.{bind_or_unbind, due_in_making}
use Rattle.callback_orders.specs.Lives.{held_for}
use Rattle.callback_orders.specs.References.{differs, to_bind, to_unbind}
use Rattle.callback_orders.specs.Sequences.{is_outstanding}
use Rattle.component_dto.specs.declared.description.Reference.{Reference}
use Rattle.component_state.proofs.Apart.{in_first, in_rest}
use Rattle.component_state.specs.Reasons.{choice_at}
use Rattle.prop_map.specs.Words.{with_places}
use Rattle.reference_match.specs.Needs.{need_of}
use Rattle.reference_match.specs.Targets.{is_static}
use Rattle.scr_world.specs.declared.instance.Instance.{Instance}
use Rattle.scr_world.specs.declared.world.World.{World}
use Rattle.scr_world.specs.Views.{bundle_of_instance, desired_unless_ending, is_changed, is_ready, properties_in, reference_view, references_in, targets_for}
use Rattle.scr_world.specs.Worlds.{sorted}
use Rattle.scr_dues.specs.FirstDues.{due_as}
use Rattle.scr_dues.specs.LeanViews.{is_making, lean_reference}
use Rattle.scr_dues.specs.Makings.{due_by_view, due_for_one, holds_choice, is_activate}
use Rattle.scr_dues.proofs.LeanLemmas.{differs_same, either_same}
use Rattle.scr_dues.proofs.LeanViews.{reference_is}
use Rattle.scr_dues.proofs.Meeting.{static_desires}
use Rattle.scr_dues.proofs.Settled.{binds_nothing, differs_not, settled}
use Rattle.scr_dues.proofs.Staying.{static_is}

pub making_is : (phase : Phase) → is_making phase ≡ true → phase ≡ Making
making_is Making e = refl
making_is Active e = cc
making_is Left e = cc

-- ---- a reference that holds what was chosen for it

module _ (w : World) (i : Instance) (r : ℕ × Reference) (holds : holds_choice i r ≡ true) where
  parts : (is_static r.1.policy ≡ true) × (bytes_eq (held_for r.1.name i.callbacks) (choice_at i.origin.chosen r.0) ≡ true)
  parts = and_parts (is_static r.1.policy) (bytes_eq (held_for r.1.name i.callbacks) (choice_at i.origin.chosen r.0)) holds

  held : held_for r.1.name i.callbacks ≡ choice_at i.origin.chosen r.0
  held = (bytes_eq-Decides (held_for r.1.name i.callbacks) (choice_at i.origin.chosen r.0)).0 parts.1

  desired : desired_unless_ending false w i r.0 r.1 ≡ sorted w (choice_at i.origin.chosen r.0)
  desired = static_desires (need_of (properties_in w i) r.1) (sorted w (choice_at i.origin.chosen r.0)) (held_for r.1.name i.callbacks) (targets_for w i r.1) (static_is r.1.policy parts.0)

  whole : reference_view false w i r ≡ settled (is_some r.1.updated) (sorted w (choice_at i.origin.chosen r.0)) (is_ready w (bundle_of_instance w i)) (is_changed w i r.1.name)
  whole = (λ j. record {
    told = is_some r.1.updated;
    desired = map (λ s. let made : Wish = record { service = s; ready = is_ready w (bundle_of_instance w i) s } in made) (desired j);
    held = map (λ s. let made : HeldService = record { service = s; changed = is_changed w i r.1.name s } in made) (sorted w (held j));
  })

  pub not_differing : differs (reference_view false w i r) ≡ false
  not_differing = ap differs whole ∙ differs_not (is_some r.1.updated) (sorted w (choice_at i.origin.chosen r.0)) (is_ready w (bundle_of_instance w i)) (is_changed w i r.1.name)

  pub none_to_bind : (ending : Bool) → to_bind (reference_view ending w i r) ≡ None
  none_to_bind true = refl
  none_to_bind false = ap to_bind whole ∙ binds_nothing (is_some r.1.updated) (sorted w (choice_at i.origin.chosen r.0)) (is_ready w (bundle_of_instance w i)) (is_changed w i r.1.name)

-- ---- one reference alone

never : (n place : ℕ) (v : ReferenceView) → is_activate (bind_or_unbind n (place, v)) ≡ false
never n place v = go (to_bind v) (to_unbind v)
  where
    go : (b u : Option ℕ) → is_activate (option_or (option_map (λ s. Bind n place s) b) (option_map (λ s. Unbind n place s) u)) ≡ false
    go (Some s) u = refl
    go None (Some s) = refl
    go None None = refl

module _ (w : World) (i : Instance) where
  pub lean_one : (r : ℕ × Reference) → due_by_view i.number (r.0, lean_reference false w i r) ≡ due_for_one w i r
  unfolding due_for_one
  lean_one r =
      ap (λ (v : ReferenceView). due_by_view i.number (r.0, v)) (reference_is w i false r)
      ∙ (λ j. if differs_same (reference_view false w i r) j then either_same i.number r.0 (reference_view false w i r) j else Some (Activate i.number))

  pub held_one : (r : ℕ × Reference) → holds_choice i r ≡ true → Some (Activate i.number) ≡ due_for_one w i r
  unfolding due_for_one
  held_one r holds = sym (ap (λ b. cond b (bind_or_unbind i.number (r.0, reference_view false w i r)) (Some (Activate i.number))) (not_differing w i r holds))

  -- ---- all from a place on

  abbrev pub due_behind : ℕ → List Reference → Option DueRef
  due_behind place rs = option_map_or (bind_or_unbind i.number) (find (λ (q : ℕ × ReferenceView). differs q.1) (enumerate_from place (map (reference_view false w i) (with_places place rs)))) (Some (Activate i.number))

  step_by : (place : ℕ) (v : ReferenceView) (rest : Option (ℕ × ReferenceView)) (d : Bool)
      → option_map_or (bind_or_unbind i.number) (cond d (Some (place, v)) rest) (Some (Activate i.number))
      ≡ (if is_activate (if d then bind_or_unbind i.number (place, v) else Some (Activate i.number)) then option_map_or (bind_or_unbind i.number) rest (Some (Activate i.number)) else (if d then bind_or_unbind i.number (place, v) else Some (Activate i.number)))
  step_by place v rest false = refl
  step_by place v rest true = sym (ap (λ b. cond b (option_map_or (bind_or_unbind i.number) rest (Some (Activate i.number))) (bind_or_unbind i.number (place, v))) (never i.number place v))

  -- the first one is passed over where it doesn't differ
  pub due_step : (place : ℕ) (r : Reference) (rs : List Reference) → due_behind place (r ∷ rs) ≡ (if is_activate (due_for_one w i (place, r)) then due_behind (place + 1) rs else due_for_one w i (place, r))
  unfolding due_for_one
  due_step place r rs = step_by place (reference_view false w i (place, r)) _ (differs (reference_view false w i (place, r)))

  -- the same as one goes on over a list
  due_more : (place at : ℕ) (rs : List Reference) (r : Reference) → at < length rs → r ≡ get_or rs at r
      → due_behind (place + at) (drop at rs) ≡ (if is_activate (due_for_one w i (place + at, r)) then due_behind (place + (at + 1)) (drop (at + 1) rs) else due_for_one w i (place + at, r))
  due_more place at rs r low is =
      let next : suc at ≡ at + 1 = sym (add-one at) in
      let there : place + at + 1 ≡ place + (at + 1) = omega arith in
      ap (due_behind (place + at)) (drop-cons rs at r low ∙ (λ j. sym is j ∷ drop (next j) rs))
      ∙ due_step (place + at) r (drop (at + 1) rs)
      ∙ ap (λ n. if is_activate (due_for_one w i (place + at, r)) then due_behind n (drop (at + 1) rs) else due_for_one w i (place + at, r)) there

  module _ (place at : ℕ) (rs : List Reference) (r : Reference) (low : at < length rs) (is : r ≡ get_or rs at r) (due : Option DueRef) (one : due ≡ due_for_one w i (place + at, r)) where
    known : (b : Bool) → is_activate due ≡ b → due_behind (place + at) (drop at rs) ≡ (if b then due_behind (place + (at + 1)) (drop (at + 1) rs) else due)
    known b e = due_more place at rs r low is ∙ (λ j. if is_activate (sym one j) then due_behind (place + (at + 1)) (drop (at + 1) rs) else sym one j) ∙ ap (λ x. if x then due_behind (place + (at + 1)) (drop (at + 1) rs) else due) e

    pub due_stops : is_activate due ≡ false → due ≡ due_behind (place + at) (drop at rs)
    due_stops e = sym (known false e)

    pub due_goes_on : is_activate due ≡ true → due_behind (place + at) (drop at rs) ≡ due_behind (place + (at + 1)) (drop (at + 1) rs)
    due_goes_on e = known true e

  -- those are passed over that hold what was chosen for them
  pub due_passes : (count place : ℕ) (rs : List Reference) → ((r : ℕ × Reference) → Contains (with_places place rs) r → r.0 < place + count → holds_choice i r ≡ true) → due_behind place rs ≡ due_behind (place + count) (drop count rs)
  due_passes zero place rs each = let same : place ≡ place + 0 = omega arith in ap (λ n. due_behind n rs) same
  due_passes (suc count) place [] each = refl
  due_passes (suc count) place (r ∷ rs) each =
      let first : holds_choice i (place, r) ≡ true = each (place, r) (in_first (place, r) (with_places (place + 1) rs)) (omega arith) in
      let same : place + 1 + count ≡ place + suc count = omega arith in
      due_step place r rs
      ∙ ap (λ (o : Option DueRef). if is_activate o then due_behind (place + 1) rs else o) (sym (held_one (place, r) first))
      ∙ due_passes count (place + 1) rs (λ q h low. each q (in_rest (place, r) (with_places (place + 1) rs) q h) (omega (arith, low)))
      ∙ ap (λ n. due_behind n (drop count rs)) same

  -- what is due is what they want, where no callback is outstanding
  pub all_due : is_outstanding i.callbacks ≡ false → due_in_making i.number (map (reference_view false w i) (with_places 0 (references_in w i))) ≡ due_as Making false w i
  unfolding due_as
  all_due off = sym (ap (λ b. cond b None (due_in_making i.number (map (reference_view false w i) (with_places 0 (references_in w i))))) off)
