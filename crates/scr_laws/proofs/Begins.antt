-- The turn that begins next: it makes an instance, or it tells an instance or that of the whiteboard what may come next.
use Rattle.std.proofs.Common.{◌≡◌, ℕ, ◌+◌, List, ap, sym, ◌∙◌, refl, subst, true, false, inl, inr, ◌⊎◌, Option, Some, None}
use Rattle.std.specs.Prelude.{map, find, ◌==◌, option_map, option_and_then}
use Rattle.std.specs.List.{Contains}
use Rattle.std.proofs.lemmas.Bool.{eq-eqb, eqb-true}
use Rattle.callback_orders.specs.declared.callback.Callback.{Callback}
use Rattle.callback_orders.specs.declared.callback.Callback.TheVariants.{Create}
use Rattle.callback_orders.specs.declared.due.DueRef.{DueRef}
use Rattle.callback_orders.specs.declared.due.DueRef.TheVariants.{Create as CreateDue, Bind, Updated, Unbind, Activate, Modified, Deactivate, Destroy}
use Rattle.callback_orders.specs.declared.instance_view.Key.{Key}
use Rattle.callback_orders.specs.Due.{due_of}
use Rattle.callback_orders.specs.Grammar.{is_create, is_deactivate}
use Rattle.callback_orders.specs.Lives.{MayComeNext, callback_of}
use Rattle.callback_orders.specs.Sequences.{is_bind_or_unbind}
use Rattle.component_state.specs.declared.origin.Choice.{Choice}
use Rattle.component_state.proofs.Apart.{in_cases, in_first, in_rest, one_of}
use Rattle.scr_laws.proofs.Listed.{found_is}
use Rattle.scr_laws.proofs.InstanceLemmas.{mapped_was}
use Rattle.scr_world.specs.Dues.{begin_for, begin_of, choices, due_in, names_of, next_begin}
use Rattle.scr_world.specs.Views.{view_of, views_of, whiteboard_view}
use Rattle.scr_world.specs.Wanted.{missing}
use Rattle.scr_world.specs.Worlds.{all_instances}
use Rattle.scr_world.specs.declared.instance.Instance.{Instance}
use Rattle.scr_world.specs.declared.step.Step.{Step}
use Rattle.scr_world.specs.declared.step.Step.TheVariants.{Begin}
use Rattle.scr_world.specs.declared.world.World.{World}
use Rattle.scr_laws.proofs.BoardCallbacks.{since_made}
use Rattle.scr_laws.proofs.DueCallbacks.{IsFor, due_is_own, first_is}
use Rattle.scr_laws.proofs.DueDrained.{due_drained}
use Rattle.scr_laws.proofs.Ordered.{AreOrdered}
use Rattle.scr_laws.proofs.Viewing.{board_due_binds, board_due_may, due_may}

-- a turn makes the next instance
pub record Makes (w : World) (instance : ℕ) (callback : Callback) : Type 0 where
  pub creates : callback ≡ Create
  pub next : instance ≡ w.instances_numbered + 1

-- a turn tells an instance of a callback that may come next
pub record Tells (w : World) (instance : ℕ) (callback : Callback) : Type 0 where
  pub one : Instance
  pub there : Contains w.instances one
  pub number : instance ≡ one.number
  pub no_create : is_create callback ≡ false
  pub may : MayComeNext (names_of w one) one.callbacks callback
  pub drains : is_deactivate callback ≡ true → one.drained ≡ true

-- a turn tells that of the whiteboard
pub record TellsBoard (w : World) (instance : ℕ) (callback : Callback) : Type 0 where
  pub number : instance ≡ w.whiteboard.number
  pub no_create : is_create callback ≡ false
  pub binds : is_bind_or_unbind callback ≡ true
  pub may : MayComeNext (names_of w w.whiteboard) (since_made w.whiteboard.callbacks) callback

module _ (w : World) (ordered : AreOrdered w) where
  module _ (turn instance configuration consumer : ℕ) (callback : Callback) (chosen : List Choice) where
    abbrev step : Step
    step = Begin turn instance configuration consumer callback chosen

    -- the instance whose callback is due is the one that is told
    tells_it : (i : Instance) → Contains (all_instances w) i → (n : ℕ) → n ≡ i.number → (d : DueRef) → option_map (begin_for w d) (find (λ (j : Instance). j.number == n) (all_instances w)) ≡ Some step
        → (instance ≡ i.number) × (callback ≡ callback_of (names_of w i) d)
    tells_it i h n same d is =
        let found : find (λ (j : Instance). j.number == n) (all_instances w) ≡ Some i =
        found_is (λ (j : Instance). j.number == n) (all_instances w) i h (eq-eqb i.number n (sym same))
        (λ y k on. one_of (λ (j : Instance). j.number) (all_instances w) ordered.apart y i k h (eqb-true y.number n on ∙ same)) in
        let here : Some (begin_for w d i) ≡ Some step = sym (ap (option_map (begin_for w d)) found) ∙ is in
        let first : instance ≡ i.number = cc in
        let second : callback ≡ callback_of (names_of w i) d = cc in
        (first, second)

    told_by : (i : Instance) → Contains (all_instances w) i → (d : DueRef) → IsFor i.number d → begin_of w d ≡ Some step
        → (instance ≡ i.number) × (callback ≡ callback_of (names_of w i) d) × (is_create (callback_of (names_of w i) d) ≡ false)
    told_by i h (CreateDue key) its is = absurd its
    told_by i h (Bind n r s) its is = let t = tells_it i h n its (Bind n r s) is in (t.0, t.1, refl)
    told_by i h (Updated n r s) its is = let t = tells_it i h n its (Updated n r s) is in (t.0, t.1, refl)
    told_by i h (Unbind n r s) its is = let t = tells_it i h n its (Unbind n r s) is in (t.0, t.1, refl)
    told_by i h (Activate n) its is = let t = tells_it i h n its (Activate n) is in (t.0, t.1, refl)
    told_by i h (Modified n) its is = let t = tells_it i h n its (Modified n) is in (t.0, t.1, refl)
    told_by i h (Deactivate n) its is = let t = tells_it i h n its (Deactivate n) is in (t.0, t.1, refl)
    told_by i h (Destroy n) its is = let t = tells_it i h n its (Destroy n) is in (t.0, t.1, refl)

    drains_by : (i : Instance) (d : DueRef) → due_of (view_of w i) ≡ Some d → is_deactivate (callback_of (names_of w i) d) ≡ true → i.drained ≡ true
    drains_by i (Deactivate n) is e = due_drained (view_of w i) n is
    drains_by i (CreateDue key) is e = cc
    drains_by i (Bind n r s) is e = cc
    drains_by i (Updated n r s) is e = cc
    drains_by i (Unbind n r s) is e = cc
    drains_by i (Activate n) is e = cc
    drains_by i (Modified n) is e = cc
    drains_by i (Destroy n) is e = cc

    tells : (i : Instance) → Contains w.instances i → (d : DueRef) → due_of (view_of w i) ≡ Some d → begin_of w d ≡ Some step → Tells w instance callback
    tells i h d is begins =
        let t = told_by i (in_rest w.whiteboard w.instances i h) d (due_is_own (view_of w i) d is) begins in
        record {
          one = i;
          there = h;
          number = t.0;
          no_create = ap is_create t.1 ∙ t.2;
          may = subst (λ (c : Callback). MayComeNext (names_of w i) i.callbacks c) (sym t.1) (due_may w ordered i h d is);
          drains = λ e. drains_by i d is (sym (ap is_deactivate t.1) ∙ e);
        }

    tells_board : (d : DueRef) → due_of (whiteboard_view w) ≡ Some d → begin_of w d ≡ Some step → TellsBoard w instance callback
    tells_board d is begins =
        let t = told_by w.whiteboard (in_first w.whiteboard w.instances) d (due_is_own (whiteboard_view w) d is) begins in
        record {
          number = t.0;
          no_create = ap is_create t.1 ∙ t.2;
          binds = ap is_bind_or_unbind t.1 ∙ board_due_binds w ordered d is;
          may = subst (λ (c : Callback). MayComeNext (names_of w w.whiteboard) (since_made w.whiteboard.callbacks) c) (sym t.1) (board_due_may w ordered d is);
        }

    makes : (key : Key) → begin_of w (CreateDue key) ≡ Some step → Makes w instance callback
    makes key begins =
        let here : Some (Begin (w.turns_begun + 1) (w.instances_numbered + 1) key.configuration key.consumer Create (choices w key.configuration)) ≡ Some step = begins in
        let creates : callback ≡ Create = cc in
        let next : instance ≡ w.instances_numbered + 1 = cc in
        record { creates = creates; next = next }

    by_due : (d : DueRef) → due_in w ≡ Some d → begin_of w d ≡ Some step → Makes w instance callback ⊎ (Tells w instance callback ⊎ TellsBoard w instance callback)
    by_due d is begins = elim (first_is (views_of w) (missing w) d is) [
      | inl view ↦ elim (in_cases (whiteboard_view w) (map (view_of w) w.instances) view.0 view.1) [
        | inl board ↦ inr (inr (tells_board d (ap due_of board ∙ view.2) begins))
        | inr other ↦ (
            let found = mapped_was (view_of w) w.instances view.0 other in
            inr (inl (tells found.0 found.1 d (ap due_of found.2 ∙ view.2) begins)))
      ]
      | inr new ↦ inl (makes new.0 (sym (ap (begin_of w) new.2) ∙ begins))
    ]

    pub begin_is : next_begin w ≡ Some step → Makes w instance callback ⊎ (Tells w instance callback ⊎ TellsBoard w instance callback)
    begin_is may = go (due_in w) refl may
      where
        go : (o : Option DueRef) → due_in w ≡ o → option_and_then (begin_of w) o ≡ Some step → Makes w instance callback ⊎ (Tells w instance callback ⊎ TellsBoard w instance callback)
        go None is begins = cc
        go (Some d) is begins = by_due d is begins
