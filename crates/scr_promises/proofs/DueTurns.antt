-- Where a callback is due, the turn that begins it is there.
use Rattle.std.proofs.Common.{◌≡◌, ℕ, ◌+◌, List, ap, sym, ◌∙◌, refl, subst, Bool, true, inl, inr, Option, Some, None}
use Rattle.std.specs.Prelude.{find, map, option_and_then, option_map, ◌==◌}
use Rattle.std.specs.List.{Contains}
use Rattle.std.proofs.lemmas.Bool.{both_ways, eq-eqb}
use Rattle.callback_orders.specs.declared.callback.Callback.TheVariants.{Create}
use Rattle.callback_orders.specs.declared.due.DueRef.{DueRef}
use Rattle.callback_orders.specs.declared.due.DueRef.TheVariants.{Create as CreateDue, Bind, Updated, Unbind, Activate, Modified, Deactivate, Destroy}
use Rattle.callback_orders.specs.declared.instance_view.Key.{Key}
use Rattle.callback_orders.specs.Due.{due_of}
use Rattle.component_state.proofs.Apart.{in_cases, in_first, in_rest}
use Rattle.scr_laws.proofs.DueCallbacks.{IsFor, due_is_own, first_is}
use Rattle.scr_laws.proofs.InstanceLemmas.{mapped_was}
use Rattle.scr_laws.proofs.Listed.{none_found}
use Rattle.scr_world.specs.Dues.{begin_for, begin_of, choices, due_in, next_begin}
use Rattle.scr_world.specs.Legal.{MayCome}
use Rattle.scr_world.specs.Views.{view_of, views_of, whiteboard_view}
use Rattle.scr_world.specs.Wanted.{missing}
use Rattle.scr_world.specs.Worlds.{all_instances}
use Rattle.scr_world.specs.declared.instance.Instance.{Instance}
use Rattle.scr_world.specs.declared.step.Step.{Step}
use Rattle.scr_world.specs.declared.step.Step.TheVariants.{Begin}
use Rattle.scr_world.specs.declared.world.World.{World}

-- where one passes some is found
module _ {X : Type 0} where
  some_found : (t : X → Bool) (xs : List X) (x : X) → Contains xs x → t x ≡ true → (y : X) × (find t xs ≡ Some y)
  some_found t xs x h on = go (find t xs) refl
    where
      go : (o : Option X) → find t xs ≡ o → (y : X) × (find t xs ≡ Some y)
      go None none = absurd (both_ways (t x) (none_found t xs x none h) on)
      go (Some y) found = (y, found)

module _ (w : World) where
  -- the turn of a due callback, which may come where it is the next one
  abbrev HasTurn : DueRef → Type 0
  HasTurn d = (step : Step) × (begin_of w d ≡ Some step) × (next_begin w ≡ Some step → MayCome w step)

  made : (key : Key) → HasTurn (CreateDue key)
  made key = (Begin (w.turns_begun + 1) (w.instances_numbered + 1) key.configuration key.consumer Create (choices w key.configuration), refl, λ is. is)

  told : (i : Instance) → Contains (all_instances w) i → (d : DueRef) → (n : ℕ) → n ≡ i.number → (j : Instance) × (option_map (begin_for w d) (find (λ (k : Instance). k.number == n) (all_instances w)) ≡ Some (begin_for w d j))
  told i h d n same =
      let found = some_found (λ (k : Instance). k.number == n) (all_instances w) i h (eq-eqb i.number n (sym same)) in
      (found.0, ap (option_map (begin_for w d)) found.1)

  told_by : (i : Instance) → Contains (all_instances w) i → (d : DueRef) → IsFor i.number d → HasTurn d
  told_by i h (CreateDue key) its = absurd its
  told_by i h (Bind n r s) its = let t = told i h (Bind n r s) n its in (begin_for w (Bind n r s) t.0, t.1, λ is. is)
  told_by i h (Updated n r s) its = let t = told i h (Updated n r s) n its in (begin_for w (Updated n r s) t.0, t.1, λ is. is)
  told_by i h (Unbind n r s) its = let t = told i h (Unbind n r s) n its in (begin_for w (Unbind n r s) t.0, t.1, λ is. is)
  told_by i h (Activate n) its = let t = told i h (Activate n) n its in (begin_for w (Activate n) t.0, t.1, λ is. is)
  told_by i h (Modified n) its = let t = told i h (Modified n) n its in (begin_for w (Modified n) t.0, t.1, λ is. is)
  told_by i h (Deactivate n) its = let t = told i h (Deactivate n) n its in (begin_for w (Deactivate n) t.0, t.1, λ is. is)
  told_by i h (Destroy n) its = let t = told i h (Destroy n) n its in (begin_for w (Destroy n) t.0, t.1, λ is. is)

  turn_of : (d : DueRef) → due_in w ≡ Some d → HasTurn d
  turn_of d is = elim (first_is (views_of w) (missing w) d is) [
    | inl view ↦ elim (in_cases (whiteboard_view w) (map (view_of w) w.instances) view.0 view.1) [
      | inl board ↦ told_by w.whiteboard (in_first w.whiteboard w.instances) d (due_is_own (whiteboard_view w) d (ap due_of board ∙ view.2))
      | inr other ↦ (let found = mapped_was (view_of w) w.instances view.0 other in
          told_by found.0 (in_rest w.whiteboard w.instances found.0 found.1) d (due_is_own (view_of w found.0) d (ap due_of found.2 ∙ view.2)))
    ]
    | inr new ↦ subst HasTurn (sym new.2) (made new.0)
  ]

  -- the turn that is due is there, and may come
  pub due_turn : (d : DueRef) → due_in w ≡ Some d → (step : Step) × (next_begin w ≡ Some step) × MayCome w step
  due_turn d is =
      let turn = turn_of d is in
      let next : next_begin w ≡ Some turn.0 = ap (option_and_then (begin_of w)) is ∙ turn.1 in
      (turn.0, next, turn.2 next)
