-- Where no turn begins next nothing is due.
use Rattle.std.proofs.Common.{◌≡◌, ℕ, ◌+◌, List, ap, sym, ◌∙◌, refl, Bool, true, false, inl, inr, Option, Some, None}
use Rattle.std.specs.Prelude.{find, map, option_map, option_and_then, ◌==◌}
use Rattle.std.specs.List.{Contains}
use Rattle.std.proofs.lemmas.Bool.{eq-eqb}
use Rattle.callback_orders.specs.declared.callback.Callback.TheVariants.{Create}
use Rattle.callback_orders.specs.declared.due.DueRef.{DueRef}
use Rattle.callback_orders.specs.declared.due.DueRef.TheVariants.{Create as CreateDue, Bind, Updated, Unbind, Activate, Modified, Deactivate, Destroy}
use Rattle.callback_orders.specs.Due.{due_of}
use Rattle.component_state.proofs.Apart.{in_cases, in_first, in_rest}
use Rattle.scr_laws.proofs.DueCallbacks.{IsFor, due_is_own, first_is}
use Rattle.scr_laws.proofs.Listed.{none_found}
use Rattle.scr_laws.proofs.InstanceLemmas.{mapped_was}
use Rattle.scr_world.specs.Dues.{begin_for, begin_of, choices, due_in, next_begin}
use Rattle.scr_world.specs.Views.{view_of, views_of, whiteboard_view}
use Rattle.scr_world.specs.Wanted.{missing}
use Rattle.scr_world.specs.Worlds.{all_instances}
use Rattle.scr_world.specs.declared.instance.Instance.{Instance}
use Rattle.scr_world.specs.declared.step.Step.{Step}
use Rattle.scr_world.specs.declared.step.Step.TheVariants.{Begin}
use Rattle.scr_world.specs.declared.world.World.{World}

-- where one passes, some one is found
pub some_found : {X : Type 0} (t : X → Bool) (xs : List X) (x : X) → Contains xs x → t x ≡ true → (y : X) × (find t xs ≡ Some y)
some_found {X} t xs x h on = go (find t xs) refl
  where
    go : (o : Option X) → find t xs ≡ o → (y : X) × (find t xs ≡ Some y)
    go None is = let off = none_found t xs x is h in let both : true ≡ false = sym on ∙ off in cc
    go (Some y) is = (y, is)

module _ (w : World) where
  tells_one : (i : Instance) → Contains (all_instances w) i → (d : DueRef) (n : ℕ) → n ≡ i.number
      → (step : Step) × (option_map (begin_for w d) (find (λ (j : Instance). j.number == n) (all_instances w)) ≡ Some step)
  tells_one i h d n same =
      let found = some_found (λ (j : Instance). j.number == n) (all_instances w) i h (eq-eqb i.number n (sym same)) in
      (begin_for w d found.0, ap (option_map (begin_for w d)) found.1)

  of_instance : (i : Instance) → Contains (all_instances w) i → (d : DueRef) → IsFor i.number d → (step : Step) × (begin_of w d ≡ Some step)
  of_instance i h (CreateDue key) its = absurd its
  of_instance i h (Bind n r s) its = tells_one i h (Bind n r s) n its
  of_instance i h (Updated n r s) its = tells_one i h (Updated n r s) n its
  of_instance i h (Unbind n r s) its = tells_one i h (Unbind n r s) n its
  of_instance i h (Activate n) its = tells_one i h (Activate n) n its
  of_instance i h (Modified n) its = tells_one i h (Modified n) n its
  of_instance i h (Deactivate n) its = tells_one i h (Deactivate n) n its
  of_instance i h (Destroy n) its = tells_one i h (Destroy n) n its

  -- what is due begins with a turn
  begins : (d : DueRef) → due_in w ≡ Some d → (step : Step) × (begin_of w d ≡ Some step)
  begins d is = elim (first_is (views_of w) (missing w) d is) [
    | inl view ↦ elim (in_cases (whiteboard_view w) (map (view_of w) w.instances) view.0 view.1) [
      | inl board ↦ of_instance w.whiteboard (in_first w.whiteboard w.instances) d (due_is_own (whiteboard_view w) d (ap due_of board ∙ view.2))
      | inr other ↦ (
          let found = mapped_was (view_of w) w.instances view.0 other in
          of_instance found.0 (in_rest w.whiteboard w.instances found.0 found.1) d (due_is_own (view_of w found.0) d (ap due_of found.2 ∙ view.2)))
    ]
    | inr new ↦ (Begin (w.turns_begun + 1) (w.instances_numbered + 1) new.0.configuration new.0.consumer Create (choices w new.0.configuration), ap (begin_of w) new.2)
  ]

  -- where no turn begins next, nothing is due
  pub idle : next_begin w ≡ None → due_in w ≡ None
  idle none = go (due_in w) refl
    where
      go : (o : Option DueRef) → due_in w ≡ o → due_in w ≡ None
      go None is = is
      go (Some d) is =
          let step = begins d is in
          let both : Some step.0 ≡ None = sym step.1 ∙ sym (ap (option_and_then (begin_of w)) is) ∙ none in cc
