-- A view made at once without what isn't looked at is the view without it, and the same is due by it.
use Rattle.std.proofs.Common.{◌≡◌, ◌∙◌, ap, refl, ℕ, List, [], ◌∷◌, Bool, true, false, ◌&&◌, ◌||◌, map}
use Rattle.std.specs.Prelude.{not, is_some, ◌==◌}
use Rattle.std.specs.List.{list_any}
use Rattle.callback_orders.specs.declared.instance_view.HeldService.{HeldService}
use Rattle.callback_orders.specs.declared.instance_view.InstanceView.{InstanceView}
use Rattle.callback_orders.specs.declared.instance_view.Phase.{Phase}
use Rattle.callback_orders.specs.declared.instance_view.ReferenceView.{ReferenceView}
use Rattle.callback_orders.specs.declared.instance_view.Wish.{Wish}
use Rattle.callback_orders.specs.Due.{due_of}
use Rattle.callback_orders.specs.References.{is_held}
use Rattle.component_dto.specs.declared.description.Reference.{Reference}
use Rattle.prop_map.specs.Words.{has, with_places}
use Rattle.scr_world.specs.declared.instance.Instance.{Instance}
use Rattle.scr_world.specs.declared.world.World.{World}
use Rattle.scr_world.specs.Instances.{is_active_phase}
use Rattle.scr_world.specs.Views.{bundle_of_instance, desired_unless_ending, is_changed, is_ready, reference_view, references_in, view_as}
use Rattle.scr_dues.specs.FirstDues.{due_as}
use Rattle.scr_dues.specs.LeanViews.{best_held, due_view, lean, lean_held, lean_reference, lean_view, lean_view_as, lean_wish}
use Rattle.scr_dues.proofs.DueLemmas.{by_view}
use Rattle.scr_dues.proofs.LeanLemmas.{lean_due}
use Rattle.scr_dues.proofs.Staying.{looked_at}

both : {A B C : Type 0} (f : A → C) (g : B → C) (h : A → B) → ((x : A) → f x ≡ g (h x)) → (xs : List A) → map f xs ≡ map g (map h xs)
both f g h same [] = refl
both f g h same (x ∷ xs) = (λ j. same x j ∷ both f g h same xs j)

any_of : {A B : Type 0} (p : B → Bool) (f : A → B) (xs : List A) → list_any (λ x. p (f x)) xs ≡ list_any p (map f xs)
any_of p f [] = refl
any_of p f (x ∷ xs) = ap (λ b. p (f x) || b) (any_of p f xs)

module _ (w : World) (i : Instance) (ending : Bool) where
  module _ (r : ℕ × Reference) where
    held_is : (s : ℕ) → has (best_held w i r.1.name) s ≡ is_held (reference_view ending w i r) s
    held_is s = any_of (λ (h : HeldService). h.service == s) (λ n. record { service = n; changed = is_changed w i r.1.name n }) (best_held w i r.1.name)

    wishes_are : map (λ s. let made : Wish = record { service = s; ready = not (has (best_held w i r.1.name) s) && is_ready w (bundle_of_instance w i) s } in made) (desired_unless_ending ending w i r.0 r.1)
        ≡ map (lean_wish (reference_view ending w i r)) (map (λ s. let made : Wish = record { service = s; ready = is_ready w (bundle_of_instance w i) s } in made) (desired_unless_ending ending w i r.0 r.1))
    wishes_are = both (λ s. record { service = s; ready = not (has (best_held w i r.1.name) s) && is_ready w (bundle_of_instance w i) s }) (lean_wish (reference_view ending w i r))
        (λ s. record { service = s; ready = is_ready w (bundle_of_instance w i) s }) (λ s j. record { service = s; ready = not (held_is s j) && is_ready w (bundle_of_instance w i) s }) (desired_unless_ending ending w i r.0 r.1)

    changes_are : map (λ s. let made : HeldService = record { service = s; changed = is_some r.1.updated && is_changed w i r.1.name s } in made) (best_held w i r.1.name)
        ≡ map (lean_held (reference_view ending w i r)) (map (λ s. let made : HeldService = record { service = s; changed = is_changed w i r.1.name s } in made) (best_held w i r.1.name))
    changes_are = both (λ s. record { service = s; changed = is_some r.1.updated && is_changed w i r.1.name s }) (lean_held (reference_view ending w i r))
        (λ s. record { service = s; changed = is_changed w i r.1.name s }) (λ s. refl) (best_held w i r.1.name)

    pub reference_is : lean_reference ending w i r ≡ lean (reference_view ending w i r)
    unfolding lean
    reference_is = (λ j. record { told = is_some r.1.updated; desired = wishes_are j; held = changes_are j })

  lean_is : (phase : Phase) → lean_view_as phase ending w i ≡ lean_view (record (view_as phase ending w i) { unheld = true })
  unfolding lean_view_as lean_view
  lean_is phase = ap (λ (rs : List ReferenceView). let made : InstanceView = record (view_as phase ending w i) { unheld = true; references = rs } in made) (both (lean_reference ending w i) lean (reference_view ending w i) reference_is (with_places 0 (references_in w i)))

  pub by_due_view : (phase : Phase) (v : InstanceView) → v ≡ due_view phase ending w i → (ending && is_active_phase phase) ≡ false → due_of v ≡ due_as phase ending w i
  by_due_view phase v is aside =
      ap due_of is ∙ looked_at w i phase ending ∙ ap due_of (lean_is phase) ∙ lean_due (record (view_as phase ending w i) { unheld = true })
      ∙ by_view w i phase ending (record (view_as phase ending w i) { unheld = true }) refl aside
