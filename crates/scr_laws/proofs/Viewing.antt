-- The view of an instance is that of its callbacks.
use Rattle.std.proofs.Common.{◌≡◌, ◌<◌, ℕ, ◌+◌, List, [], ◌∷◌, ap, sym, ◌∙◌, refl, subst, cond, arith, Bool, true, false, ◌||◌, Option, Some, None}
use Rattle.std.specs.Prelude.{map, ◌==◌}
use Rattle.std.specs.List.{AllZip, Contains, list_any}
use Rattle.std.specs.Option.{option_map_or}
use Rattle.std.proofs.lemmas.Bool.{eqb-true}
use Rattle.callback_orders.specs.declared.instance_view.HeldService.{HeldService}
use Rattle.callback_orders.specs.declared.instance_view.ReferenceView.{ReferenceView}
use Rattle.callback_orders.specs.declared.due.DueRef.{DueRef}
use Rattle.callback_orders.specs.Due.{due_of}
use Rattle.callback_orders.specs.Lives.{HoldsThese, MayComeNext, callback_of, held_for}
use Rattle.callback_orders.specs.Sequences.{is_bind_or_unbind}
use Rattle.callback_orders.proofs.DueLemmas.{due_may_come}
use Rattle.callback_orders.proofs.EachLemmas.{Each}
use Rattle.component_dto.specs.declared.description.Reference.{Reference}
use Rattle.component_state.specs.declared.component.Component.{Component}
use Rattle.component_state.specs.Components.{component_of}
use Rattle.component_state.proofs.Apart.{in_first, in_rest}
use Rattle.prop_map.specs.Words.{in_order, insert_by, with_places}
use Rattle.scr_world.specs.Dues.{names_of}
use Rattle.scr_world.specs.Views.{awaits_modified, awaits_modified_by, is_changed, reference_view, references_in, view_of, whiteboard_view}
use Rattle.scr_world.specs.Whiteboard.{component_in, whiteboard_references}
use Rattle.scr_world.specs.Worlds.{sorted}
use Rattle.scr_world.specs.declared.instance.Instance.{Instance}
use Rattle.scr_world.specs.declared.world.World.{World}
use Rattle.scr_laws.proofs.BoardCallbacks.{board_binds, board_may, since_made}
use Rattle.scr_laws.proofs.Ordered.{AreOrdered}

-- ---- lists in order have the same items

or_swap : (a b c : Bool) → (a || (b || c)) ≡ (b || (a || c))
or_swap true true c = refl
or_swap true false c = refl
or_swap false b c = refl

module _ {X : Type 0} (p : X → Bool) (before : X → X → Bool) where
  any_inserted : (x : X) (ys : List X) → list_any p (insert_by before x ys) ≡ (p x || list_any p ys)
  any_inserted x [] = refl
  any_inserted x (y ∷ ys) = go (before x y) (any_inserted x ys)
    where
      go : (b : Bool) → list_any p (insert_by before x ys) ≡ (p x || list_any p ys) → list_any p (cond b (x ∷ y ∷ ys) (y ∷ insert_by before x ys)) ≡ (p x || (p y || list_any p ys))
      go true rest = refl
      go false rest = ap (λ b. p y || b) rest ∙ or_swap (p y) (p x) (list_any p ys)

  any_in_order : (xs : List X) → list_any p (in_order before xs) ≡ list_any p xs
  any_in_order [] = refl
  any_in_order (x ∷ xs) = any_inserted x (in_order before xs) ∙ ap (λ b. p x || b) (any_in_order xs)

any_mapped : {X Y : Type 0} (p : Y → Bool) (f : X → Y) (xs : List X) → list_any p (map f xs) ≡ list_any (λ x. p (f x)) xs
any_mapped p f [] = refl
any_mapped p f (x ∷ xs) = ap (λ b. p (f x) || b) (any_mapped p f xs)

-- ---- what is held

module _ (ending : Bool) (w : World) (i : Instance) where
  held_service : List ℕ → ℕ → HeldService
  held_service name s = record { service = s; changed = is_changed w i name s }

  holds_one : (place : ℕ) (r : Reference) → HoldsThese (reference_view ending w i (place, r)) (held_for r.name i.callbacks)
  unfolding held_service
  holds_one place r s =
      any_mapped (λ (h : HeldService). h.service == s) (held_service r.name) (sorted w (held_for r.name i.callbacks))
      ∙ any_in_order (λ x. x == s) _ (held_for r.name i.callbacks)

  holds_each : (place : ℕ) (rs : List Reference) → AllZip (λ (v : ReferenceView) (name : List ℕ). HoldsThese v (held_for name i.callbacks)) (map (reference_view ending w i) (with_places place rs)) (map (λ (r : Reference). r.name) rs)
  holds_each place [] = tt
  holds_each place (r ∷ rs) = (holds_one place r, holds_each (place + 1) rs)

none_of_zero : (cs : List Component) → ((c : Component) → Contains cs c → 0 < c.number) → component_of cs 0 ≡ None
none_of_zero [] positive = refl
none_of_zero (c ∷ cs) positive = go (c.number == 0) refl (none_of_zero cs (λ d h. positive d (in_rest c cs d h)))
  where
    go : (b : Bool) → (c.number == 0) ≡ b → component_of cs 0 ≡ None → cond b (Some c) (component_of cs 0) ≡ None
    go true zero rest = absurd (let high = positive c (in_first c cs) in let low = eqb-true c.number 0 zero in omega (arith, high, low))
    go false other rest = rest

module _ (w : World) (ordered : AreOrdered w) where
  pub due_may : (i : Instance) → Contains w.instances i → (d : DueRef) → due_of (view_of w i) ≡ Some d → MayComeNext (names_of w i) i.callbacks (callback_of (names_of w i) d)
  due_may i h d is =
      let one = ordered.each i h in
      due_may_come (names_of w i) i.callbacks (view_of w i) d one.order (ordered.living i h) one.some
      (record { phase = refl; outstanding = refl; held = holds_each _ w i 0 (references_in w i); spoken = one.spoken }) is

  pub board_due_may : (d : DueRef) → due_of (whiteboard_view w) ≡ Some d → MayComeNext (names_of w w.whiteboard) (since_made w.whiteboard.callbacks) (callback_of (names_of w w.whiteboard) d)
  board_due_may d is =
      board_may (names_of w w.whiteboard) w.whiteboard.callbacks (whiteboard_view w) refl refl refl (holds_each false w w.whiteboard 0 (references_in w w.whiteboard)) ordered.board.spoken ordered.board.order d is

  references_are : references_in w w.whiteboard ≡ whiteboard_references
  references_are = ap (λ n. option_map_or (λ (c : Component). c.description.references) (component_in w.components n) []) ordered.board.configuration

  not_modified : awaits_modified w w.whiteboard ≡ false
  not_modified = ap (λ n. option_map_or (awaits_modified_by w.whiteboard) (component_of w.components n) false) ordered.board.configuration
      ∙ ap (λ (o : Option Component). option_map_or (awaits_modified_by w.whiteboard) o false) (none_of_zero w.components ordered.positive)

  abbrev Silent : (ℕ × ReferenceView) → Type 0
  Silent r = r.1.told ≡ false

  silent : Each Silent (with_places 0 (whiteboard_view w).references)
  silent = subst (λ (rs : List Reference). Each Silent (with_places 0 (map (reference_view false w w.whiteboard) (with_places 0 rs)))) (sym references_are) (refl, (refl, tt))

  pub board_due_binds : (d : DueRef) → due_of (whiteboard_view w) ≡ Some d → is_bind_or_unbind (callback_of (names_of w w.whiteboard) d) ≡ true
  board_due_binds d is = board_binds (names_of w w.whiteboard) (whiteboard_view w) refl refl not_modified silent d is
