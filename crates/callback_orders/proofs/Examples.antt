-- The definitions, computed on examples.
use Rattle.std.proofs.Common.{◌≡◌, ℕ, List, [], ◌∷◌, true, false, refl}
use Rattle.std.specs.Prelude.{Some, None, codes}
use Rattle.callback_orders.specs.declared.callback.Callback.{Callback}
use Rattle.callback_orders.specs.declared.callback.Callback.TheVariants.{Create, Bind, Updated, Unbind, Activate, Modified, Deactivate, Destroy}
use Rattle.callback_orders.specs.declared.callback.Outcome.TheVariants.{Done, Refused}
use Rattle.callback_orders.specs.declared.due.DueRef.TheVariants.{Bind as BindDue, Unbind as UnbindDue, Updated as UpdatedDue, Activate as ActivateDue, Modified as ModifiedDue}
use Rattle.callback_orders.specs.declared.instance_view.InstanceView.{InstanceView}
use Rattle.callback_orders.specs.declared.instance_view.HeldService.{HeldService}
use Rattle.callback_orders.specs.declared.instance_view.Phase.{Phase}
use Rattle.callback_orders.specs.declared.instance_view.Phase.TheVariants.{Making, Active, Left}
use Rattle.callback_orders.specs.declared.instance_view.ReferenceView.{ReferenceView}
use Rattle.callback_orders.specs.declared.instance_view.Wish.{Wish}
use Rattle.callback_orders.specs.declared.word.Called.{Called}
use Rattle.callback_orders.specs.Due.{due_of}
use Rattle.callback_orders.specs.Sequences.{begun, done_with, is_sequence, is_whiteboard_sequence}

abbrev done : Callback → Called
done callback = done_with callback Done

-- a consumer that is made, bound, active, and stopped
whole : is_sequence (done Create ∷ done (Bind (codes "p") 1) ∷ done Activate ∷ done Deactivate ∷ done (Unbind (codes "p") 1) ∷ done Destroy ∷ []) ≡ true
whole = refl

-- a period that ends while a Bind is outstanding: no Activate comes
never_active : is_sequence (done Create ∷ done (Bind (codes "p") 1) ∷ done (Unbind (codes "p") 1) ∷ done Destroy ∷ []) ≡ true
never_active = refl

-- an activation that is refused, and then nothing but the end
refused : is_sequence (done Create ∷ done_with Activate Refused ∷ done Destroy ∷ []) ≡ true
refused = refl

-- a replacement of a dynamic reference, an Updated and a Modified that is outstanding
replaced : is_sequence (done Create ∷ done (Bind (codes "x") 1) ∷ done Activate ∷ done (Bind (codes "x") 2) ∷ done (Unbind (codes "x") 1) ∷ done (Updated (codes "x") 2) ∷ begun Modified ∷ []) ≡ true
replaced = refl

-- a Destroy while something is held, a second Bind of one service, a callback after a refused Create, an Updated of what isn't bound,
-- two at once, and Modified before Activate
held_at_destroy : is_sequence (done Create ∷ done (Bind (codes "p") 1) ∷ begun Destroy ∷ []) ≡ false
held_at_destroy = refl

bound_twice : is_sequence (done Create ∷ done (Bind (codes "p") 1) ∷ begun (Bind (codes "p") 1) ∷ []) ≡ false
bound_twice = refl

after_refused_create : is_sequence (done_with Create Refused ∷ begun Destroy ∷ []) ≡ false
after_refused_create = refl

told_unbound : is_sequence (done Create ∷ done Activate ∷ begun (Updated (codes "p") 1) ∷ []) ≡ false
told_unbound = refl

two_at_once : is_sequence (begun Create ∷ begun Activate ∷ []) ≡ false
two_at_once = refl

modified_too_early : is_sequence (done Create ∷ begun Modified ∷ []) ≡ false
modified_too_early = refl

-- the whiteboard's instance has no Create
whiteboard : is_whiteboard_sequence (done (Bind (codes "servlets") 1) ∷ done (Bind (codes "contexts") 2) ∷ begun (Unbind (codes "servlets") 1) ∷ []) ≡ true
whiteboard = refl

abbrev wish : ℕ → Wish
wish s = record { service = s; ready = true }

abbrev kept : ℕ → HeldService
kept s = record { service = s; changed = false }

abbrev reference : List Wish → List HeldService → ReferenceView
reference desired held = record { told = true; desired = desired; held = held }

abbrev view : Phase → List ReferenceView → InstanceView
view phase references = record { instance = 1; phase = phase; ending = false; outstanding = false; drained = false; unheld = true; stale = true; references = references }

-- a better service came: greedy and unary binds it, then lets go of the other
greedy_binds : due_of (view Active (reference (wish 2 ∷ []) (kept 1 ∷ []) ∷ [])) ≡ Some (BindDue 1 0 2)
greedy_binds = refl

greedy_unbinds : due_of (view Active (reference (wish 2 ∷ []) (kept 2 ∷ kept 1 ∷ []) ∷ [])) ≡ Some (UnbindDue 1 0 1)
greedy_unbinds = refl

-- the replacement isn't active yet: what is bound stays, and the next reference isn't held up
greedy_waits : due_of (view Active (reference (record { service = 2; ready = false } ∷ []) (kept 1 ∷ []) ∷ reference [] (kept 3 ∷ []) ∷ [])) ≡ Some (UnbindDue 1 1 3)
greedy_waits = refl

-- of several desired ones the best that is ready
best_ready : due_of (view Active (reference (record { service = 2; ready = false } ∷ wish 4 ∷ wish 5 ∷ []) [] ∷ [])) ≡ Some (BindDue 1 0 4)
best_ready = refl

-- a changed service comes before changed properties of its own, also one that is no longer desired
told_first : due_of (view Active (reference (record { service = 2; ready = false } ∷ []) (record { service = 1; changed = true } ∷ []) ∷ [])) ≡ Some (UpdatedDue 1 0 1)
told_first = refl

then_modified : due_of (view Active (reference (wish 1 ∷ []) (kept 1 ∷ []) ∷ [])) ≡ Some (ModifiedDue 1)
then_modified = refl

-- in the making: the first reference that differs decides, and waits for its service
making_waits : due_of (view Making (reference (record { service = 2; ready = false } ∷ []) [] ∷ reference (wish 3 ∷ []) [] ∷ [])) ≡ None
making_waits = refl

making_activates : due_of (view Making (reference (wish 2 ∷ []) (kept 2 ∷ []) ∷ [])) ≡ Some (ActivateDue 1)
making_activates = refl

-- an ending instance lets go of the last reference's worst service first
lets_go : due_of (record { instance = 1; phase = Left; ending = true; outstanding = false; drained = true; unheld = true; stale = false; references = reference [] (kept 1 ∷ []) ∷ reference [] (kept 2 ∷ kept 3 ∷ []) ∷ reference [] [] ∷ [] }) ≡ Some (UnbindDue 1 1 3)
lets_go = refl
