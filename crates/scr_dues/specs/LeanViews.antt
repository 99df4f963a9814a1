-- Views without what due callbacks do not look at: whether a held service is ready, and, where nobody is told of it, whether one changed. Our own.
use Rattle.std.specs.Prelude.{ℕ, ◌&&◌, List, [], map, Bool, true, false, is_none, is_some, not, if◌then◌else◌}
use Rattle.std.specs.Str.{bytes_eq}
use Rattle.callback_orders.specs.declared.instance_view.HeldService.{HeldService}
use Rattle.callback_orders.specs.declared.instance_view.InstanceView.{InstanceView}
use Rattle.callback_orders.specs.declared.instance_view.Phase.{Phase}
use Rattle.callback_orders.specs.declared.instance_view.Phase.TheVariants.{Making, Active, Left}
use Rattle.callback_orders.specs.declared.instance_view.ReferenceView.{ReferenceView}
use Rattle.callback_orders.specs.declared.instance_view.Wish.{Wish}
use Rattle.callback_orders.specs.Lives.{held_for}
use Rattle.callback_orders.specs.References.{is_held}
use Rattle.callback_orders.specs.Sequences.{is_outstanding}
use Rattle.component_dto.specs.declared.description.Reference.{Reference}
use Rattle.component_state.specs.Reasons.{choice_at}
use Rattle.prop_map.specs.Words.{has, with_places}
use Rattle.reference_match.specs.Targets.{is_static}
use Rattle.scr_world.specs.declared.instance.Instance.{Instance}
use Rattle.scr_world.specs.declared.world.World.{World}
use Rattle.scr_world.specs.Views.{awaits_modified, bundle_of_instance, desired_unless_ending, is_changed, is_ready, references_in}
use Rattle.scr_world.specs.Worlds.{sorted}

abbrev pub lean_wish : ReferenceView → Wish → Wish
lean_wish r x = record { service = x.service; ready = not (is_held r x.service) && x.ready }

abbrev pub lean_held : ReferenceView → HeldService → HeldService
lean_held r h = record { service = h.service; changed = r.told && h.changed }

unfoldable pub lean : ReferenceView → ReferenceView
lean r = record { told = r.told; desired = map (lean_wish r) r.desired; held = map (lean_held r) r.held }

unfoldable pub lean_view : InstanceView → InstanceView
lean_view v = record v { references = map lean v.references }

-- what an instance holds for the reference of a name, best first
abbrev pub best_held : World → Instance → List ℕ → List ℕ
best_held w i name = sorted w (held_for name i.callbacks)

-- the same made at once: a reference of an instance
abbrev pub lean_reference : Bool → World → Instance → (ℕ × Reference) → ReferenceView
lean_reference ending w i r = record {
  told = is_some r.1.updated;
  desired = map (λ s. record { service = s; ready = not (has (best_held w i r.1.name) s) && is_ready w (bundle_of_instance w i) s }) (desired_unless_ending ending w i r.0 r.1);
  held = map (λ s. record { service = s; changed = is_some r.1.updated && is_changed w i r.1.name s }) (best_held w i r.1.name);
}

-- an instance, as if nobody held it
unfoldable pub lean_view_as : Phase → Bool → World → Instance → InstanceView
lean_view_as phase ending w i = record {
  instance = i.number;
  phase = phase;
  ending = ending;
  outstanding = is_outstanding i.callbacks;
  drained = i.drained;
  unheld = true;
  stale = awaits_modified w i;
  references = map (lean_reference ending w i) (with_places 0 (references_in w i));
}

-- ---- an instance that goes on

-- a static reference holds just what was chosen for it, and nobody is told of changes: nothing is due for it
abbrev pub is_settled : Instance → (ℕ × Reference) → Bool
is_settled i r = is_static r.1.policy && (is_none r.1.updated && bytes_eq (held_for r.1.name i.callbacks) (choice_at i.origin.chosen r.0))

-- a reference for which nothing is due
abbrev pub wants_nothing : ReferenceView
wants_nothing = record { told = false; desired = []; held = [] }

unfoldable pub staying_reference : World → Instance → (ℕ × Reference) → ReferenceView
staying_reference w i r = if is_settled i r then wants_nothing else lean_reference false w i r

abbrev pub is_making : Phase → Bool
is_making Making = true
is_making Active = false
is_making Left = false

-- what is looked at of the references of an instance that ends or doesn't
unfoldable pub references_looked_at : Bool → World → Instance → List (ℕ × Reference) → List ReferenceView
references_looked_at ending w i rs = if ending then map (lean_reference true w i) rs else map (staying_reference w i) rs

-- the view with just these
unfoldable pub due_view : Phase → Bool → World → Instance → InstanceView
due_view phase ending w i = record (lean_view_as phase ending w i) { references = references_looked_at ending w i (with_places 0 (references_in w i)) }
