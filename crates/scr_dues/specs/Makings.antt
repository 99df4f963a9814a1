-- How far an instance in the making is known to be with its references. Our own.
use Rattle.std.specs.Prelude.{◌≡◌, ℕ, ◌<◌, ◌≤◌, ◌==◌, ◌&&◌, List, map, Bool, true, false, Option, Some, drop, is_none, if◌then◌else◌}
use Rattle.std.specs.List.{Contains, list_any}
use Rattle.std.specs.Str.{bytes_eq}
use Rattle.callback_orders.specs.declared.due.DueRef.{DueRef}
use Rattle.callback_orders.specs.declared.due.DueRef.TheVariants.{Activate, Bind, Unbind}
use Rattle.callback_orders.specs.declared.instance_view.ReferenceView.{ReferenceView}
use Rattle.callback_orders.specs.Due.{bind_or_unbind}
use Rattle.callback_orders.specs.Grammar.{is_unbind}
use Rattle.callback_orders.specs.Lives.{held_for}
use Rattle.callback_orders.specs.References.{differs}
use Rattle.component_dto.specs.TextLists.{first_repeated}
use Rattle.component_dto.specs.declared.description.Reference.{Reference}
use Rattle.component_state.specs.declared.origin.Choice.{Choice}
use Rattle.component_state.specs.Inside.Ready.{are_apart}
use Rattle.component_state.specs.Reasons.{choice_at}
use Rattle.prop_map.specs.Words.{with_places}
use Rattle.reference_match.specs.Targets.{is_static}
use Rattle.scr_world.specs.declared.instance.Instance.{Instance}
use Rattle.scr_world.specs.declared.world.World.{World}
use Rattle.scr_world.specs.Instances.{has_turn, last_is}
use Rattle.scr_world.specs.Views.{reference_view, references_in}
use Rattle.scr_dues.specs.declared.making.Making.{Making}

-- ---- one reference of an instance in the making

-- a static reference holds just what was chosen for it
abbrev pub holds_choice : Instance → (ℕ × Reference) → Bool
holds_choice i r = is_static r.1.policy && bytes_eq (held_for r.1.name i.callbacks) (choice_at i.origin.chosen r.0)

-- what is due by the view of a reference alone: what it wants where it differs, else Activate
abbrev pub due_by_view : ℕ → (ℕ × ReferenceView) → Option DueRef
due_by_view n r = if differs r.1 then bind_or_unbind n r else Some (Activate n)

-- the same for a reference of an instance that goes on
unfoldable pub due_for_one : World → Instance → (ℕ × Reference) → Option DueRef
due_for_one w i r = due_by_view i.number (r.0, reference_view false w i r)

-- it's due for the reference at a place
abbrev pub placed : ℕ → Option DueRef → Option DueRef
placed place (Some (Bind i r s)) = Some (Bind i place s)
placed place (Some (Unbind i r s)) = Some (Unbind i place s)
placed place other = other

abbrev pub is_activate : Option DueRef → Bool
is_activate (Some (Activate i)) = true
is_activate _ = false

-- ---- all of them

-- what was chosen for the references from a place on stands in these choices as it does in those
abbrev pub AreChoicesFrom : ℕ → List Choice → List Choice → Type 0
AreChoicesFrom place those these = (later : ℕ) → place ≤ later → choice_at these later ≡ choice_at those later

-- the references before a place hold what was chosen for them, and what was chosen for the others stands behind the first choices
pub record HoldsUpTo (i : Instance) (rs : List Reference) (m : Making) : Type 0 where
  pub before : (r : ℕ × Reference) → Contains (with_places 0 rs) r → r.0 < m.place → holds_choice i r ≡ true
  pub behind : AreChoicesFrom m.place i.origin.chosen (drop m.choices i.origin.chosen)

-- references differ in name
abbrev pub have_own_names : List Reference → Bool
have_own_names rs = is_none (first_repeated (map (λ (r : Reference). r.name) rs))

-- so it is with an instance, whose references differ in name where it's known of one
pub record IsKnown (w : World) (i : Instance) (m : Making) : Type 0 where
  pub names : 0 < m.place → have_own_names (references_in w i) ≡ true
  pub holds : HoldsUpTo i (references_in w i) m

-- so it is with the instance of its number, which isn't a new one
pub record IsThatFar (w : World) (m : Making) : Type 0 where
  pub numbered : m.instance ≤ w.instances_numbered
  pub each : (i : Instance) → Contains w.instances i → i.number ≡ m.instance → IsKnown w i m

-- instances have numbers of their own, and no new ones
pub record AreNumbered (w : World) : Type 0 where
  pub apart : are_apart (map (λ (i : Instance). i.number) w.instances) ≡ true
  pub given : (i : Instance) → Contains w.instances i → i.number ≤ w.instances_numbered

abbrev pub nothing_known : Making
nothing_known = record { instance = 0; place = 0; choices = 0 }

-- an instance is told by a turn that it lets go of a service
abbrev pub lets_go : World → ℕ → ℕ → Bool
lets_go w number turn = list_any (λ (i : Instance). (i.number == number) && (has_turn turn i && last_is is_unbind i.callbacks)) w.instances

-- what is known once a turn has ended: nothing where the instance let go of a service
abbrev pub known_after_end : World → ℕ → Making → Making
known_after_end w turn m = if lets_go w m.instance turn then nothing_known else m
