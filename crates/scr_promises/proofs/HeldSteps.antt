-- What an instance holds behind an entry it held before it, or the entry begins to bind it: then its reference desires it, and it is ready.
use Rattle.std.proofs.Common.{◌≡◌, ◌<◌, ℕ, List, [], ◌∷◌, ap, sym, ◌∙◌, refl, subst, arith, Bool, true, false, inl, inr, ◌⊎◌, Option, Some, None}
use Rattle.std.specs.Prelude.{◌==◌}
use Rattle.std.specs.List.{Contains, slice_index_or}
use Rattle.std.specs.Option.{option_map_or}
use Rattle.std.proofs.lemmas.Bool.{eq-eqb, eqb-true}
use Rattle.callback_orders.specs.declared.callback.Callback.TheVariants.{Create, Bind as BindCalled}
use Rattle.callback_orders.specs.declared.due.DueRef.TheVariants.{Bind as BindDue}
use Rattle.callback_orders.specs.declared.instance_view.InstanceView.{InstanceView}
use Rattle.callback_orders.specs.declared.instance_view.Phase.{Phase}
use Rattle.callback_orders.specs.declared.instance_view.Phase.TheVariants.{Active}
use Rattle.callback_orders.specs.declared.instance_view.ReferenceView.{ReferenceView}
use Rattle.callback_orders.specs.declared.instance_view.Wish.{Wish}
use Rattle.callback_orders.specs.declared.word.Called.{Called}
use Rattle.callback_orders.specs.Due.{due_of}
use Rattle.callback_orders.specs.Lives.{callback_of, held_for, phase_of}
use Rattle.callback_orders.specs.References.{is_desired}
use Rattle.callback_orders.specs.Sequences.{begun}
use Rattle.component_dto.specs.declared.description.Reference.{Reference}
use Rattle.component_state.specs.declared.component.Component.{Component}
use Rattle.component_state.specs.Components.{component_of}
use Rattle.component_state.proofs.Apart.{any_from, in_cases, in_first, in_rest}
use Rattle.journal_core.specs.declared.entry.Entry.{Entry}
use Rattle.prop_map.specs.Words.{has, with_places}
use Rattle.scr_promises.proofs.Comings.{IsNext, IsSeen, WasBefore, board_comes, callback_begun, closes, gains, keeps, one_made, whiteboard}
use Rattle.scr_promises.proofs.DueCallbacks.{due_stands}
use Rattle.scr_promises.proofs.EndingLaws.{board_number, comes}
use Rattle.scr_promises.proofs.InstanceComponents.{board_origin, bundle_kept, components_positive, references_kept}
use Rattle.scr_promises.proofs.ViewedReferences.{desires_seen, name_there, viewed}
use Rattle.scr_laws.proofs.TurnCallbacks.{are_told_apart}
use Rattle.scr_promises.proofs.HeldLists.{due_bind, held_begun, held_ended}
use Rattle.scr_laws.proofs.Listed.{found_was, mapped_was}
use Rattle.scr_laws.proofs.InstanceLemmas.{IsMade}
use Rattle.scr_world.specs.Dues.{names_of}
use Rattle.scr_world.specs.Legal.{IsLegal}
use Rattle.scr_world.specs.Lists.{world_after_entry, world_of}
use Rattle.scr_world.specs.Steps.{History}
use Rattle.scr_world.specs.Stepping.{whiteboard_by, world_after_step}
use Rattle.scr_world.specs.Views.{bundle_of_instance, desired_services, desired_unless_ending, ends, is_ready, reference_view, references_in, view_as}
use Rattle.scr_world.specs.Whiteboard.{component_in, whiteboard_references}
use Rattle.scr_world.specs.Worlds.{all_instances}
use Rattle.scr_world.specs.declared.instance.Instance.{Instance}
use Rattle.scr_world.specs.declared.step.Step.{Step}
use Rattle.scr_world.specs.declared.world.World.{World}

-- ---- a view is of one form

record IsView (w : World) (j : Instance) (v : InstanceView) : Type 0 where
  phase : Phase
  ending : Bool
  is_view : v ≡ view_as phase ending w j
  whose : (Contains w.instances j × (ending ≡ ends w j)) ⊎ (j ≡ w.whiteboard)

seen_as : (w : World) (j : Instance) (v : InstanceView) → IsSeen w j v → IsView w j v
seen_as w j v (one_made h is) = record { phase = phase_of j.callbacks; ending = ends w j; is_view = is; whose = inl (h, refl) }
seen_as w j v (whiteboard same is) = record { phase = Active; ending = false; is_view = is ∙ ap (view_as Active false w) (sym same); whose = inr same }

-- ---- a Bind that begins

pub record IsBound (w : World) (step : Step) (j : Instance) (name : List ℕ) (s : ℕ) : Type 0 where
  pub place : ℕ
  pub reference : Reference
  pub there : Contains (with_places 0 (references_in w j)) (place, reference)
  pub named : reference.name ≡ name
  pub desired : has (desired_services w j place reference) s ≡ true
  pub ready : is_ready w (bundle_of_instance w j) s ≡ true
  pub begins : callback_begun step ≡ Some (BindCalled name s)
  pub whose : (Contains w.instances j × (ends w j ≡ false)) ⊎ (j ≡ w.whiteboard)

module _ (w : World) (step : Step) (j : Instance) (name : List ℕ) (s : ℕ) where
  bound_by : (v : InstanceView) → IsView w j v → (n k : ℕ) → due_of v ≡ Some (BindDue n k s) → slice_index_or (names_of w j) k [] ≡ name → callback_begun step ≡ Some (BindCalled name s) → IsBound w step j name s
  bound_by v view n k due named begins =
      let b = (due_stands v (BindDue n k s) due).1 in
      let e = view.ending in
      let refs = references_in w j in
      let off : e ≡ false = sym (ap (λ (x : InstanceView). x.ending) view.is_view) ∙ b.going_on in
      let seen = viewed (reference_view e w j) 0 refs k b.reference (subst (λ (x : InstanceView). Contains (with_places 0 x.references) (k, b.reference)) view.is_view b.there) in
      let q = seen.0 in
      let wanted = any_from (λ (x : Wish). x.service == s) b.reference.desired b.wish b.wished (eq-eqb b.wish.service s b.service) in
      let desires = sym (ap (λ (r : ReferenceView). is_desired r s) seen.2 ∙ desires_seen w j e (k, q) s) ∙ wanted in
      let wish = mapped_was (λ m. record { service = m; ready = is_ready w (bundle_of_instance w j) m }) (desired_unless_ending e w j k q) b.wish (subst (λ (r : ReferenceView). Contains r.desired b.wish) seen.2 b.wished) in
      record {
        place = k;
        reference = q;
        there = seen.1;
        named = sym (name_there refs k q seen.1) ∙ named;
        desired = sym (ap (λ d. has (desired_unless_ending d w j k q) s) off) ∙ desires;
        ready = ap (is_ready w (bundle_of_instance w j)) (sym (ap (λ (x : Wish). x.service) wish.1.1 ∙ b.service)) ∙ ap (λ (x : Wish). x.ready) wish.1.1 ∙ b.ready;
        begins = begins;
        whose = whose_of view.whose off;
      }
    where
      whose_of : {e : Bool} → (Contains w.instances j × (e ≡ ends w j)) ⊎ (j ≡ w.whiteboard) → e ≡ false → (Contains w.instances j × (ends w j ≡ false)) ⊎ (j ≡ w.whiteboard)
      whose_of (inl made) off = inl (made.0, sym made.1 ∙ off)
      whose_of (inr board) off = inr board

  -- what is held behind a step
  pub held_next : (calls : List Called) → IsNext w step j calls → has (held_for name calls) s ≡ true → (has (held_for name j.callbacks) s ≡ true) ⊎ IsBound w step j name s
  held_next calls (keeps is) held = inl (ap (λ cs. has (held_for name cs) s) (sym is) ∙ held)
  held_next calls (closes turn outcome is_end its is) held = inl (held_ended outcome name j.callbacks [] s (ap (λ cs. has (held_for name cs) s) (sym is) ∙ held))
  held_next calls (gains v seen due is_due begins is) held = elim (held_begun name j.callbacks (callback_of (names_of w j) due) s (ap (λ cs. has (held_for name cs) s) (sym is) ∙ held)) [
    | inl before ↦ inl before
    | inr now ↦ (
        let bind = due_bind (names_of w j) due now.0 s now.1 in
        inr (bound_by v (seen_as w j v seen) bind.0 bind.1 (is_due ∙ ap Some bind.2) (bind.3 ∙ now.2) (begins ∙ ap Some (now.1 ∙ ap (λ n. BindCalled n s) now.2))))
  ]

-- ---- the whiteboard's instance

pub board_references : (past : History) → references_in (world_of past) (world_of past).whiteboard ≡ whiteboard_references
board_references past = ap (λ n. option_map_or (λ (c : Component). c.description.references) (component_in (world_of past).components n) []) (board_origin past)

above_wrong : (n : ℕ) → 0 < n → (n == 0) ≡ true → ⊥
above_wrong n high e = let same = eqb-true n 0 e in omega (arith, high, same)

none_zero : (o : Option Component) (cs : List Component) → ((c : Component) → Contains cs c → 0 < c.number) → component_of cs 0 ≡ o → o ≡ None
none_zero None cs positive is = refl
none_zero (Some c) cs positive is = let found = found_was (λ (x : Component). x.number == 0) cs c is in absurd (above_wrong c.number (positive c found.0) found.1)

pub board_bundle : (past : History) → bundle_of_instance (world_of past) (world_of past).whiteboard ≡ 0
board_bundle past =
    ap (λ n. option_map_or (λ (c : Component). c.bundle) (component_of (world_of past).components n) 0) (board_origin past)
    ∙ ap (λ o. option_map_or (λ (c : Component). c.bundle) o 0) (none_zero (component_of (world_of past).components 0) (world_of past).components (components_positive past) refl)

-- ---- each instance behind an entry

module _ (limit : ℕ) (entry : Entry Step) (past : History) (legal : IsLegal limit (entry ∷ past)) where
  -- it was there before, with its references and its bundle, or it was just made
  pub data IsLater (i : Instance) : Type 0 where
    from : (j : Instance) → Contains (all_instances (world_of past)) j → references_in (world_of (entry ∷ past)) i ≡ references_in (world_of past) j → bundle_of_instance (world_of (entry ∷ past)) i ≡ bundle_of_instance (world_of past) j
        → IsNext (world_of past) entry.step j i.callbacks → IsLater i
    new : i.callbacks ≡ begun Create ∷ [] → IsLater i

  board_then : (world_of (entry ∷ past)).whiteboard ≡ whiteboard_by entry.step (world_of past)
  unfolding world_of world_after_entry world_after_step
  board_then = refl

  later_made : (i : Instance) → WasBefore (world_of past) entry.step i ⊎ IsMade entry.step (world_of past) i → IsLater i
  later_made i (inl was) =
      from was.was (in_rest (world_of past).whiteboard (world_of past).instances was.was was.there) (references_kept limit entry past legal was.was i was.there was.same.origin) (bundle_kept limit entry past legal was.was i was.there was.same.origin) was.calls
  later_made i (inr made) = new (ap (λ (x : Instance). x.callbacks) (sym made.4.1.1))

  later_board : IsLater (world_of (entry ∷ past)).whiteboard
  later_board = from (world_of past).whiteboard (in_first (world_of past).whiteboard (world_of past).instances) (board_references (entry ∷ past) ∙ sym (board_references past)) (board_bundle (entry ∷ past) ∙ sym (board_bundle past))
      (subst (λ (x : Instance). IsNext (world_of past) entry.step (world_of past).whiteboard x.callbacks) (sym board_then) (board_comes (world_of past) (are_told_apart limit past legal.1).numbers (board_number past) entry.step legal.0.step))

  pub later : (i : Instance) → Contains (all_instances (world_of (entry ∷ past))) i → IsLater i
  later i h = elim (in_cases (world_of (entry ∷ past)).whiteboard (world_of (entry ∷ past)).instances i h) [
    | inl board ↦ subst (λ (x : Instance). IsLater x) board later_board
    | inr one ↦ later_made i (comes limit entry past legal i one)
  ]
