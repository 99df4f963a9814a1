-- The instance of which a turn begins in a settling has fewer turns to come.
use Rattle.std.proofs.Common.{◌≡◌, ◌≤◌, ℕ, ◌+◌, List, [], ◌∷◌, ◌++◌, ap, sym, ◌∙◌, refl, subst, cond, arith, Bool, true, false, inl, inr, Some}
use Rattle.std.specs.Prelude.{◌==◌, ◌&&◌}
use Rattle.std.specs.List.{Contains, slice_index_or}
use Rattle.std.specs.Str.{bytes_eq}
use Rattle.std.proofs.lemmas.Bool.{both_ways, eq-eqb, or_left, or_right}
use Rattle.callback_orders.specs.declared.callback.Callback.{Callback}
use Rattle.callback_orders.specs.declared.callback.Callback.TheVariants.{Bind}
use Rattle.callback_orders.specs.declared.due.DueRef.{DueRef}
use Rattle.callback_orders.specs.declared.due.DueRef.TheVariants.{Create as CreateDue, Bind as BindDue, Updated as UpdatedDue, Unbind as UnbindDue, Activate as ActivateDue, Modified as ModifiedDue, Deactivate as DeactivateDue, Destroy as DestroyDue}
use Rattle.callback_orders.specs.declared.instance_view.HeldService.{HeldService}
use Rattle.callback_orders.specs.declared.instance_view.InstanceView.{InstanceView}
use Rattle.callback_orders.specs.declared.instance_view.Phase.{Phase}
use Rattle.callback_orders.specs.declared.instance_view.ReferenceView.{ReferenceView}
use Rattle.callback_orders.specs.Due.{due_of}
use Rattle.callback_orders.specs.Lives.{callback_of, held_for}
use Rattle.callback_orders.specs.References.{is_held}
use Rattle.callback_orders.specs.Sequences.{begun}
use Rattle.callback_orders.proofs.HeldLemmas.{text_same}
use Rattle.component_dto.specs.declared.description.Reference.{Reference}
use Rattle.component_state.proofs.Apart.{any_from}
use Rattle.journal_core.specs.declared.entry.Entry.{Entry}
use Rattle.prop_map.specs.Words.{has, with_places}
use Rattle.scr_promises.proofs.WhileActive.{held_begun}
use Rattle.scr_promises.proofs.Comings.{IsSeen, callback_begun, gains}
use Rattle.scr_promises.proofs.DueCallbacks.{due_stands}
use Rattle.scr_promises.proofs.ViewedReferences.{holds_seen, name_there, placed_was, viewed}
use Rattle.scr_promises.proofs.HeldSteps.{held_next}
use Rattle.scr_promises.proofs.KnownLaws.{IsRegisteredWith, bound_row, hold_as}
use Rattle.scr_promises.proofs.ServiceLaws.{are_services, known_given, registered_known}
use Rattle.scr_promises.specs.Settlings.{is_settling}
use Rattle.scr_promises.proofs.Covers.{AreAccounted, HasTables, accounted_counted, registered_counted}
use Rattle.scr_promises.proofs.DueReasons.{due_says}
use Rattle.scr_promises.proofs.InstanceSteps.{IsCounted, Reaches, life_fewer, pair_fewer}
use Rattle.scr_promises.proofs.LifeSteps.{InOrder, activates_fewer, deactivates_fewer, destroys_fewer, modifies_fewer}
use Rattle.scr_promises.proofs.PairMoves.{HasOwnNames, Moves, begins, binds_fewer, tells_fewer, told_of, unbinds_fewer}
use Rattle.scr_promises.proofs.Potentials.{instance_left}
use Rattle.scr_promises.proofs.Tellings.{touches, touching}
use Rattle.scr_world.specs.Dues.{names_of}
use Rattle.scr_world.specs.Legal.{IsLegal}
use Rattle.scr_world.specs.Lists.{world_of}
use Rattle.scr_world.specs.Steps.{History}
use Rattle.scr_world.specs.Views.{reference_view, references_in, view_as}
use Rattle.scr_world.specs.Worlds.{all_instances}
use Rattle.scr_world.specs.declared.instance.Instance.{Instance}
use Rattle.scr_world.specs.declared.step.Step.{Step}
use Rattle.scr_world.specs.declared.world.World.{World}

pub last_has : (xs : List ℕ) (x : ℕ) → has (xs ++ x ∷ []) x ≡ true
last_has [] x = or_left (x == x) false (eq-eqb x x refl)
last_has (y ∷ ys) x = or_right (y == x) (has (ys ++ x ∷ []) x) (last_has ys x)

-- a turn of an instance begins
pub record IsBegun (w : World) (step : Step) (e : Bool) (i j : Instance) : Type 0 where
  pub turn : ℕ
  pub phase : Phase
  pub due : DueRef
  pub is_due : due_of (view_as phase e w i) ≡ Some due
  pub seen : IsSeen w i (view_as phase e w i)
  pub begun_so : callback_begun step ≡ Some (callback_of (names_of w i) due)
  pub is : j ≡ told_of w turn (callback_of (names_of w i) due) i

module _ (start : World) (limit : ℕ) (entry : Entry Step) (past : History) (legal : IsLegal limit (entry ∷ past)) (settles : is_settling entry.step (world_of past) ≡ true) (closed : entry.closed ≡ [])
    (reaches : Reaches start (world_of past)) (tables : HasTables start (world_of past)) (accounted : AreAccounted start (world_of past))
    (e d : Bool) (goes_on : e ≡ true → d ≡ true) (i j : Instance) (there : Contains (all_instances (world_of past)) i) (number : j.number ≡ i.number) (origin : j.origin ≡ i.origin) (own : HasOwnNames (world_of past) i)
    (one : IsBegun (world_of past) entry.step e i j) (ordered : InOrder j.callbacks) where
  abbrev w : World
  w = world_of past

  abbrev then : World
  then = world_of (entry ∷ past)

  abbrev v : InstanceView
  v = view_as one.phase e w i

  moves : Moves e w i j
  moves = begins one.turn one.phase one.due one.is_due one.is

  abbrev Less : Type 0
  Less = instance_left start d then j + 1 ≤ instance_left start e w i

  abbrev name_at : ℕ → List ℕ
  name_at k = slice_index_or (names_of w i) k []

  -- a reference of the instance by its view
  seen_at : (k : ℕ) (shown : ReferenceView) → Contains (with_places 0 v.references) (k, shown) → (q : Reference) × Contains (with_places 0 (references_in w i)) (k, q) × (shown ≡ reference_view e w i (k, q))
  seen_at k shown h = viewed (reference_view e w i) 0 (references_in w i) k shown h

  touches_it : (k t : ℕ) (q : Reference) → Contains (with_places 0 (references_in w i)) (k, q) → (bytes_eq (name_at k) q.name && (t == t)) ≡ true
  touches_it k t q h = touching (name_at k) q.name t t (name_there (references_in w i) k q h) refl

  -- ---- of a service that it holds

  held_given : (r : Reference) → Contains (references_in w i) r → (s : ℕ) → has (held_for r.name i.callbacks) s ≡ true → s ≤ w.registry.numbered
  held_given r in_r s on =
      let is = hold_as limit past legal.1 i there r in_r s on in
      let low = known_given w (are_services limit past legal.1) is.row is.known in
      let same = is.number in
      omega (arith, low, same)

  held_counted : (k : ℕ) (q : Reference) → Contains (with_places 0 (references_in w i)) (k, q) → (s : ℕ) → has (held_for q.name i.callbacks) s ≡ true → IsCounted start w i.number (k, q) s
  held_counted k q h s on = accounted_counted start limit past legal.1 tables i (k, q) s (accounted i there (k, q) h s on)

  unbinds : (m k t : ℕ) → one.due ≡ UnbindDue m k t → Less
  unbinds m k t is_it =
      let u = (due_stands v (UnbindDue m k t) (one.is_due ∙ ap Some is_it)).1 in
      let at = seen_at k u.reference u.there in
      let q = at.0 in
      let on : has (held_for q.name i.callbacks) t ≡ true = sym (holds_seen w i e (k, q) t) ∙ ap (λ (x : ReferenceView). is_held x t) (sym at.2) ∙ u.held in
      let call = ap (callback_of (names_of w i)) is_it in
      pair_fewer start limit entry past legal settles closed reaches e d goes_on i j number origin own moves (k, q) at.1 t (held_counted k q at.1 t on)
      (unbinds_fewer limit entry past legal settles closed e d goes_on i j origin (k, q) t (held_given q (placed_was 0 (references_in w i) k q at.1) t on) one.turn one.phase one.due one.is_due one.is own at.1 m k t is_it
      (ap (λ (c : Callback). touches c q.name t) call ∙ touches_it k t q at.1))

  tells : (m k t : ℕ) → one.due ≡ UpdatedDue m k t → Less
  tells m k t is_it =
      let says = due_says v (UpdatedDue m k t) (one.is_due ∙ ap Some is_it) in
      let at = seen_at k says.0 says.1 in
      let q = at.0 in
      let is_there = any_from (λ (h : HeldService). h.service == t) says.0.held says.2.one says.2.there (eq-eqb says.2.one.service t says.2.service) in
      let on : has (held_for q.name i.callbacks) t ≡ true = sym (holds_seen w i e (k, q) t) ∙ ap (λ (x : ReferenceView). is_held x t) (sym at.2) ∙ is_there in
      let call = ap (callback_of (names_of w i)) is_it in
      pair_fewer start limit entry past legal settles closed reaches e d goes_on i j number origin own moves (k, q) at.1 t (held_counted k q at.1 t on)
      (tells_fewer limit entry past legal settles closed e d goes_on i j origin (k, q) t (held_given q (placed_was 0 (references_in w i) k q at.1) t on) one.turn one.phase one.due one.is_due one.is own at.1 m k t is_it
      (ap (λ (c : Callback). touches c q.name t) call ∙ touches_it k t q at.1))

  -- ---- of one that it binds

  binds : (m k t : ℕ) → one.due ≡ BindDue m k t → Less
  binds m k t is_it =
      let b = (due_stands v (BindDue m k t) (one.is_due ∙ ap Some is_it)).1 in
      let at = seen_at k b.reference b.there in
      let q = at.0 in
      let off : has (held_for q.name i.callbacks) t ≡ false = sym (holds_seen w i e (k, q) t) ∙ ap (λ (x : ReferenceView). is_held x t) (sym at.2) ∙ b.unheld in
      let call : callback_of (names_of w i) one.due ≡ Bind (name_at k) t = ap (callback_of (names_of w i)) is_it in
      let row = registered q k at.1 t call off in
      let low : t ≤ w.registry.numbered = (let below = known_given w (are_services limit past legal.1) row.row (registered_known w (are_services limit past legal.1) row.row row.there) in let same = row.number in omega (arith, below, same)) in
      pair_fewer start limit entry past legal settles closed reaches e d goes_on i j number origin own moves (k, q) at.1 t (registered_counted start limit past legal.1 tables i.number (k, q) t row)
      (binds_fewer limit entry past legal settles closed e d goes_on i j origin (k, q) t low one.turn one.phase one.due one.is_due one.is own at.1 m k t is_it
      (ap (λ (c : Callback). touches c q.name t) call ∙ touches_it k t q at.1))
    where
      now_held : (q : Reference) (k t : ℕ) → Contains (with_places 0 (references_in (world_of past) i)) (k, q) → (c : Callback) → c ≡ Bind (name_at k) t → has (held_for q.name (i.callbacks ++ begun c ∷ [])) t ≡ true
      now_held q k t h c is_bind =
          ap (λ (x : Callback). has (held_for q.name (i.callbacks ++ begun x ∷ [])) t) is_bind
          ∙ ap (λ (ns : List ℕ). has ns t) (held_begun q.name i.callbacks [] (begun (Bind (name_at k) t)))
          ∙ ap (λ (b : Bool). has (cond b (held_for q.name i.callbacks ++ t ∷ []) (held_for q.name i.callbacks)) t) (text_same (name_at k) q.name (name_there (references_in (world_of past) i) k q h))
          ∙ last_has (held_for q.name i.callbacks) t

      registered : (q : Reference) (k : ℕ) → Contains (with_places 0 (references_in (world_of past) i)) (k, q) → (t : ℕ) → callback_of (names_of (world_of past) i) one.due ≡ Bind (name_at k) t → has (held_for q.name i.callbacks) t ≡ false
          → IsRegisteredWith (world_of past) t q.interface_name
      registered q k h t call off =
          let c = callback_of (names_of (world_of past) i) one.due in
          elim (held_next (world_of past) entry.step i q.name t (i.callbacks ++ begun c ∷ []) (gains (view_as one.phase e (world_of past) i) one.seen one.due one.is_due one.begun_so refl) (now_held q k t h c call)) [
            | inl before ↦ absurd (both_ways (has (held_for q.name i.callbacks) t) off before)
            | inr bound ↦ (
                let row = bound_row limit past legal.1 entry.step i q.name t bound in
                let same = own (bound.place, bound.reference) (k, q) bound.there h bound.named in
                subst (λ (x : ℕ × Reference). IsRegisteredWith (world_of past) t x.1.interface_name) same row)
          ]

  -- ---- of any callback

  by_due : (x : DueRef) → one.due ≡ x → Less
  by_due (CreateDue key) is_it = absurd (due_stands v (CreateDue key) (one.is_due ∙ ap Some is_it))
  by_due (BindDue m k t) is_it = binds m k t is_it
  by_due (UpdatedDue m k t) is_it = tells m k t is_it
  by_due (UnbindDue m k t) is_it = unbinds m k t is_it
  by_due (ActivateDue m) is_it = life_fewer start limit entry past legal settles closed reaches e d goes_on i j number origin own moves
      (activates_fewer limit entry past legal settles closed e i j origin one.turn one.phase one.due one.is_due one.is ordered m is_it)
  by_due (ModifiedDue m) is_it = life_fewer start limit entry past legal settles closed reaches e d goes_on i j number origin own moves
      (modifies_fewer limit entry past legal settles closed e i j origin one.turn one.phase one.due one.is_due one.is m is_it)
  by_due (DeactivateDue m) is_it = life_fewer start limit entry past legal settles closed reaches e d goes_on i j number origin own moves
      (deactivates_fewer limit entry past legal settles closed e i j origin one.turn one.phase one.due one.is_due one.is ordered m is_it)
  by_due (DestroyDue m) is_it = life_fewer start limit entry past legal settles closed reaches e d goes_on i j number origin own moves
      (destroys_fewer limit entry past legal settles closed e i j origin one.turn one.phase one.due one.is_due one.is ordered m is_it)

  pub begins_fewer : Less
  begins_fewer = by_due one.due refl
