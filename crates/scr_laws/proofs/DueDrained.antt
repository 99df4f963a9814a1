-- A Deactivate is due where the drain of its instance is posted.
use Rattle.std.proofs.Common.{◌≡◌, ℕ, List, [], ◌∷◌, ◌++◌, refl, subst, cond, Bool, true, false, ◌&&◌, Option, Some, None}
use Rattle.std.specs.Prelude.{⊤, find, map, filter_map, option_map}
use Rattle.std.specs.List.{last_or}
use Rattle.std.proofs.lemmas.Bool.{and_parts}
use Rattle.callback_orders.specs.declared.due.DueRef.{DueRef}
use Rattle.callback_orders.specs.declared.due.DueRef.TheVariants.{Create, Bind, Updated, Unbind, Activate, Modified, Deactivate, Destroy}
use Rattle.callback_orders.specs.declared.instance_view.InstanceView.{InstanceView}
use Rattle.callback_orders.specs.declared.instance_view.Phase.{Phase}
use Rattle.callback_orders.specs.declared.instance_view.Phase.TheVariants.{Making, Active, Left}
use Rattle.callback_orders.specs.declared.instance_view.ReferenceView.{ReferenceView}
use Rattle.callback_orders.specs.Due.{bind_at, unbind_at, tell_at, let_go_at, bind_or_unbind, due_in_making, modified_if_stale, due_while_active, due_while_ending, due_in_phase, due_of}
use Rattle.callback_orders.specs.References.{differs, to_bind, to_unbind, to_tell, to_let_go}
use Rattle.callback_orders.proofs.EachLemmas.{Each, OfSome, each-append, each-filter_map, each-map, find-each, first_some-each, last_or-each, of_some-map_or, of_some-or}
use Rattle.prop_map.specs.Words.{with_places}

abbrev AfterDrain : InstanceView → DueRef → Type 0
AfterDrain v (Deactivate i) = v.drained ≡ true
AfterDrain v (Create key) = ⊤
AfterDrain v (Bind i k s) = ⊤
AfterDrain v (Updated i k s) = ⊤
AfterDrain v (Unbind i k s) = ⊤
AfterDrain v (Activate i) = ⊤
AfterDrain v (Modified i) = ⊤
AfterDrain v (Destroy i) = ⊤

module _ (v : InstanceView) where
  abbrev P : DueRef → Type 0
  P d = AfterDrain v d

  mapped : {X : Type 0} (f : X → DueRef) → ((x : X) → P (f x)) → (o : Option X) → OfSome P (option_map f o)
  mapped f each None = tt
  mapped f each (Some x) = each x

  binds : (i : ℕ) (r : ℕ × ReferenceView) → OfSome P (bind_at i r)
  binds i r = mapped (λ s. Bind i r.0 s) (λ s. tt) (to_bind r.1)

  unbinds : (i : ℕ) (r : ℕ × ReferenceView) → OfSome P (unbind_at i r)
  unbinds i r = mapped (λ s. Unbind i r.0 s) (λ s. tt) (to_unbind r.1)

  tells : (i : ℕ) (r : ℕ × ReferenceView) → OfSome P (tell_at i r)
  tells i r = mapped (λ s. Updated i r.0 s) (λ s. tt) (to_tell r.1)

  lets_go : (i : ℕ) (r : ℕ × ReferenceView) → OfSome P (let_go_at i r)
  lets_go i r = mapped (λ s. Unbind i r.0 s) (λ s. tt) (to_let_go r.1)

  abbrev Any : (ℕ × ReferenceView) → Type 0
  Any r = ⊤

  all_any : (rs : List (ℕ × ReferenceView)) → Each Any rs
  all_any [] = tt
  all_any (r ∷ rs) = (tt, all_any rs)

  if_some : (b : Bool) (d : DueRef) → (b ≡ true → P d) → OfSome P (cond b (Some d) None)
  if_some true d one = one refl
  if_some false d one = tt

  making_due : (i : ℕ) (rs : List ReferenceView) → OfSome P (due_in_making i rs)
  making_due i rs = of_some-map_or Any P (bind_or_unbind i) (find (λ (r : ℕ × ReferenceView). differs r.1) (with_places 0 rs)) (Some (Activate i)) (find-each Any (λ (r : ℕ × ReferenceView). differs r.1) (with_places 0 rs) (all_any (with_places 0 rs)))
      (λ r a. of_some-or P (bind_at i r) (unbind_at i r) (binds i r) (unbinds i r)) tt

  active_due : OfSome P (due_while_active v)
  active_due =
      let rs = with_places 0 v.references in
      let first = map (bind_at v.instance) rs in
      let second = map (unbind_at v.instance) rs in
      let third = map (tell_at v.instance) rs in
      first_some-each P (first ++ second ++ third ++ modified_if_stale v ∷ [])
      (each-append (OfSome P) (first ++ second ++ third) (modified_if_stale v ∷ [])
      (each-append (OfSome P) (first ++ second) third
      (each-append (OfSome P) first second
      (each-map Any (OfSome P) (bind_at v.instance) rs (all_any rs) (λ r a. binds v.instance r))
      (each-map Any (OfSome P) (unbind_at v.instance) rs (all_any rs) (λ r a. unbinds v.instance r)))
      (each-map Any (OfSome P) (tell_at v.instance) rs (all_any rs) (λ r a. tells v.instance r)))
      (if_some v.stale (Modified v.instance) (λ e. tt), tt))

  leaving_due : OfSome P (last_or (Some (Destroy v.instance)) (filter_map (let_go_at v.instance) (with_places 0 v.references)))
  leaving_due = last_or-each P (Some (Destroy v.instance)) (filter_map (let_go_at v.instance) (with_places 0 v.references)) tt
      (each-filter_map Any P (let_go_at v.instance) (with_places 0 v.references) (all_any (with_places 0 v.references)) (λ r a. lets_go v.instance r))

  ending_due : (phase : Phase) → OfSome P (due_while_ending v phase)
  ending_due Active = if_some (v.unheld && v.drained) (Deactivate v.instance) (λ e. (and_parts v.unheld v.drained e).1)
  ending_due Making = leaving_due
  ending_due Left = leaving_due

  phase_due : (phase : Phase) → OfSome P (due_in_phase v phase)
  phase_due Making = making_due v.instance v.references
  phase_due Active = active_due
  phase_due Left = tt

  any_due : OfSome P (due_of v)
  any_due = go v.outstanding v.ending
    where
      go : (a b : Bool) → OfSome P (cond a None (cond b (due_while_ending v v.phase) (due_in_phase v v.phase)))
      go true b = tt
      go false true = ending_due v.phase
      go false false = phase_due v.phase

  pub due_drained : (n : ℕ) → due_of v ≡ Some (Deactivate n) → v.drained ≡ true
  due_drained n is = subst (OfSome P) is any_due
