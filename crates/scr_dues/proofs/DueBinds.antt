-- A Bind that is due is of a service that the reference at its place is to bind.
use Rattle.std.proofs.Common.{◌≡◌, ◌∙◌, ap, sym, refl, subst, cond, ℕ, ◌+◌, List, [], ◌∷◌, ◌++◌, Bool, true, false, ◌&&◌, inl, inr, Option, Some, None, map}
use Rattle.std.specs.Prelude.{⊤, find, filter_map, option_map}
use Rattle.std.specs.List.{Contains, enumerate_from, last_or}
use Rattle.std.specs.Option.{option_map_or}
use Rattle.callback_orders.specs.declared.due.DueRef.{DueRef}
use Rattle.callback_orders.specs.declared.due.DueRef.TheVariants.{Create, Bind, Updated, Unbind, Activate, Modified, Deactivate, Destroy}
use Rattle.callback_orders.specs.declared.instance_view.InstanceView.{InstanceView}
use Rattle.callback_orders.specs.declared.instance_view.Phase.{Phase}
use Rattle.callback_orders.specs.declared.instance_view.Phase.TheVariants.{Making, Active, Left}
use Rattle.callback_orders.specs.declared.instance_view.ReferenceView.{ReferenceView}
use Rattle.callback_orders.specs.Due.{bind_at, bind_or_unbind, due_in_making, due_in_phase, due_of, due_while_active, due_while_ending, let_go_at, modified_if_stale, tell_at, unbind_at}
use Rattle.callback_orders.specs.References.{differs, to_bind, to_let_go, to_tell, to_unbind}
use Rattle.callback_orders.proofs.EachLemmas.{Each, OfSome, each-append, each-filter_map, each-map, first_some-each, last_or-each, of_some-or}
use Rattle.component_state.proofs.Apart.{in_cases, in_first, in_none, in_rest}
use Rattle.prop_map.specs.Words.{with_places}
use Rattle.scr_dues.proofs.KnownPlaces.{found_was}

-- the reference at a place is to bind a service
abbrev pub IsToBind : List ReferenceView → ℕ → ℕ → Type 0
IsToBind rs place service = (r : ReferenceView) × (Contains (with_places 0 rs) (place, r) × (to_bind r ≡ Some service))

abbrev Says : List ReferenceView → DueRef → Type 0
Says rs (Create key) = ⊤
Says rs (Bind n place service) = IsToBind rs place service
Says rs (Updated n place service) = ⊤
Says rs (Unbind n place service) = ⊤
Says rs (Activate n) = ⊤
Says rs (Modified n) = ⊤
Says rs (Deactivate n) = ⊤
Says rs (Destroy n) = ⊤

itself : {X : Type 0} (xs ys : List X) → ((x : X) → Contains ys x → Contains xs x) → Each (λ x. Contains xs x) ys
itself xs [] each = tt
itself xs (y ∷ ys) each = (each y (in_first y ys), itself xs ys (λ x h. each x (in_rest y ys x h)))

module _ (n : ℕ) (rs : List ReferenceView) where
  abbrev Behind : Option DueRef → Type 0
  Behind o = OfSome (Says rs) o

  plain : (f : ℕ → DueRef) → ((s : ℕ) → Says rs (f s)) → (o : Option ℕ) → Behind (option_map f o)
  plain f each None = tt
  plain f each (Some s) = each s

  binds : (r : ℕ × ReferenceView) → Contains (with_places 0 rs) r → Behind (bind_at n r)
  binds r h = go (to_bind r.1) refl
    where
      go : (o : Option ℕ) → to_bind r.1 ≡ o → Behind (option_map (λ s. Bind n r.0 s) o)
      go None is = tt
      go (Some s) is = (r.1, (h, is))

  unbinds : (r : ℕ × ReferenceView) → Behind (unbind_at n r)
  unbinds r = plain (λ s. Unbind n r.0 s) (λ s. tt) (to_unbind r.1)

  in_making : Behind (due_in_making n rs)
  in_making = go (find (λ (r : ℕ × ReferenceView). differs r.1) (with_places 0 rs)) refl
    where
      go : (o : Option (ℕ × ReferenceView)) → find (λ (r : ℕ × ReferenceView). differs r.1) (with_places 0 rs) ≡ o → Behind (option_map_or (bind_or_unbind n) o (Some (Activate n)))
      go None is = tt
      go (Some r) is = of_some-or (Says rs) (bind_at n r) (unbind_at n r) (binds r (found_was (λ (x : ℕ × ReferenceView). differs x.1) (with_places 0 rs) r is).0) (unbinds r)

  each_of : (f : ℕ × ReferenceView → Option DueRef) → ((r : ℕ × ReferenceView) → Contains (with_places 0 rs) r → Behind (f r)) → Each Behind (map f (with_places 0 rs))
  each_of f each = each-map (λ (r : ℕ × ReferenceView). Contains (with_places 0 rs) r) Behind f (with_places 0 rs) (itself (with_places 0 rs) (with_places 0 rs) (λ r h. h)) each

  leaves : Behind (last_or (Some (Destroy n)) (filter_map (let_go_at n) (with_places 0 rs)))
  leaves = last_or-each (Says rs) (Some (Destroy n)) (filter_map (let_go_at n) (with_places 0 rs)) tt
      (each-filter_map (λ (r : ℕ × ReferenceView). Contains (with_places 0 rs) r) (Says rs) (let_go_at n) (with_places 0 rs) (itself (with_places 0 rs) (with_places 0 rs) (λ r h. h)) (λ r h. plain (λ s. Unbind n r.0 s) (λ s. tt) (to_let_go r.1)))

module _ (v : InstanceView) where
  abbrev BehindIt : Option DueRef → Type 0
  BehindIt o = Behind v.instance v.references o

  either : (b : Bool) (x y : Option DueRef) → BehindIt x → BehindIt y → BehindIt (cond b x y)
  either true x y one other = one
  either false x y one other = other

  while_active : BehindIt (due_while_active v)
  while_active =
      let n = v.instance in
      let rs = v.references in
      first_some-each (Says rs) (map (bind_at n) (with_places 0 rs) ++ map (unbind_at n) (with_places 0 rs) ++ map (tell_at n) (with_places 0 rs) ++ modified_if_stale v ∷ [])
      (each-append BehindIt (map (bind_at n) (with_places 0 rs) ++ map (unbind_at n) (with_places 0 rs) ++ map (tell_at n) (with_places 0 rs)) (modified_if_stale v ∷ [])
      (each-append BehindIt (map (bind_at n) (with_places 0 rs) ++ map (unbind_at n) (with_places 0 rs)) (map (tell_at n) (with_places 0 rs))
      (each-append BehindIt (map (bind_at n) (with_places 0 rs)) (map (unbind_at n) (with_places 0 rs)) (each_of n rs (bind_at n) (binds n rs)) (each_of n rs (unbind_at n) (λ r h. unbinds n rs r)))
      (each_of n rs (tell_at n) (λ r h. plain n rs (λ s. Updated n r.0 s) (λ s. tt) (to_tell r.1))))
      (either v.stale (Some (Modified n)) None tt tt, tt))

  while_ending : (phase : Phase) → BehindIt (due_while_ending v phase)
  while_ending Active = either (v.unheld && v.drained) (Some (Deactivate v.instance)) None tt tt
  while_ending Making = leaves v.instance v.references
  while_ending Left = leaves v.instance v.references

  going : (phase : Phase) → BehindIt (due_in_phase v phase)
  going Making = in_making v.instance v.references
  going Active = while_active
  going Left = tt

  pub due_binds : (n place service : ℕ) → due_of v ≡ Some (Bind n place service) → IsToBind v.references place service
  due_binds n place service is = subst BehindIt is
      (either v.outstanding None (cond v.ending (due_while_ending v v.phase) (due_in_phase v v.phase)) tt (either v.ending (due_while_ending v v.phase) (due_in_phase v v.phase) (while_ending v.phase) (going v.phase)))

-- ---- views with places

pub viewed : {X : Type 0} (f : ℕ × X → ReferenceView) (k : ℕ) (xs : List X) (place : ℕ) (v : ReferenceView) → Contains (enumerate_from k (map f (enumerate_from k xs))) (place, v)
    → (x : X) × (Contains (enumerate_from k xs) (place, x) × (f (place, x) ≡ v))
viewed f k [] place v h = absurd (in_none (place, v) h)
viewed {X} f k (x ∷ xs) place v h = elim (in_cases (k, f (k, x)) (enumerate_from (k + 1) (map f (enumerate_from (k + 1) xs))) (place, v) h) [
  | inl same ↦ (
      let at : k ≡ place = ap (λ (p : ℕ × ReferenceView). p.0) same in
      let is : f (k, x) ≡ v = ap (λ (p : ℕ × ReferenceView). p.1) same in
      (x, (subst (λ n. Contains ((k, x) ∷ enumerate_from (k + 1) xs) (n, x)) at (in_first (k, x) (enumerate_from (k + 1) xs)), ap (λ n. f (n, x)) (sym at) ∙ is)))
  | inr later ↦ (
      let found = viewed f (k + 1) xs place v later in
      (found.0, (in_rest (k, x) (enumerate_from (k + 1) xs) (place, found.0) found.1.0, found.1.1)))
]
