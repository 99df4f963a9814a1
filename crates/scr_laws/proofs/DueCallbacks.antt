-- The due callback of an instance is its own, and no Create; the first due callback is one of an instance, or the Create of a wanted key.
use Rattle.std.proofs.Common.{◌≡◌, ℕ, List, [], ◌∷◌, ◌++◌, sym, refl, subst, cond, Bool, true, false, ◌&&◌, inl, inr, ◌⊎◌, Option, Some, None}
use Rattle.std.specs.Prelude.{⊤, map, find, filter_map, option_map}
use Rattle.std.specs.List.{Contains, last_or, cons_option}
use Rattle.std.specs.Option.{option_or, option_map_or}
use Rattle.callback_orders.specs.declared.due.DueRef.{DueRef}
use Rattle.callback_orders.specs.declared.due.DueRef.TheVariants.{Create, Bind, Updated, Unbind, Activate, Modified, Deactivate, Destroy}
use Rattle.callback_orders.specs.declared.instance_view.InstanceView.{InstanceView}
use Rattle.callback_orders.specs.declared.instance_view.Key.{Key}
use Rattle.callback_orders.specs.declared.instance_view.Phase.{Phase}
use Rattle.callback_orders.specs.declared.instance_view.Phase.TheVariants.{Making, Active, Left}
use Rattle.callback_orders.specs.declared.instance_view.ReferenceView.{ReferenceView}
use Rattle.callback_orders.specs.Due.{bind_at, unbind_at, tell_at, let_go_at, bind_or_unbind, due_in_making, modified_if_stale, due_while_active, due_while_ending, due_in_phase, due_of, first_due}
use Rattle.callback_orders.specs.References.{differs, to_bind, to_unbind, to_tell, to_let_go}
use Rattle.callback_orders.proofs.FirstSome.{first_of_four, first_some-cons}
use Rattle.prop_map.specs.Words.{first_some, with_places}
use Rattle.component_state.proofs.Apart.{in_either, in_first, in_rest}
use Rattle.scr_laws.proofs.InstanceLemmas.{mapped_was}

-- a due callback of the instance of a number
abbrev pub IsFor : ℕ → DueRef → Type 0
IsFor n (Create key) = ⊥
IsFor n (Bind i r s) = i ≡ n
IsFor n (Updated i r s) = i ≡ n
IsFor n (Unbind i r s) = i ≡ n
IsFor n (Activate i) = i ≡ n
IsFor n (Modified i) = i ≡ n
IsFor n (Deactivate i) = i ≡ n
IsFor n (Destroy i) = i ≡ n

abbrev OnlyFor : ℕ → Option DueRef → Type 0
OnlyFor n None = ⊤
OnlyFor n (Some d) = IsFor n d

module _ (n : ℕ) where
  one_each : {X : Type 0} (f : X → DueRef) → ((x : X) → IsFor n (f x)) → (o : Option X) → OnlyFor n (option_map f o)
  one_each f each None = tt
  one_each f each (Some x) = each x

  either_one : (a b : Option DueRef) → OnlyFor n a → OnlyFor n b → OnlyFor n (option_or a b)
  either_one None b one other = other
  either_one (Some d) b one other = one

  chosen_one : (b : Bool) (x y : Option DueRef) → OnlyFor n x → OnlyFor n y → OnlyFor n (cond b x y)
  chosen_one true x y one other = one
  chosen_one false x y one other = other

  first_one : {X : Type 0} (f : X → Option DueRef) → ((x : X) → OnlyFor n (f x)) → (xs : List X) → OnlyFor n (first_some (map f xs))
  first_one f each [] = tt
  first_one f each (x ∷ xs) = subst (OnlyFor n) (sym (first_some-cons (f x) (map f xs))) (either_one (f x) (first_some (map f xs)) (each x) (first_one f each xs))

  last_one : {X : Type 0} (f : X → Option DueRef) → ((x : X) → OnlyFor n (f x)) → (o : Option DueRef) → OnlyFor n o → (xs : List X) → OnlyFor n (last_or o (filter_map f xs))
  last_one f each o here [] = here
  last_one f each o here (x ∷ xs) = go (f x) (each x) (λ q k. last_one f each q k xs)
    where
      go : (p : Option DueRef) → OnlyFor n p → ((q : Option DueRef) → OnlyFor n q → OnlyFor n (last_or q (filter_map f xs))) → OnlyFor n (last_or o (cons_option p (filter_map f xs)))
      go None first rest = rest o here
      go (Some d) first rest = rest (Some d) first

  binds : (r : ℕ × ReferenceView) → OnlyFor n (bind_at n r)
  binds r = one_each (λ s. Bind n r.0 s) (λ s. refl) (to_bind r.1)

  unbinds : (r : ℕ × ReferenceView) → OnlyFor n (unbind_at n r)
  unbinds r = one_each (λ s. Unbind n r.0 s) (λ s. refl) (to_unbind r.1)

  tells : (r : ℕ × ReferenceView) → OnlyFor n (tell_at n r)
  tells r = one_each (λ s. Updated n r.0 s) (λ s. refl) (to_tell r.1)

  lets_go : (r : ℕ × ReferenceView) → OnlyFor n (let_go_at n r)
  lets_go r = one_each (λ s. Unbind n r.0 s) (λ s. refl) (to_let_go r.1)

  in_making : (rs : List ReferenceView) → OnlyFor n (due_in_making n rs)
  in_making rs = go (find (λ (r : ℕ × ReferenceView). differs r.1) (with_places 0 rs))
    where
      go : (o : Option (ℕ × ReferenceView)) → OnlyFor n (option_map_or (bind_or_unbind n) o (Some (Activate n)))
      go None = refl
      go (Some r) = either_one (bind_at n r) (unbind_at n r) (binds r) (unbinds r)

while_active : (v : InstanceView) → OnlyFor v.instance (due_while_active v)
while_active v =
    let n = v.instance in
    let rs = with_places 0 v.references in
    subst (OnlyFor n) (sym (first_of_four (map (bind_at n) rs) (map (unbind_at n) rs) (map (tell_at n) rs) (modified_if_stale v)))
    (either_one n _ (modified_if_stale v)
    (either_one n _ (first_some (map (tell_at n) rs))
    (either_one n (first_some (map (bind_at n) rs)) (first_some (map (unbind_at n) rs)) (first_one n (bind_at n) (binds n) rs) (first_one n (unbind_at n) (unbinds n) rs))
    (first_one n (tell_at n) (tells n) rs))
    (chosen_one n v.stale (Some (Modified n)) None refl tt))

while_ending : (v : InstanceView) (phase : Phase) → OnlyFor v.instance (due_while_ending v phase)
while_ending v Active = chosen_one v.instance (v.unheld && v.drained) (Some (Deactivate v.instance)) None refl tt
while_ending v Making = last_one v.instance (let_go_at v.instance) (lets_go v.instance) (Some (Destroy v.instance)) refl (with_places 0 v.references)
while_ending v Left = last_one v.instance (let_go_at v.instance) (lets_go v.instance) (Some (Destroy v.instance)) refl (with_places 0 v.references)

going_on : (v : InstanceView) (phase : Phase) → OnlyFor v.instance (due_in_phase v phase)
going_on v Making = in_making v.instance v.references
going_on v Active = while_active v
going_on v Left = tt

due_for : (v : InstanceView) → OnlyFor v.instance (due_of v)
due_for v =
    chosen_one v.instance v.outstanding None _ tt
    (chosen_one v.instance v.ending (due_while_ending v v.phase) (due_in_phase v v.phase) (while_ending v v.phase) (going_on v v.phase))

-- what is due by an instance's view is its own
pub due_is_own : (v : InstanceView) (d : DueRef) → due_of v ≡ Some d → IsFor v.instance d
due_is_own v d is = subst (OnlyFor v.instance) is (due_for v)

first_in : (os : List (Option DueRef)) (d : DueRef) → first_some os ≡ Some d → Contains os (Some d)
first_in [] d is = cc
first_in (None ∷ os) d is = in_rest None os (Some d) (first_in os d is)
first_in (Some e ∷ os) d is = subst (λ (o : Option DueRef). Contains (Some e ∷ os) o) is (in_first (Some e) os)

-- the first due callback is that of a view, or the Create of a wanted key
pub first_is : (views : List InstanceView) (keys : List Key) (d : DueRef) → first_due views keys ≡ Some d
    → ((v : InstanceView) × Contains views v × (due_of v ≡ Some d)) ⊎ ((key : Key) × Contains keys key × (d ≡ Create key))
first_is views keys d is =
    elim (in_either (map due_of views) (map (λ key. Some (Create key)) keys) (Some d) (first_in (map due_of views ++ map (λ key. Some (Create key)) keys) d is)) [
      | inl one ↦ inl (mapped_was due_of views (Some d) one)
      | inr new ↦ (
          let found = mapped_was (λ (key : Key). Some (Create key)) keys (Some d) new in
          let same : Some (Create found.0) ≡ Some d = found.2 in
          let here : d ≡ Create found.0 = cc in
          inr (found.0, found.1, here))
    ]
