-- Why a callback is due: an Unbind of an instance that goes on is of a held service that isn't desired, where all that is desired is held; an Updated of a held one that changed; a
-- Modified where the properties changed; a Destroy of an instance that ends.
use Rattle.std.proofs.Common.{◌≡◌, ℕ, List, [], ◌∷◌, ◌++◌, ap, sym, ◌∙◌, refl, subst, cond, Bool, true, false, ◌&&◌, inl, inr, ◌⊎◌, Option, Some, None}
use Rattle.std.specs.Prelude.{filter, find, filter_map, map, not, option_map, ◌==◌, ⊤}
use Rattle.std.specs.List.{Contains, last_or}
use Rattle.std.specs.Option.{option_map_or}
use Rattle.std.proofs.lemmas.Bool.{eq-eqb}
use Rattle.callback_orders.specs.declared.due.DueRef.{DueRef}
use Rattle.callback_orders.specs.declared.due.DueRef.TheVariants.{Create, Bind, Updated, Unbind, Activate, Modified, Deactivate, Destroy}
use Rattle.callback_orders.specs.declared.instance_view.HeldService.{HeldService}
use Rattle.callback_orders.specs.declared.instance_view.InstanceView.{InstanceView}
use Rattle.callback_orders.specs.declared.instance_view.Phase.{Phase}
use Rattle.callback_orders.specs.declared.instance_view.Phase.TheVariants.{Making, Active, Left}
use Rattle.callback_orders.specs.declared.instance_view.ReferenceView.{ReferenceView}
use Rattle.callback_orders.specs.Due.{bind_at, bind_or_unbind, due_in_making, due_in_phase, due_of, due_while_active, due_while_ending, let_go_at, modified_if_stale, tell_at, unbind_at}
use Rattle.callback_orders.specs.References.{differs, holds_all, is_desired, is_held, to_bind, to_let_go, to_tell, to_unbind}
use Rattle.callback_orders.proofs.EachLemmas.{Each, OfSome, each-filter_map, first_some-each, last_or-each, of_some-or}
use Rattle.prop_map.specs.Words.{with_places}
use Rattle.component_state.proofs.Apart.{any_from, in_either, in_first, in_rest, kept_was, not_true}
use Rattle.scr_laws.proofs.Listed.{found_was, mapped_was, single}

-- ---- one reference

-- a held service that isn't desired, where all that is desired is held
pub record LetsGo (r : ReferenceView) (s : ℕ) : Type 0 where
  pub holds : holds_all r ≡ true
  pub held : is_held r s ≡ true
  pub other : is_desired r s ≡ false

-- a held service that changed
pub record IsToTell (r : ReferenceView) (s : ℕ) : Type 0 where
  pub one : HeldService
  pub there : Contains r.held one
  pub service : one.service ≡ s
  pub changed : one.changed ≡ true

last_there : (o : Option ℕ) (xs : List ℕ) (x : ℕ) → last_or o xs ≡ Some x → (o ≡ Some x) ⊎ Contains xs x
last_there o [] x is = inl is
last_there o (y ∷ ys) x is = elim (last_there (Some y) ys x is) [
  | inl same ↦ (let here : y ≡ x = cc in inr (subst (λ z. Contains (y ∷ ys) z) here (in_first y ys)))
  | inr later ↦ inr (in_rest y ys x later)
]

lets_go : (r : ReferenceView) (s : ℕ) → to_unbind r ≡ Some s → LetsGo r s
lets_go r s is = go (holds_all r) refl is
  where
    others : List HeldService
    others = filter (λ (h : HeldService). not (is_desired r h.service)) r.held

    go : (b : Bool) → holds_all r ≡ b → cond b (last_or None (map (λ (h : HeldService). h.service) others)) None ≡ Some s → LetsGo r s
    go false holds last = cc
    go true holds last = elim (last_there None (map (λ (h : HeldService). h.service) others) s last) [
      | inl none ↦ cc
      | inr there ↦ (
          let h = mapped_was (λ (x : HeldService). x.service) others s there in
          let kept = kept_was (λ (x : HeldService). not (is_desired r x.service)) r.held h.0 h.1.0 in
          record {
            holds = holds;
            held = any_from (λ (x : HeldService). x.service == s) r.held h.0 kept.0 (eq-eqb h.0.service s h.1.1);
            other = ap (is_desired r) (sym h.1.1) ∙ not_true (is_desired r h.0.service) kept.1;
          })
    ]

is_to_tell : (r : ReferenceView) (s : ℕ) → to_tell r ≡ Some s → IsToTell r s
is_to_tell r s is = go r.told is
  where
    by_find : (o : Option HeldService) → find (λ (h : HeldService). h.changed) r.held ≡ o → option_map (λ (h : HeldService). h.service) o ≡ Some s → IsToTell r s
    by_find None here e = cc
    by_find (Some h) here e = let found = found_was (λ (x : HeldService). x.changed) r.held h here in record { one = h; there = found.0; service = (let same : h.service ≡ s = cc in same); changed = found.1 }

    go : (b : Bool) → cond b (option_map (λ (h : HeldService). h.service) (find (λ (h : HeldService). h.changed) r.held)) None ≡ Some s → IsToTell r s
    go true e = by_find (find (λ (h : HeldService). h.changed) r.held) refl e
    go false e = cc

-- ---- a view

abbrev pub At : InstanceView → ℕ → (ReferenceView → Type 0) → Type 0
At v k P = (r : ReferenceView) × Contains (with_places 0 v.references) (k, r) × P r

abbrev pub Says : InstanceView → DueRef → Type 0
Says v (Create key) = ⊤
Says v (Bind n k s) = ⊤
Says v (Updated n k s) = At v k (λ r. IsToTell r s)
Says v (Unbind n k s) = (v.ending ≡ true) ⊎ At v k (λ r. LetsGo r s)
Says v (Activate n) = ⊤
Says v (Modified n) = v.stale ≡ true
Says v (Deactivate n) = ⊤
Says v (Destroy n) = v.ending ≡ true

in_each : {X : Type 0} (P : X → Type 0) (xs : List X) → ((x : X) → Contains xs x → P x) → Each P xs
in_each P [] each = tt
in_each P (x ∷ xs) each = (each x (in_first x xs), in_each P xs (λ y h. each y (in_rest x xs y h)))

module _ (v : InstanceView) where
  abbrev Behind : Option DueRef → Type 0
  Behind o = OfSome (Says v) o

  binds : (r : ℕ × ReferenceView) → Behind (bind_at v.instance r)
  binds r = go (to_bind r.1)
    where
      go : (o : Option ℕ) → Behind (option_map (λ s. Bind v.instance r.0 s) o)
      go None = tt
      go (Some s) = tt

  unbinds : (r : ℕ × ReferenceView) → Contains (with_places 0 v.references) r → Behind (unbind_at v.instance r)
  unbinds r h = go (to_unbind r.1) refl
    where
      go : (o : Option ℕ) → to_unbind r.1 ≡ o → Behind (option_map (λ s. Unbind v.instance r.0 s) o)
      go None is = tt
      go (Some s) is = inr (r.1, h, lets_go r.1 s is)

  tells : (r : ℕ × ReferenceView) → Contains (with_places 0 v.references) r → Behind (tell_at v.instance r)
  tells r h = go (to_tell r.1) refl
    where
      go : (o : Option ℕ) → to_tell r.1 ≡ o → Behind (option_map (λ s. Updated v.instance r.0 s) o)
      go None is = tt
      go (Some s) is = (r.1, h, is_to_tell r.1 s is)

  lets : v.ending ≡ true → (r : ℕ × ReferenceView) → Behind (let_go_at v.instance r)
  lets on r = go (to_let_go r.1)
    where
      go : (o : Option ℕ) → Behind (option_map (λ s. Unbind v.instance r.0 s) o)
      go None = tt
      go (Some s) = inl on

  in_making : Behind (due_in_making v.instance v.references)
  in_making = go (find (λ (r : ℕ × ReferenceView). differs r.1) (with_places 0 v.references)) refl
    where
      go : (o : Option (ℕ × ReferenceView)) → find (λ (r : ℕ × ReferenceView). differs r.1) (with_places 0 v.references) ≡ o → Behind (option_map_or (bind_or_unbind v.instance) o (Some (Activate v.instance)))
      go None is = tt
      go (Some r) is = let found = found_was (λ (x : ℕ × ReferenceView). differs x.1) (with_places 0 v.references) r is in
          of_some-or (Says v) (bind_at v.instance r) (unbind_at v.instance r) (binds r) (unbinds r found.0)

  while_active : Behind (due_while_active v)
  while_active = first_some-each (Says v)
      (map (bind_at v.instance) (with_places 0 v.references) ++ map (unbind_at v.instance) (with_places 0 v.references) ++ map (tell_at v.instance) (with_places 0 v.references) ++ modified_if_stale v ∷ [])
      (in_each Behind _ (λ o h. last o (in_either (map (bind_at v.instance) (with_places 0 v.references) ++ map (unbind_at v.instance) (with_places 0 v.references) ++ map (tell_at v.instance) (with_places 0 v.references)) (modified_if_stale v ∷ []) o h)))
    where
      of_map : (f : ℕ × ReferenceView → Option DueRef) → ((r : ℕ × ReferenceView) → Contains (with_places 0 v.references) r → Behind (f r)) → (o : Option DueRef) → Contains (map f (with_places 0 v.references)) o → Behind o
      of_map f each o h = let was = mapped_was f (with_places 0 v.references) o h in subst Behind was.1.1 (each was.0 was.1.0)

      one : (o : Option DueRef) → Contains (map (bind_at v.instance) (with_places 0 v.references)) o ⊎ Contains (map (unbind_at v.instance) (with_places 0 v.references)) o → Behind o
      one o (inl h) = of_map (bind_at v.instance) (λ r k. binds r) o h
      one o (inr h) = of_map (unbind_at v.instance) unbinds o h

      two : (o : Option DueRef) → Contains (map (bind_at v.instance) (with_places 0 v.references) ++ map (unbind_at v.instance) (with_places 0 v.references)) o ⊎ Contains (map (tell_at v.instance) (with_places 0 v.references)) o → Behind o
      two o (inl h) = one o (in_either (map (bind_at v.instance) (with_places 0 v.references)) (map (unbind_at v.instance) (with_places 0 v.references)) o h)
      two o (inr h) = of_map (tell_at v.instance) tells o h

      stale : (b : Bool) → v.stale ≡ b → Behind (cond b (Some (Modified v.instance)) None)
      stale true is = is
      stale false is = tt

      last : (o : Option DueRef) → Contains (map (bind_at v.instance) (with_places 0 v.references) ++ map (unbind_at v.instance) (with_places 0 v.references) ++ map (tell_at v.instance) (with_places 0 v.references)) o ⊎ Contains (modified_if_stale v ∷ []) o → Behind o
      last o (inl h) = two o (in_either (map (bind_at v.instance) (with_places 0 v.references) ++ map (unbind_at v.instance) (with_places 0 v.references)) (map (tell_at v.instance) (with_places 0 v.references)) o h)
      last o (inr h) = subst Behind (single (modified_if_stale v) o h) (stale v.stale refl)

  chosen_one : (b : Bool) (x y : Option DueRef) → Behind x → Behind y → Behind (cond b x y)
  chosen_one true x y one other = one
  chosen_one false x y one other = other

  leaves : v.ending ≡ true → Behind (last_or (Some (Destroy v.instance)) (filter_map (let_go_at v.instance) (with_places 0 v.references)))
  leaves on = last_or-each (Says v) (Some (Destroy v.instance)) (filter_map (let_go_at v.instance) (with_places 0 v.references)) on
      (each-filter_map (λ (r : ℕ × ReferenceView). Contains (with_places 0 v.references) r) (Says v) (let_go_at v.instance) (with_places 0 v.references) (in_each (λ (r : ℕ × ReferenceView). Contains (with_places 0 v.references) r) (with_places 0 v.references) (λ r h. h))
      (λ r h. lets on r))

  while_ending : v.ending ≡ true → (phase : Phase) → Behind (due_while_ending v phase)
  while_ending on Active = chosen_one (v.unheld && v.drained) (Some (Deactivate v.instance)) None tt tt
  while_ending on Making = leaves on
  while_ending on Left = leaves on

  going : (phase : Phase) → Behind (due_in_phase v phase)
  going Making = in_making
  going Active = while_active
  going Left = tt

  behind_due : (o e : Bool) → v.ending ≡ e → Behind (cond o None (cond e (due_while_ending v v.phase) (due_in_phase v v.phase)))
  behind_due true e is = tt
  behind_due false true is = while_ending is v.phase
  behind_due false false is = going v.phase

  pub due_says : (d : DueRef) → due_of v ≡ Some d → Says v d
  due_says d is = subst Behind is (behind_due v.outstanding v.ending refl)
