-- What stands behind the due callback of an instance: a Bind is of a service that its reference desires, that is ready and that it doesn't hold; an
-- Unbind of one that it holds and doesn't desire, or of an instance that ends and isn't active; at Activate no reference differs; a Deactivate is that of
-- an instance that ends and that nobody holds.
use Rattle.std.proofs.Common.{◌≡◌, ℕ, List, [], ◌∷◌, ◌++◌, ap, sym, ◌∙◌, refl, subst, cond, Bool, true, false, ◌&&◌, inl, inr, ◌⊎◌, Option, Some, None}
use Rattle.std.specs.Prelude.{filter, find, filter_map, map, not, option_map, ◌==◌}
use Rattle.std.specs.List.{Contains, last_or}
use Rattle.std.specs.Option.{option_map_or}
use Rattle.std.proofs.lemmas.Bool.{and_parts, eq-eqb}
use Rattle.callback_orders.specs.declared.due.DueRef.{DueRef}
use Rattle.callback_orders.specs.declared.due.DueRef.TheVariants.{Create, Bind, Updated, Unbind, Activate, Modified, Deactivate, Destroy}
use Rattle.callback_orders.specs.declared.instance_view.HeldService.{HeldService}
use Rattle.callback_orders.specs.declared.instance_view.InstanceView.{InstanceView}
use Rattle.callback_orders.specs.declared.instance_view.Key.{Key}
use Rattle.callback_orders.specs.declared.instance_view.Phase.{Phase}
use Rattle.callback_orders.specs.declared.instance_view.Phase.TheVariants.{Making, Active, Left}
use Rattle.callback_orders.specs.declared.instance_view.ReferenceView.{ReferenceView}
use Rattle.callback_orders.specs.declared.instance_view.Wish.{Wish}
use Rattle.callback_orders.specs.Due.{bind_at, bind_or_unbind, due_in_making, due_in_phase, due_of, due_while_active, due_while_ending, first_due, let_go_at, modified_if_stale, tell_at, unbind_at}
use Rattle.callback_orders.specs.References.{differs, holds_all, is_desired, is_held, to_let_go, to_tell, to_unbind}
use Rattle.callback_orders.proofs.EachLemmas.{Each, OfSome, each-filter_map, first_some-each, last_or-each, of_some-or}
use Rattle.prop_map.specs.Words.{first_some, with_places}
use Rattle.component_state.proofs.Apart.{any_from, in_either, in_first, in_rest, kept_was, not_true}
use Rattle.scr_laws.proofs.Listed.{found_was, mapped_was, none_found, single}
use Rattle.scr_world.specs.Instances.{is_active_phase}

-- ---- what stands behind

pub record IsBindOf (v : InstanceView) (k s : ℕ) : Type 0 where
  pub going_on : v.ending ≡ false
  pub reference : ReferenceView
  pub there : Contains (with_places 0 v.references) (k, reference)
  pub wish : Wish
  pub wished : Contains reference.desired wish
  pub service : wish.service ≡ s
  pub ready : wish.ready ≡ true
  pub unheld : is_held reference s ≡ false

pub record IsUnbindOf (v : InstanceView) (k s : ℕ) : Type 0 where
  pub reference : ReferenceView
  pub there : Contains (with_places 0 v.references) (k, reference)
  pub held : is_held reference s ≡ true
  pub why : ((v.ending ≡ true) × (is_active_phase v.phase ≡ false)) ⊎ ((v.ending ≡ false) × (is_desired reference s ≡ false))

pub record IsActivateOf (v : InstanceView) : Type 0 where
  pub going_on : v.ending ≡ false
  pub same : (k : ℕ) (r : ReferenceView) → Contains (with_places 0 v.references) (k, r) → differs r ≡ false

pub record IsDeactivateOf (v : InstanceView) : Type 0 where
  pub ending : v.ending ≡ true
  pub unheld : v.unheld ≡ true

abbrev pub StandsFor : InstanceView → DueRef → Type 0
StandsFor v (Create key) = ⊥
StandsFor v (Bind i k s) = (i ≡ v.instance) × IsBindOf v k s
StandsFor v (Updated i k s) = i ≡ v.instance
StandsFor v (Unbind i k s) = (i ≡ v.instance) × IsUnbindOf v k s
StandsFor v (Activate i) = (i ≡ v.instance) × IsActivateOf v
StandsFor v (Modified i) = i ≡ v.instance
StandsFor v (Deactivate i) = (i ≡ v.instance) × IsDeactivateOf v
StandsFor v (Destroy i) = i ≡ v.instance

-- ---- lists

in_each : {X : Type 0} (P : X → Type 0) (xs : List X) → ((x : X) → Contains xs x → P x) → Each P xs
in_each P [] each = tt
in_each P (x ∷ xs) each = (each x (in_first x xs), in_each P xs (λ y h. each y (in_rest x xs y h)))

-- what is unbound is held
held_one : (r : ReferenceView) (h : HeldService) → Contains r.held h → (s : ℕ) → h.service ≡ s → is_held r s ≡ true
held_one r h here s is = any_from (λ (x : HeldService). x.service == s) r.held h here (eq-eqb h.service s is)

undesired : (r : ReferenceView) (s : ℕ) → to_unbind r ≡ Some s → (is_held r s ≡ true) × (is_desired r s ≡ false)
undesired r s is = go (holds_all r) is
  where
    Undesired : ℕ → Type 0
    Undesired n = (is_held r n ≡ true) × (is_desired r n ≡ false)

    one : (n : ℕ) → Contains (map (λ (h : HeldService). h.service) (filter (λ (h : HeldService). not (is_desired r h.service)) r.held)) n → Undesired n
    one n k =
        let was = mapped_was (λ (h : HeldService). h.service) (filter (λ (h : HeldService). not (is_desired r h.service)) r.held) n k in
        let kept = kept_was (λ (h : HeldService). not (is_desired r h.service)) r.held was.0 was.1.0 in
        (held_one r was.0 kept.0 n was.1.1, ap (is_desired r) (sym was.1.1) ∙ not_true (is_desired r was.0.service) kept.1)

    each : OfSome Undesired (last_or None (map (λ (h : HeldService). h.service) (filter (λ (h : HeldService). not (is_desired r h.service)) r.held)))
    each = last_or-each Undesired None (map (λ (h : HeldService). h.service) (filter (λ (h : HeldService). not (is_desired r h.service)) r.held)) tt
        (in_each Undesired (map (λ (h : HeldService). h.service) (filter (λ (h : HeldService). not (is_desired r h.service)) r.held)) one)

    go : (b : Bool) → cond b (last_or None (map (λ (h : HeldService). h.service) (filter (λ (h : HeldService). not (is_desired r h.service)) r.held))) None ≡ Some s → Undesired s
    go true e = subst (OfSome Undesired) e each
    go false e = cc

let_go_held : (r : ReferenceView) (s : ℕ) → to_let_go r ≡ Some s → is_held r s ≡ true
let_go_held r s is = subst (OfSome (λ n. is_held r n ≡ true)) is
    (last_or-each (λ n. is_held r n ≡ true) None (map (λ (h : HeldService). h.service) r.held) tt
    (in_each (λ n. is_held r n ≡ true) (map (λ (h : HeldService). h.service) r.held) (λ n k. let was = mapped_was (λ (h : HeldService). h.service) r.held n k in held_one r was.0 was.1.0 n was.1.1)))

module _ (v : InstanceView) where
  abbrev Behind : Option DueRef → Type 0
  Behind o = OfSome (StandsFor v) o

  chosen_one : (b : Bool) (x y : Option DueRef) → (b ≡ true → Behind x) → Behind y → Behind (cond b x y)
  chosen_one true x y one other = one refl
  chosen_one false x y one other = other

  -- ---- one reference

  binds : v.ending ≡ false → (r : ℕ × ReferenceView) → Contains (with_places 0 v.references) r → Behind (bind_at v.instance r)
  binds off r h = go (find (λ (w : Wish). w.ready && not (is_held r.1 w.service)) r.1.desired) refl
    where
      go : (o : Option Wish) → find (λ (w : Wish). w.ready && not (is_held r.1 w.service)) r.1.desired ≡ o → Behind (option_map (λ s. Bind v.instance r.0 s) (option_map (λ (w : Wish). w.service) o))
      go None is = tt
      go (Some w) is =
          let found = found_was (λ (x : Wish). x.ready && not (is_held r.1 x.service)) r.1.desired w is in
          let both = and_parts w.ready (not (is_held r.1 w.service)) found.1 in
          (refl, record { going_on = off; reference = r.1; there = h; wish = w; wished = found.0; service = refl; ready = both.0; unheld = not_true (is_held r.1 w.service) both.1 })

  unbinds : v.ending ≡ false → (r : ℕ × ReferenceView) → Contains (with_places 0 v.references) r → Behind (unbind_at v.instance r)
  unbinds off r h = go (to_unbind r.1) refl
    where
      go : (o : Option ℕ) → to_unbind r.1 ≡ o → Behind (option_map (λ s. Unbind v.instance r.0 s) o)
      go None is = tt
      go (Some s) is = let both = undesired r.1 s is in (refl, record { reference = r.1; there = h; held = both.0; why = inr (off, both.1) })

  lets_go : v.ending ≡ true → is_active_phase v.phase ≡ false → (r : ℕ × ReferenceView) → Contains (with_places 0 v.references) r → Behind (let_go_at v.instance r)
  lets_go on off r h = go (to_let_go r.1) refl
    where
      go : (o : Option ℕ) → to_let_go r.1 ≡ o → Behind (option_map (λ s. Unbind v.instance r.0 s) o)
      go None is = tt
      go (Some s) is = (refl, record { reference = r.1; there = h; held = let_go_held r.1 s is; why = inl (on, off) })

  tells : (r : ℕ × ReferenceView) → Behind (tell_at v.instance r)
  tells r = go (to_tell r.1)
    where
      go : (o : Option ℕ) → Behind (option_map (λ s. Updated v.instance r.0 s) o)
      go None = tt
      go (Some s) = refl

  -- ---- by phase

  in_making : v.ending ≡ false → Behind (due_in_making v.instance v.references)
  in_making off = go (find (λ (r : ℕ × ReferenceView). differs r.1) (with_places 0 v.references)) refl
    where
      go : (o : Option (ℕ × ReferenceView)) → find (λ (r : ℕ × ReferenceView). differs r.1) (with_places 0 v.references) ≡ o → Behind (option_map_or (bind_or_unbind v.instance) o (Some (Activate v.instance)))
      go None is = (refl, record { going_on = off; same = λ k r h. none_found (λ (x : ℕ × ReferenceView). differs x.1) (with_places 0 v.references) (k, r) is h })
      go (Some r) is = let found = found_was (λ (x : ℕ × ReferenceView). differs x.1) (with_places 0 v.references) r is in
          of_some-or (StandsFor v) (bind_at v.instance r) (unbind_at v.instance r) (binds off r found.0) (unbinds off r found.0)

  mapped_each : (f : ℕ × ReferenceView → Option DueRef) → ((r : ℕ × ReferenceView) → Contains (with_places 0 v.references) r → Behind (f r)) → Each Behind (map f (with_places 0 v.references))
  mapped_each f each = in_each Behind (map f (with_places 0 v.references)) (λ o h. let was = mapped_was f (with_places 0 v.references) o h in subst Behind was.1.1 (each was.0 was.1.0))

  while_active : v.ending ≡ false → Behind (due_while_active v)
  while_active off = first_some-each (StandsFor v)
      (map (bind_at v.instance) (with_places 0 v.references) ++ map (unbind_at v.instance) (with_places 0 v.references) ++ map (tell_at v.instance) (with_places 0 v.references) ++ modified_if_stale v ∷ [])
      (in_each Behind _ (λ o h. last o (in_either (map (bind_at v.instance) (with_places 0 v.references) ++ map (unbind_at v.instance) (with_places 0 v.references) ++ map (tell_at v.instance) (with_places 0 v.references)) (modified_if_stale v ∷ []) o h)))
    where
      of_map : (f : ℕ × ReferenceView → Option DueRef) → ((r : ℕ × ReferenceView) → Contains (with_places 0 v.references) r → Behind (f r)) → (o : Option DueRef) → Contains (map f (with_places 0 v.references)) o → Behind o
      of_map f each o h = let was = mapped_was f (with_places 0 v.references) o h in subst Behind was.1.1 (each was.0 was.1.0)

      one : (o : Option DueRef) → Contains (map (bind_at v.instance) (with_places 0 v.references)) o ⊎ Contains (map (unbind_at v.instance) (with_places 0 v.references)) o → Behind o
      one o (inl h) = of_map (bind_at v.instance) (binds off) o h
      one o (inr h) = of_map (unbind_at v.instance) (unbinds off) o h

      two : (o : Option DueRef) → Contains (map (bind_at v.instance) (with_places 0 v.references) ++ map (unbind_at v.instance) (with_places 0 v.references)) o ⊎ Contains (map (tell_at v.instance) (with_places 0 v.references)) o → Behind o
      two o (inl h) = one o (in_either (map (bind_at v.instance) (with_places 0 v.references)) (map (unbind_at v.instance) (with_places 0 v.references)) o h)
      two o (inr h) = of_map (tell_at v.instance) (λ r k. tells r) o h

      stale : (b : Bool) → Behind (cond b (Some (Modified v.instance)) None)
      stale true = refl
      stale false = tt

      last : (o : Option DueRef) → Contains (map (bind_at v.instance) (with_places 0 v.references) ++ map (unbind_at v.instance) (with_places 0 v.references) ++ map (tell_at v.instance) (with_places 0 v.references)) o ⊎ Contains (modified_if_stale v ∷ []) o → Behind o
      last o (inl h) = two o (in_either (map (bind_at v.instance) (with_places 0 v.references) ++ map (unbind_at v.instance) (with_places 0 v.references)) (map (tell_at v.instance) (with_places 0 v.references)) o h)
      last o (inr h) = subst Behind (single (modified_if_stale v) o h) (stale v.stale)

  leaving : v.ending ≡ true → is_active_phase v.phase ≡ false → Behind (last_or (Some (Destroy v.instance)) (filter_map (let_go_at v.instance) (with_places 0 v.references)))
  leaving on off = last_or-each (StandsFor v) (Some (Destroy v.instance)) (filter_map (let_go_at v.instance) (with_places 0 v.references)) refl
      (each-filter_map (λ (r : ℕ × ReferenceView). Contains (with_places 0 v.references) r) (StandsFor v) (let_go_at v.instance) (with_places 0 v.references) (in_each (λ (r : ℕ × ReferenceView). Contains (with_places 0 v.references) r) (with_places 0 v.references) (λ r h. h))
      (λ r h. lets_go on off r h))

  while_ending : v.ending ≡ true → (phase : Phase) → v.phase ≡ phase → Behind (due_while_ending v phase)
  while_ending on Active is = chosen_one (v.unheld && v.drained) (Some (Deactivate v.instance)) None (λ e. (refl, record { ending = on; unheld = (and_parts v.unheld v.drained e).0 })) tt
  while_ending on Making is = leaving on (ap is_active_phase is)
  while_ending on Left is = leaving on (ap is_active_phase is)

  going : v.ending ≡ false → (phase : Phase) → Behind (due_in_phase v phase)
  going off Making = in_making off
  going off Active = while_active off
  going off Left = tt

  behind_due : (o e : Bool) → v.ending ≡ e → Behind (cond o None (cond e (due_while_ending v v.phase) (due_in_phase v v.phase)))
  behind_due true e is = tt
  behind_due false true is = while_ending is v.phase refl
  behind_due false false is = going is v.phase

  ended_so : (d : DueRef) (o : Bool) (x : Option DueRef) → cond o None x ≡ Some d → o ≡ false
  ended_so d true x is = cc
  ended_so d false x is = refl

  -- nothing is due while a turn is under way
  pub due_ended : (d : DueRef) → due_of v ≡ Some d → v.outstanding ≡ false
  due_ended d is = ended_so d v.outstanding (cond v.ending (due_while_ending v v.phase) (due_in_phase v v.phase)) is

  pub due_stands : (d : DueRef) → due_of v ≡ Some d → StandsFor v d
  due_stands d is = subst Behind is (behind_due v.outstanding v.ending refl)

-- ---- the first due callback is that of a view, or the Create of a missing key

first_in : (os : List (Option DueRef)) (d : DueRef) → first_some os ≡ Some d → Contains os (Some d)
first_in [] d is = cc
first_in (None ∷ os) d is = in_rest None os (Some d) (first_in os d is)
first_in (Some e ∷ os) d is = subst (λ (o : Option DueRef). Contains (Some e ∷ os) o) is (in_first (Some e) os)

pub first_is : (views : List InstanceView) (keys : List Key) (d : DueRef) → first_due views keys ≡ Some d
    → ((v : InstanceView) × Contains views v × (due_of v ≡ Some d)) ⊎ ((key : Key) × Contains keys key × (d ≡ Create key))
first_is views keys d is = elim (in_either (map due_of views) (map (λ key. Some (Create key)) keys) (Some d) (first_in (map due_of views ++ map (λ key. Some (Create key)) keys) d is)) [
  | inl one ↦ (let was = mapped_was due_of views (Some d) one in inl (was.0, was.1.0, was.1.1))
  | inr new ↦ (
      let found = mapped_was (λ (key : Key). Some (Create key)) keys (Some d) new in
      let same : Some (Create found.0) ≡ Some d = found.1.1 in
      let here : d ≡ Create found.0 = cc in
      inr (found.0, found.1.0, here))
]
