-- An Unbind of an active instance is due only where its reference holds all that it desires, and of a service that it doesn't desire; an Activate only where every reference does.
use Rattle.std.proofs.Common.{◌≡◌, ℕ, List, [], ◌∷◌, ◌++◌, ap, sym, ◌∙◌, refl, subst, cond, Bool, true, false, ◌||◌, inl, inr, ◌⊎◌, Option, Some, None}
use Rattle.std.specs.Prelude.{filter, map, not, option_map}
use Rattle.std.specs.List.{Contains, last_or}
use Rattle.std.proofs.lemmas.Bool.{both_ways, cond-false}
use Rattle.callback_orders.specs.declared.due.DueRef.TheVariants.{Bind, Updated, Unbind, Modified}
use Rattle.callback_orders.specs.declared.instance_view.HeldService.{HeldService}
use Rattle.callback_orders.specs.declared.instance_view.InstanceView.{InstanceView}
use Rattle.callback_orders.specs.declared.instance_view.ReferenceView.{ReferenceView}
use Rattle.callback_orders.specs.Due.{bind_at, due_in_phase, due_of, due_while_active, due_while_ending, modified_if_stale, tell_at, unbind_at}
use Rattle.callback_orders.specs.References.{desires_all, differs, holds_all, is_desired, to_bind, to_tell, to_unbind}
use Rattle.prop_map.specs.Words.{first_some, with_places}
use Rattle.component_state.proofs.Apart.{in_either, in_first, in_rest, kept_was, not_true}
use Rattle.scr_promises.proofs.DueCallbacks.{due_ended, due_stands}
use Rattle.scr_laws.proofs.Listed.{mapped_was, single}
use Rattle.scr_promises.proofs.AllActive.{active_phase}
use Rattle.scr_world.specs.Instances.{is_active_phase}

-- ---- options and lists

first_there : {X : Type 0} (os : List (Option X)) (x : X) → first_some os ≡ Some x → Contains os (Some x)
first_there [] x is = cc
first_there (None ∷ os) x is = in_rest None os (Some x) (first_there os x is)
first_there {X = X} (Some y ∷ os) x is = subst (λ (o : Option X). Contains (Some y ∷ os) o) is (in_first (Some y) os)

last_there : {X : Type 0} (o : Option X) (xs : List X) (x : X) → last_or o xs ≡ Some x → (o ≡ Some x) ⊎ Contains xs x
last_there o [] x is = inl is
last_there {X = X} o (y ∷ ys) x is = elim (last_there (Some y) ys x is) [
  | inl same ↦ (let here : y ≡ x = cc in inr (subst (λ (z : X). Contains (y ∷ ys) z) here (in_first y ys)))
  | inr later ↦ inr (in_rest y ys x later)
]

-- ---- one reference

-- what an Unbind that is due says of its reference
pub record LetsGo (r : ReferenceView) (s : ℕ) : Type 0 where
  pub holds : holds_all r ≡ true
  pub other : is_desired r s ≡ false

lets_go : (r : ReferenceView) (s : ℕ) → to_unbind r ≡ Some s → LetsGo r s
lets_go r s is = go (holds_all r) refl is
  where
    others : List HeldService
    others = filter (λ (h : HeldService). not (is_desired r h.service)) r.held

    of_last : last_or None (map (λ (h : HeldService). h.service) others) ≡ Some s → is_desired r s ≡ false
    of_last last = elim (last_there None (map (λ (h : HeldService). h.service) others) s last) [
      | inl none ↦ cc
      | inr there ↦ (
          let h = mapped_was (λ (x : HeldService). x.service) others s there in
          let kept = kept_was (λ (x : HeldService). not (is_desired r x.service)) r.held h.0 h.1.0 in
          ap (is_desired r) (sym h.1.1) ∙ not_true (is_desired r h.0.service) kept.1)
    ]

    go : (b : Bool) → holds_all r ≡ b → cond b (last_or None (map (λ (h : HeldService). h.service) others)) None ≡ Some s → LetsGo r s
    go true holds last = record { holds = holds; other = of_last last }
    go false holds last = cc

-- an active view has the reference at a place
abbrev pub LetsGoAt : InstanceView → ℕ → ℕ → Type 0
LetsGoAt v k s = (r : ReferenceView) × Contains (with_places 0 v.references) (k, r) × LetsGo r s

module _ (v : InstanceView) (n k s : ℕ) where
  of_unbind : (q : ℕ × ReferenceView) → Contains (with_places 0 v.references) q → unbind_at v.instance q ≡ Some (Unbind n k s) → LetsGoAt v k s
  of_unbind q h is = go (to_unbind q.1) refl is
    where
      go : (o : Option ℕ) → to_unbind q.1 ≡ o → option_map (λ t. Unbind v.instance q.0 t) o ≡ Some (Unbind n k s) → LetsGoAt v k s
      go None here is = cc
      go (Some t) here is =
          let place : q.0 ≡ k = cc in
          let service : t ≡ s = cc in
          (q.1, subst (λ m. Contains (with_places 0 v.references) (m, q.1)) place h, lets_go q.1 s (here ∙ ap Some service))

  no_bind : (q : ℕ × ReferenceView) → bind_at v.instance q ≡ Some (Unbind n k s) → ⊥
  no_bind q is = go (to_bind q.1) is
    where
      go : (o : Option ℕ) → option_map (λ t. Bind v.instance q.0 t) o ≡ Some (Unbind n k s) → ⊥
      go None is = cc
      go (Some t) is = cc

  no_tell : (q : ℕ × ReferenceView) → tell_at v.instance q ≡ Some (Unbind n k s) → ⊥
  no_tell q is = go (to_tell q.1) is
    where
      go : (o : Option ℕ) → option_map (λ t. Updated v.instance q.0 t) o ≡ Some (Unbind n k s) → ⊥
      go None is = cc
      go (Some t) is = cc

  no_stale : modified_if_stale v ≡ Some (Unbind n k s) → ⊥
  no_stale is = go v.stale is
    where
      go : (b : Bool) → cond b (Some (Modified v.instance)) None ≡ Some (Unbind n k s) → ⊥
      go true is = cc
      go false is = cc

  while_active : due_while_active v ≡ Some (Unbind n k s) → LetsGoAt v k s
  while_active is =
      let rs = with_places 0 v.references in
      let d = Some (Unbind n k s) in
      let binds = map (bind_at v.instance) rs in
      let unbinds = map (unbind_at v.instance) rs in
      let tells = map (tell_at v.instance) rs in
      elim (in_either (binds ++ unbinds ++ tells) (modified_if_stale v ∷ []) d (first_there (binds ++ unbinds ++ tells ++ modified_if_stale v ∷ []) (Unbind n k s) is)) [
        | inr last ↦ absurd (no_stale (single (modified_if_stale v) d last))
        | inl front ↦ elim (in_either (binds ++ unbinds) tells d front) [
          | inr told ↦ (let q = mapped_was (tell_at v.instance) rs d told in absurd (no_tell q.0 q.1.1))
          | inl both ↦ elim (in_either binds unbinds d both) [
            | inl bound ↦ (let q = mapped_was (bind_at v.instance) rs d bound in absurd (no_bind q.0 q.1.1))
            | inr unbound ↦ (let q = mapped_was (unbind_at v.instance) rs d unbound in of_unbind q.0 q.1.0 q.1.1)
          ]
        ]
      ]

  -- it isn't ending
  pub unbind_goes_on : due_of v ≡ Some (Unbind n k s) → is_active_phase v.phase ≡ true → v.ending ≡ false
  unbind_goes_on is active = elim (due_stands v (Unbind n k s) is).1.why [
    | inl ending ↦ absurd (both_ways (is_active_phase v.phase) ending.1 active)
    | inr goes_on ↦ goes_on.0
  ]

  pub unbinds_other : due_of v ≡ Some (Unbind n k s) → is_active_phase v.phase ≡ true → LetsGoAt v k s
  unbinds_other is active =
      let inner = cond v.ending (due_while_ending v v.phase) (due_in_phase v v.phase) in
      let due = sym (cond-false v.outstanding None inner (due_ended v (Unbind n k s) is) ∙ cond-false v.ending (due_while_ending v v.phase) (due_in_phase v v.phase) (unbind_goes_on is active)) ∙ is in
      while_active (ap (due_in_phase v) (sym (active_phase v.phase active)) ∙ due)

-- where a reference doesn't differ it holds all that it desires
pub same_holds : (r : ReferenceView) → differs r ≡ false → holds_all r ≡ true
same_holds r same = go (holds_all r) same
  where
    go : (b : Bool) → (not b || not (desires_all r)) ≡ false → b ≡ true
    go true off = refl
    go false off = cc
