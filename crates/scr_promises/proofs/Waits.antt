-- What an instance waits for of which nothing is due: one that goes on waits for a desired service that isn't ready, an ending one for its drain or for those that hold it.
use Rattle.std.proofs.Common.{◌≡◌, ℕ, List, [], ◌∷◌, ◌++◌, ap, sym, ◌∙◌, refl, cond, Bool, true, false, ◌&&◌, ◌||◌, inl, inr, Option, Some, None}
use Rattle.std.specs.Prelude.{filter, filter_map, find, map, not, option_map, ◌==◌}
use Rattle.std.specs.List.{Contains, last_or, list_all}
use Rattle.std.specs.Option.{option_or, option_map_or}
use Rattle.std.proofs.lemmas.Bool.{and_from, and_parts, both_ways, cond-false, cond-true, eqb-true}
use Rattle.callback_orders.specs.declared.due.DueRef.{DueRef}
use Rattle.callback_orders.specs.declared.due.DueRef.TheVariants.{Bind, Unbind, Activate, Deactivate, Destroy}
use Rattle.callback_orders.specs.declared.instance_view.HeldService.{HeldService}
use Rattle.callback_orders.specs.declared.instance_view.InstanceView.{InstanceView}
use Rattle.callback_orders.specs.declared.instance_view.Phase.{Phase}
use Rattle.callback_orders.specs.declared.instance_view.Phase.TheVariants.{Making, Active, Left}
use Rattle.callback_orders.specs.declared.instance_view.ReferenceView.{ReferenceView}
use Rattle.callback_orders.specs.declared.instance_view.Wish.{Wish}
use Rattle.callback_orders.specs.Due.{bind_at, bind_or_unbind, due_in_making, due_in_phase, due_of, due_while_active, due_while_ending, let_go_at, modified_if_stale, tell_at, unbind_at}
use Rattle.callback_orders.specs.References.{desires_all, differs, holds_all, is_desired, is_held, to_bind, to_unbind}
use Rattle.prop_map.specs.Words.{first_some, with_places}
use Rattle.component_state.proofs.Apart.{any_found, in_cases, in_first, in_left, in_none, in_rest, in_right}
use Rattle.scr_promises.proofs.ViewedReferences.{placed_in, placed_was}
use Rattle.scr_laws.proofs.Legal.{in_map}
use Rattle.scr_laws.proofs.Listed.{found_was, none_found, none_passes}
use Rattle.scr_world.specs.Instances.{is_active_phase}

-- every service that these references desire is ready
abbrev pub AllReady : List ReferenceView → Type 0
AllReady rs = (r : ReferenceView) → Contains rs r → (x : Wish) → Contains r.desired x → x.ready ≡ true

-- ---- options and lists

pub all_from : {X : Type 0} (p : X → Bool) (xs : List X) → ((x : X) → Contains xs x → p x ≡ true) → list_all p xs ≡ true
all_from p [] each = refl
all_from p (x ∷ xs) each = and_from (p x) (list_all p xs) (each x (in_first x xs)) (all_from p xs (λ y h. each y (in_rest x xs y h)))

pub all_to : {X : Type 0} (p : X → Bool) (xs : List X) → list_all p xs ≡ true → (x : X) → Contains xs x → p x ≡ true
all_to p [] all x h = absurd (in_none x h)
all_to p (y ∷ ys) all x h = elim (in_cases y ys x h) [
  | inl same ↦ ap p (sym same) ∙ (and_parts (p y) (list_all p ys) all).0
  | inr later ↦ all_to p ys (and_parts (p y) (list_all p ys) all).1 x later
]

pub each_none : {X : Type 0} (os : List (Option X)) → first_some os ≡ None → (o : Option X) → Contains os o → o ≡ None
each_none [] none o h = absurd (in_none o h)
each_none (None ∷ os) none o h = elim (in_cases None os o h) [
  | inl same ↦ sym same
  | inr later ↦ each_none os none o later
]
each_none (Some x ∷ os) none o h = cc

first_none : {X : Type 0} (a b : Option X) → option_or a b ≡ None → a ≡ None
first_none None b none = refl
first_none (Some x) b none = cc

second_none : {X : Type 0} (a b : Option X) → option_or a b ≡ None → b ≡ None
second_none None b none = none
second_none (Some x) b none = cc

none_of : {X Y : Type 0} (f : X → Y) (o : Option X) → option_map f o ≡ None → o ≡ None
none_of f None none = refl
none_of f (Some x) none = cc

some_last : {X : Type 0} (x : X) (xs : List X) → last_or (Some x) xs ≡ None → ⊥
some_last x [] none = cc
some_last x (y ∷ ys) none = some_last y ys none

none_last : {X : Type 0} (xs : List X) → last_or None xs ≡ None → xs ≡ []
none_last [] none = refl
none_last (x ∷ xs) none = absurd (some_last x xs none)

none_mapped : {X Y : Type 0} (f : X → Y) (xs : List X) → map f xs ≡ [] → xs ≡ []
none_mapped f [] none = refl
none_mapped f (x ∷ xs) none = cc

held_if : (a b : Bool) → (a && not b) ≡ false → a ≡ true → b ≡ true
held_if true true off on = refl
held_if true false off on = cc
held_if false b off on = cc

not_off : (b : Bool) → not b ≡ false → b ≡ true
not_off true off = refl
not_off false off = cc

-- ---- one reference

-- with nothing to bind it holds what it desires, where all of that is ready
holds_ready : (r : ReferenceView) → ((x : Wish) → Contains r.desired x → x.ready ≡ true) → to_bind r ≡ None → holds_all r ≡ true
holds_ready r ready none =
    let test = λ (x : Wish). x.ready && not (is_held r x.service) in
    all_from (λ (x : Wish). is_held r x.service) r.desired
    (λ x h. held_if x.ready (is_held r x.service) (none_found test r.desired x (none_of (λ (y : Wish). y.service) (find test r.desired) none) h) (ready x h))

-- and with nothing to unbind it holds nothing else
desires_held : (r : ReferenceView) → holds_all r ≡ true → to_unbind r ≡ None → desires_all r ≡ true
desires_held r all none =
    let other = λ (h : HeldService). not (is_desired r h.service) in
    let services = map (λ (h : HeldService). h.service) (filter other r.held) in
    let last : last_or None services ≡ None = sym (cond-true (holds_all r) (last_or None services) None all) ∙ none in
    let empty = none_mapped (λ (h : HeldService). h.service) (filter other r.held) (none_last services last) in
    all_from (λ (h : HeldService). is_desired r h.service) r.held (λ h k. not_off (is_desired r h.service) (none_passes other r.held empty h k))

abbrev pub HoldsIts : ReferenceView → Type 0
HoldsIts r = (holds_all r ≡ true) × (desires_all r ≡ true)

holds_its : (r : ReferenceView) → ((x : Wish) → Contains r.desired x → x.ready ≡ true) → to_bind r ≡ None → to_unbind r ≡ None → HoldsIts r
holds_its r ready no_bind no_unbind = let all = holds_ready r ready no_bind in (all, desires_held r all no_unbind)

pub holds_desired : (r : ReferenceView) → holds_all r ≡ true → (s : ℕ) → is_desired r s ≡ true → is_held r s ≡ true
holds_desired r all s on =
    let x = any_found (λ (y : Wish). y.service == s) r.desired on in
    ap (is_held r) (sym (eqb-true x.0.service s x.2)) ∙ all_to (λ (y : Wish). is_held r y.service) r.desired all x.0 x.1

pub desired_held : (r : ReferenceView) → HoldsIts r → (s : ℕ) → is_desired r s ≡ true → is_held r s ≡ true
desired_held r its = holds_desired r its.0

pub held_desired : (r : ReferenceView) → HoldsIts r → (s : ℕ) → is_held r s ≡ true → is_desired r s ≡ true
held_desired r its s on =
    let x = any_found (λ (y : HeldService). y.service == s) r.held on in
    ap (is_desired r) (sym (eqb-true x.0.service s x.2)) ∙ all_to (λ (y : HeldService). is_desired r y.service) r.held its.1 x.0 x.1

-- ---- in the making something is due, where all that is desired is ready

pub making_goes_on : (n : ℕ) (rs : List ReferenceView) → AllReady rs → due_in_making n rs ≡ None → ⊥
making_goes_on n rs ready none = go (find (λ (q : ℕ × ReferenceView). differs q.1) (with_places 0 rs)) refl none
  where
    go : (o : Option (ℕ × ReferenceView)) → find (λ (q : ℕ × ReferenceView). differs q.1) (with_places 0 rs) ≡ o → option_map_or (bind_or_unbind n) o (Some (Activate n)) ≡ None → ⊥
    go None is none = cc
    go (Some q) is none =
        let found = found_was (λ (p : ℕ × ReferenceView). differs p.1) (with_places 0 rs) q is in
        let no_bind = none_of (λ s. Bind n q.0 s) (to_bind q.1) (first_none (bind_at n q) (unbind_at n q) none) in
        let no_unbind = none_of (λ s. Unbind n q.0 s) (to_unbind q.1) (second_none (bind_at n q) (unbind_at n q) none) in
        let its = holds_its q.1 (ready q.1 (placed_was 0 rs q.0 q.1 found.0)) no_bind no_unbind in
        both_ways (differs q.1) (ap (λ b. not b || not (desires_all q.1)) its.0 ∙ ap not its.1) found.1

-- ---- an active one with nothing due holds what it desires, where all of that is ready

module _ (v : InstanceView) (ready : AllReady v.references) (none : due_while_active v ≡ None) (r : ReferenceView) (h : Contains v.references r) where
  abbrev n : ℕ
  n = v.instance

  abbrev rs : List (ℕ × ReferenceView)
  rs = with_places 0 v.references

  abbrev binds : List (Option DueRef)
  binds = map (bind_at n) rs

  abbrev unbinds : List (Option DueRef)
  unbinds = map (unbind_at n) rs

  abbrev tells : List (Option DueRef)
  tells = map (tell_at n) rs

  abbrev last : List (Option DueRef)
  last = modified_if_stale v ∷ []

  place : (k : ℕ) × Contains rs (k, r)
  place = placed_in 0 v.references r h

  none_at : (o : Option DueRef) → Contains (binds ++ unbinds) o → o ≡ None
  none_at o k = each_none (binds ++ unbinds ++ tells ++ last) none o (in_left (binds ++ unbinds ++ tells) last o (in_left (binds ++ unbinds) tells o k))

  no_bind : to_bind r ≡ None
  no_bind = none_of (λ s. Bind n place.0 s) (to_bind r) (none_at (bind_at n (place.0, r)) (in_left binds unbinds (bind_at n (place.0, r)) (in_map (bind_at n) rs (place.0, r) place.1)))

  no_unbind : to_unbind r ≡ None
  no_unbind = none_of (λ s. Unbind n place.0 s) (to_unbind r) (none_at (unbind_at n (place.0, r)) (in_right binds unbinds (unbind_at n (place.0, r)) (in_map (unbind_at n) rs (place.0, r) place.1)))

  pub active_holds : HoldsIts r
  active_holds = holds_its r (ready r h) no_bind no_unbind

-- ---- an ending one with nothing due is active, and isn't both unheld and drained

pub ending_waits : (v : InstanceView) (phase : Phase) → due_while_ending v phase ≡ None → (is_active_phase phase ≡ true) × ((v.unheld && v.drained) ≡ false)
ending_waits v Making none = absurd (some_last (Destroy v.instance) (filter_map (let_go_at v.instance) (with_places 0 v.references)) none)
ending_waits v Left none = absurd (some_last (Destroy v.instance) (filter_map (let_go_at v.instance) (with_places 0 v.references)) none)
ending_waits v Active none = (refl, go (v.unheld && v.drained) none)
  where
    go : (b : Bool) → cond b (Some (Deactivate v.instance)) None ≡ None → b ≡ false
    go true none = cc
    go false none = refl

-- ---- what is due of an instance that isn't told of anything

pub going_due : (v : InstanceView) → v.outstanding ≡ false → v.ending ≡ false → due_of v ≡ None → due_in_phase v v.phase ≡ None
going_due v ended off none =
    sym (cond-false v.outstanding None (cond v.ending (due_while_ending v v.phase) (due_in_phase v v.phase)) ended ∙ cond-false v.ending (due_while_ending v v.phase) (due_in_phase v v.phase) off) ∙ none

pub ending_due : (v : InstanceView) → v.outstanding ≡ false → v.ending ≡ true → due_of v ≡ None → due_while_ending v v.phase ≡ None
ending_due v ended on none =
    sym (cond-false v.outstanding None (cond v.ending (due_while_ending v v.phase) (due_in_phase v v.phase)) ended ∙ cond-true v.ending (due_while_ending v v.phase) (due_in_phase v v.phase) on) ∙ none
