-- The due callback may come next.
use Rattle.std.proofs.Common.{◌≡◌, ℕ, ◌+◌, ◌<◌, length, List, [], ◌∷◌, ◌++◌, Bool, true, false, refl, ap, ◌∙◌, sym, subst, append_assoc, arith}
use Rattle.std.specs.Prelude.{◌==◌, ◌&&◌, ◌||◌, not, map, filter, find, filter_map, option_map, Option, Some, None, if◌then◌else◌}
use Rattle.std.specs.List.{AllZip, cons_option, enumerate_from, last_or, list_any, slice_index_or}
use Rattle.std.specs.Str.{bytes_eq}
use Rattle.std.proofs.lemmas.Bool.{and_parts, eq-eqb, not-true}
use Rattle.callback_orders.specs.declared.callback.Callback.{Callback}
use Rattle.callback_orders.specs.declared.callback.Callback.TheVariants.{Bind, Updated, Unbind, Activate, Modified, Deactivate, Destroy}
use Rattle.callback_orders.specs.declared.due.DueRef.{DueRef}
use Rattle.callback_orders.specs.declared.due.DueRef.TheVariants.{Bind as BindDue, Updated as UpdatedDue, Unbind as UnbindDue, Activate as ActivateDue, Modified as ModifiedDue, Deactivate as DeactivateDue, Destroy as DestroyDue}
use Rattle.callback_orders.specs.declared.instance_view.HeldService.{HeldService}
use Rattle.callback_orders.specs.declared.instance_view.InstanceView.{InstanceView}
use Rattle.callback_orders.specs.declared.instance_view.Phase.{Phase}
use Rattle.callback_orders.specs.declared.instance_view.Phase.TheVariants.{Making, Active, Left}
use Rattle.callback_orders.specs.declared.instance_view.ReferenceView.{ReferenceView}
use Rattle.callback_orders.specs.declared.instance_view.Wish.{Wish}
use Rattle.callback_orders.specs.declared.word.Called.{Called}
use Rattle.callback_orders.specs.Sequences.{alternate, bound_by, created, is_bound, is_sequence, have_ended, may_come, one_at_a_time}
use Rattle.callback_orders.specs.References.{differs, holds_all, is_desired, is_held, to_bind, to_unbind, to_tell, to_let_go}
use Rattle.callback_orders.specs.Due.{bind_at, unbind_at, tell_at, let_go_at, bind_or_unbind, due_in_making, due_in_phase, due_while_active, due_while_ending, due_of, modified_if_stale}
use Rattle.prop_map.specs.Words.{with_places}
use Rattle.callback_orders.specs.Lives.{HoldsThese, IsViewOf, MayComeNext, callback_of, held_for, is_living, names_one_of, phase_of, speaks_of}
use Rattle.callback_orders.proofs.EachLemmas.{OfSome, Each, of_some-map, of_some-map_or, of_some-or, each-append, each-map, each-filter_map, first_some-each, last_or-each, last_or-none, find-each, find-passes, filter-each, each-weaker}
use Rattle.callback_orders.proofs.RoundLemmas.{bound_end}
use Rattle.callback_orders.proofs.FollowLemmas.{may_follow, is_sequence-onto, speaks_of-onto, is_living-onto, none_outstanding}
use Rattle.callback_orders.proofs.HeldLemmas.{HoldsNone, is_one, bound_is_held, destroy_may_come, text_same}

-- each service that is held is held
abbrev has_service : ℕ → List HeldService → Bool
has_service s held = list_any (λ (h : HeldService). h.service == s) held

or_also : (t b : Bool) → b ≡ true → (t || b) ≡ true
or_also true b h = refl
or_also false b h = h

each-held : (held : List HeldService) → Each (λ (h : HeldService). has_service h.service held ≡ true) held
each-held [] = tt
each-held (h ∷ held) = (
  ap (λ b. b || has_service h.service held) (eq-eqb h.service h.service refl),
  each-weaker (λ (k : HeldService). has_service k.service held ≡ true) (λ (k : HeldService). has_service k.service (h ∷ held) ≡ true) held
      (λ k e. or_also (h.service == k.service) (has_service k.service held) e) (each-held held),
)

-- what a reference wants to bind isn't held, and what it wants to unbind or to be told of is
abbrev IsHeld : ReferenceView → ℕ → Type 0
IsHeld r s = is_held r s ≡ true

abbrev HasService : ReferenceView → HeldService → Type 0
HasService r h = is_held r h.service ≡ true

bind-unheld : (r : ReferenceView) → OfSome (λ s. is_held r s ≡ false) (to_bind r)
bind-unheld r =
    of_some-map (λ (w : Wish). (w.ready && not (is_held r w.service)) ≡ true) (λ s. is_held r s ≡ false) (λ (w : Wish). w.service)
    (find (λ (w : Wish). w.ready && not (is_held r w.service)) r.desired) (find-passes (λ (w : Wish). w.ready && not (is_held r w.service)) r.desired)
    (λ w e. not-true _ (and_parts w.ready (not (is_held r w.service)) e).1)

only_if-held : (r : ReferenceView) (t : Bool) (o : Option ℕ) → OfSome (IsHeld r) o → OfSome (IsHeld r) (if t then o else None)
only_if-held r true o h = h
only_if-held r false o h = tt

unbind-held : (r : ReferenceView) → OfSome (IsHeld r) (to_unbind r)
unbind-held r =
    let undesired = filter (λ (h : HeldService). not (is_desired r h.service)) r.held in
    only_if-held r (holds_all r) (last_or None (map (λ (h : HeldService). h.service) undesired))
    (last_or-each (IsHeld r) None (map (λ (h : HeldService). h.service) undesired) tt
    (each-map (HasService r) (IsHeld r) (λ (h : HeldService). h.service) undesired
    (filter-each (HasService r) (λ (h : HeldService). not (is_desired r h.service)) r.held (each-held r.held)) (λ h e. e)))

tell-held : (r : ReferenceView) → OfSome (IsHeld r) (to_tell r)
tell-held r =
    only_if-held r r.told (option_map (λ (h : HeldService). h.service) (find (λ (h : HeldService). h.changed) r.held))
    (of_some-map (HasService r) (IsHeld r) (λ (h : HeldService). h.service) (find (λ (h : HeldService). h.changed) r.held)
    (find-each (HasService r) (λ (h : HeldService). h.changed) r.held (each-held r.held)) (λ h e. e))

let_go-held : (r : ReferenceView) → OfSome (IsHeld r) (to_let_go r)
let_go-held r =
    last_or-each (IsHeld r) None (map (λ (h : HeldService). h.service) r.held) tt
    (each-map (HasService r) (IsHeld r) (λ (h : HeldService). h.service) r.held (each-held r.held) (λ h e. e))

-- a callback that may follow, and come while these are bound, of these references
record Comes (names : List (List ℕ)) (calls : List Called) (callback : Callback) : Type 0 where
  follows : may_follow (phase_of calls) callback ≡ true
  comes : may_come callback (bound_end [] calls) ≡ true
  named : names_one_of names callback ≡ true

abbrev DueComes : List (List ℕ) → List Called → DueRef → Type 0
DueComes names calls d = Comes names calls (callback_of names d)

-- the reference at a place is that of the name there
abbrev name_at : List (List ℕ) → ℕ → List ℕ
name_at names i = slice_index_or names i []

record AtPlace (names : List (List ℕ)) (calls : List Called) (p : ℕ × ReferenceView) : Type 0 where
  held : HoldsThese p.1 (held_for (name_at names p.0) calls)
  named : list_any (bytes_eq (name_at names p.0)) names ≡ true

abbrev Holding : List Called → List ReferenceView → List (List ℕ) → Type 0
Holding calls rs names = AllZip (λ (r : ReferenceView) (name : List ℕ). HoldsThese r (held_for name calls)) rs names

name_at-length : (front : List (List ℕ)) (n : List ℕ) (names : List (List ℕ)) → name_at (front ++ n ∷ names) (length front) ≡ n
name_at-length [] n names = refl
name_at-length (x ∷ front) n names = name_at-length front n names

any_at-length : (front : List (List ℕ)) (n : List ℕ) (names : List (List ℕ)) → list_any (bytes_eq n) (front ++ n ∷ names) ≡ true
any_at-length [] n names = ap (λ b. b || list_any (bytes_eq n) names) (text_same n n refl)
any_at-length (x ∷ front) n names = or_also (bytes_eq n x) (list_any (bytes_eq n) (front ++ n ∷ names)) (any_at-length front n names)

length-onto : (front : List (List ℕ)) (n : List ℕ) → length (front ++ n ∷ []) ≡ length front + 1
length-onto [] n = refl
length-onto (x ∷ front) n = let e : length (front ++ n ∷ []) ≡ length front + 1 = length-onto front n in omega arith

at_place : (calls : List Called) (front : List (List ℕ)) (n : List ℕ) (names : List (List ℕ)) (r : ReferenceView) → HoldsThese r (held_for n calls)
    → AtPlace (front ++ n ∷ names) calls (length front, r)
at_place calls front n names r e = record {
  held = subst (λ (x : List ℕ). HoldsThese r (held_for x calls)) (sym (name_at-length front n names)) e;
  named = subst (λ (x : List ℕ). list_any (bytes_eq x) (front ++ n ∷ names) ≡ true) (sym (name_at-length front n names)) (any_at-length front n names);
}

at_places : (calls : List Called) (rs : List ReferenceView) (front names all : List (List ℕ)) (k : ℕ) → Holding calls rs names → all ≡ front ++ names → k ≡ length front
    → Each (AtPlace all calls) (enumerate_from k rs)
at_places calls [] front [] all k h e l = tt
at_places calls [] front (n ∷ names) all k h e l = absurd h
at_places calls (r ∷ rs) front [] all k h e l = absurd h
at_places calls (r ∷ rs) front (n ∷ names) all k h e l =
    let place : AtPlace (front ++ n ∷ names) calls (length front, r) = at_place calls front n names r h.0 in
    let there : AtPlace all calls (k, r) = subst (λ (x : List (List ℕ)). AtPlace x calls (k, r)) (sym e) (subst (λ (i : ℕ). AtPlace (front ++ n ∷ names) calls (i, r)) (sym l) place) in
    (there, at_places calls rs (front ++ n ∷ []) names all (k + 1) h.1 (e ∙ sym (append_assoc front (n ∷ []) names)) (ap (λ i. i + 1) l ∙ sym (length-onto front n)))

-- each reference's place wants what may come
bind_comes : (names : List (List ℕ)) (calls : List Called) (i : ℕ) (p : ℕ × ReferenceView) → have_ended calls ≡ true
    → ((r : List ℕ) (s : ℕ) → may_follow (phase_of calls) (Bind r s) ≡ true) → AtPlace names calls p → OfSome (DueComes names calls) (bind_at i p)
bind_comes names calls i p e f at =
    of_some-map (λ s. is_held p.1 s ≡ false) (DueComes names calls) (λ s. BindDue i p.0 s) (to_bind p.1) (bind-unheld p.1)
    (λ s h. record {
      follows = f (name_at names p.0) s;
      comes = ap not (bound_is_held calls (name_at names p.0) s e ∙ sym (at.held s) ∙ h);
      named = at.named;
    })

held_comes : (names : List (List ℕ)) (calls : List Called) (p : ℕ × ReferenceView) (s : ℕ) → have_ended calls ≡ true → AtPlace names calls p → IsHeld p.1 s
    → is_bound (bound_end [] calls) (bound_by (name_at names p.0) s) ≡ true
held_comes names calls p s e at h = bound_is_held calls (name_at names p.0) s e ∙ sym (at.held s) ∙ h

unbind_comes : (names : List (List ℕ)) (calls : List Called) (i : ℕ) (p : ℕ × ReferenceView) (o : Option ℕ) → have_ended calls ≡ true
    → ((r : List ℕ) (s : ℕ) → may_follow (phase_of calls) (Unbind r s) ≡ true) → AtPlace names calls p → OfSome (IsHeld p.1) o
    → OfSome (DueComes names calls) (option_map (λ s. UnbindDue i p.0 s) o)
unbind_comes names calls i p o e f at h =
    of_some-map (IsHeld p.1) (DueComes names calls) (λ s. UnbindDue i p.0 s) o h
    (λ s k. record { follows = f (name_at names p.0) s; comes = held_comes names calls p s e at k; named = at.named })

tell_comes : (names : List (List ℕ)) (calls : List Called) (i : ℕ) (p : ℕ × ReferenceView) → have_ended calls ≡ true
    → ((r : List ℕ) (s : ℕ) → may_follow (phase_of calls) (Updated r s) ≡ true) → AtPlace names calls p → OfSome (DueComes names calls) (tell_at i p)
tell_comes names calls i p e f at =
    of_some-map (IsHeld p.1) (DueComes names calls) (λ s. UpdatedDue i p.0 s) (to_tell p.1) (tell-held p.1)
    (λ s k. record { follows = f (name_at names p.0) s; comes = held_comes names calls p s e at k; named = at.named })

in_phase : (calls : List Called) (phase : Phase) (callback : Callback) → phase ≡ phase_of calls → may_follow phase callback ≡ true → may_follow (phase_of calls) callback ≡ true
in_phase calls phase callback e h = subst (λ (x : Phase). may_follow x callback ≡ true) e h

making_comes : (names : List (List ℕ)) (calls : List Called) (i : ℕ) (rs : List ReferenceView) → have_ended calls ≡ true → Making ≡ phase_of calls
    → Each (AtPlace names calls) (with_places 0 rs) → OfSome (DueComes names calls) (due_in_making i rs)
making_comes names calls i rs e m at =
    of_some-map_or (AtPlace names calls) (DueComes names calls) (bind_or_unbind i) (find (λ (r : ℕ × ReferenceView). differs r.1) (with_places 0 rs)) (Some (ActivateDue i))
    (find-each (AtPlace names calls) (λ (r : ℕ × ReferenceView). differs r.1) (with_places 0 rs) at)
    (λ p a. of_some-or (DueComes names calls) (bind_at i p) (unbind_at i p)
    (bind_comes names calls i p e (λ r s. in_phase calls Making (Bind r s) m refl) a)
    (unbind_comes names calls i p (to_unbind p.1) e (λ r s. in_phase calls Making (Unbind r s) m refl) a (unbind-held p.1)))
    (record { follows = in_phase calls Making Activate m refl; comes = refl; named = refl })

stale_comes : (names : List (List ℕ)) (calls : List Called) (i : ℕ) (t : Bool) → Active ≡ phase_of calls → OfSome (DueComes names calls) (if t then Some (ModifiedDue i) else None)
stale_comes names calls i true m = record { follows = in_phase calls Active Modified m refl; comes = refl; named = refl }
stale_comes names calls i false m = tt

active_comes : (names : List (List ℕ)) (calls : List Called) (v : InstanceView) → have_ended calls ≡ true → Active ≡ phase_of calls
    → Each (AtPlace names calls) (with_places 0 v.references) → OfSome (DueComes names calls) (due_while_active v)
active_comes names calls v e m at =
    let Good = DueComes names calls in
    let binds = map (bind_at v.instance) (with_places 0 v.references) in
    let unbinds = map (unbind_at v.instance) (with_places 0 v.references) in
    let tells = map (tell_at v.instance) (with_places 0 v.references) in
    first_some-each Good (binds ++ unbinds ++ tells ++ modified_if_stale v ∷ [])
    (each-append (OfSome Good) (binds ++ unbinds ++ tells) (modified_if_stale v ∷ [])
    (each-append (OfSome Good) (binds ++ unbinds) tells
    (each-append (OfSome Good) binds unbinds
    (each-map (AtPlace names calls) (OfSome Good) (bind_at v.instance) (with_places 0 v.references) at (λ p a. bind_comes names calls v.instance p e (λ r s. in_phase calls Active (Bind r s) m refl) a))
    (each-map (AtPlace names calls) (OfSome Good) (unbind_at v.instance) (with_places 0 v.references) at
    (λ p a. unbind_comes names calls v.instance p (to_unbind p.1) e (λ r s. in_phase calls Active (Unbind r s) m refl) a (unbind-held p.1))))
    (each-map (AtPlace names calls) (OfSome Good) (tell_at v.instance) (with_places 0 v.references) at (λ p a. tell_comes names calls v.instance p e (λ r s. in_phase calls Active (Updated r s) m refl) a)))
    (stale_comes names calls v.instance v.stale m, tt))

-- where no reference has anything to let go, nothing is held
last_some : (s : ℕ) (xs : List ℕ) → (y : ℕ) × (last_or (Some s) xs ≡ Some y)
last_some s [] = (s, refl)
last_some s (x ∷ xs) = last_some x xs

nothing_let_go : (f : ℕ → DueRef) (held : List HeldService) (rest : List DueRef) → cons_option (option_map f (last_or None (map (λ (h : HeldService). h.service) held))) rest ≡ []
    → (held ≡ []) × (rest ≡ [])
nothing_let_go f [] rest e = (refl, e)
nothing_let_go f (h ∷ held) rest e =
    let p = last_some h.service (map (λ (h : HeldService). h.service) held) in
    let k : f p.0 ∷ rest ≡ [] = ap (λ o. cons_option (option_map f o) rest) (sym p.1) ∙ e in
    absurd (cc)

holds_none : (calls : List Called) (i k : ℕ) (rs : List ReferenceView) (names : List (List ℕ)) → Holding calls rs names → filter_map (let_go_at i) (enumerate_from k rs) ≡ []
    → HoldsNone calls names
holds_none calls i k [] [] h e = tt
holds_none calls i k [] (n ∷ names) h e = absurd h
holds_none calls i k (r ∷ rs) [] h e = absurd h
holds_none calls i k (r ∷ rs) (n ∷ names) h e =
    let p = nothing_let_go (λ s. UnbindDue i k s) r.held (filter_map (let_go_at i) (enumerate_from (k + 1) rs)) e in
    (λ s. sym (h.0 s) ∙ ap (has_service s) p.0, holds_none calls i (k + 1) rs names h.1 p.1)

ended_comes : (names : List (List ℕ)) (calls : List Called) (i : ℕ) (rs : List ReferenceView) → have_ended calls ≡ true → speaks_of names calls ≡ true → Holding calls rs names
    → ((r : List ℕ) (s : ℕ) → may_follow (phase_of calls) (Unbind r s) ≡ true) → may_follow (phase_of calls) Destroy ≡ true
    → Each (AtPlace names calls) (with_places 0 rs) → OfSome (DueComes names calls) (last_or (Some (DestroyDue i)) (filter_map (let_go_at i) (with_places 0 rs)))
ended_comes names calls i rs e sp h f g at =
    last_or-none (DueComes names calls) (DestroyDue i) (filter_map (let_go_at i) (with_places 0 rs))
    (λ k. record { follows = g; comes = destroy_may_come calls names e sp (holds_none calls i 0 rs names h k); named = refl })
    (each-filter_map (AtPlace names calls) (DueComes names calls) (let_go_at i) (with_places 0 rs) at (λ p a. unbind_comes names calls i p (to_let_go p.1) e f a (let_go-held p.1)))

deactivate_comes : (names : List (List ℕ)) (calls : List Called) (i : ℕ) (t : Bool) → Active ≡ phase_of calls → OfSome (DueComes names calls) (if t then Some (DeactivateDue i) else None)
deactivate_comes names calls i true m = record { follows = in_phase calls Active Deactivate m refl; comes = refl; named = refl }
deactivate_comes names calls i false m = tt

ending_comes : (names : List (List ℕ)) (calls : List Called) (v : InstanceView) (phase : Phase) → have_ended calls ≡ true → phase ≡ phase_of calls → speaks_of names calls ≡ true
    → Holding calls v.references names → Each (AtPlace names calls) (with_places 0 v.references) → OfSome (DueComes names calls) (due_while_ending v phase)
ending_comes names calls v Active e m sp h at = deactivate_comes names calls v.instance (v.unheld && v.drained) m
ending_comes names calls v Making e m sp h at =
    ended_comes names calls v.instance v.references e sp h (λ r s. in_phase calls Making (Unbind r s) m refl) (in_phase calls Making Destroy m refl) at
ending_comes names calls v Left e m sp h at =
    ended_comes names calls v.instance v.references e sp h (λ r s. in_phase calls Left (Unbind r s) m refl) (in_phase calls Left Destroy m refl) at

going_on_comes : (names : List (List ℕ)) (calls : List Called) (v : InstanceView) (phase : Phase) → have_ended calls ≡ true → phase ≡ phase_of calls
    → Each (AtPlace names calls) (with_places 0 v.references) → OfSome (DueComes names calls) (due_in_phase v phase)
going_on_comes names calls v Making e m at = making_comes names calls v.instance v.references e m at
going_on_comes names calls v Active e m at = active_comes names calls v e m at
going_on_comes names calls v Left e m at = tt

either_comes : (P : DueRef → Type 0) (t : Bool) (o p : Option DueRef) → OfSome P o → OfSome P p → OfSome P (if t then o else p)
either_comes P true o p h k = h
either_comes P false o p h k = k

due_comes : (names : List (List ℕ)) (calls : List Called) (v : InstanceView) → have_ended calls ≡ true → IsViewOf names calls v → OfSome (DueComes names calls) (due_of v)
due_comes names calls v e w =
    let at : Each (AtPlace names calls) (with_places 0 v.references) = at_places calls v.references [] names names 0 w.held refl refl in
    either_comes (DueComes names calls) v.outstanding None (if v.ending then due_while_ending v v.phase else due_in_phase v v.phase) tt
    (either_comes (DueComes names calls) v.ending (due_while_ending v v.phase) (due_in_phase v v.phase)
    (ending_comes names calls v v.phase e w.phase w.spoken w.held at) (going_on_comes names calls v v.phase e w.phase at))

-- nothing is due while a callback is outstanding
due_if_ended : (t : Bool) (o : Option DueRef) (d : DueRef) → (if t then None else o) ≡ Some d → t ≡ false
due_if_ended true o d e = cc
due_if_ended false o d e = refl

pub due_may_come : (names : List (List ℕ)) (calls : List Called) (view : InstanceView) (due : DueRef) → is_sequence calls ≡ true → is_living calls ≡ true → 0 < length calls
    → IsViewOf names calls view → due_of view ≡ Some due → MayComeNext names calls (callback_of names due)
due_may_come names calls view due s l n v d =
    let p = and_parts (created calls && one_at_a_time calls) (alternate [] calls) s in
    let q = and_parts (created calls) (one_at_a_time calls) p.0 in
    let ended : have_ended calls ≡ true =
    none_outstanding calls q.1 (sym v.outstanding ∙ due_if_ended view.outstanding (if view.ending then due_while_ending view view.phase else due_in_phase view view.phase) due d) in
    let comes : Comes names calls (callback_of names due) = subst (OfSome (DueComes names calls)) d (due_comes names calls view ended v) in
    record {
      ended = ended;
      order = is_sequence-onto calls (callback_of names due) n l ended s comes.follows comes.comes;
      spoken = speaks_of-onto names calls (callback_of names due) v.spoken comes.named;
      living = is_living-onto calls (callback_of names due) l;
    }

has-map : (s : ℕ) (held : List HeldService) → has_service s held ≡ is_one s (map (λ (h : HeldService). h.service) held)
has-map s [] = refl
has-map s (h ∷ held) = ap (λ b. (h.service == s) || b) (has-map s held)

-- where the views hold the very lists, they hold the same services
pub holding_from_same : (calls : List Called) (rs : List ReferenceView) (names : List (List ℕ))
    → map (λ (r : ReferenceView). map (λ (h : HeldService). h.service) r.held) rs ≡ map (λ n. held_for n calls) names
    → AllZip (λ (r : ReferenceView) (name : List ℕ). HoldsThese r (held_for name calls)) rs names
holding_from_same calls [] [] e = tt
holding_from_same calls [] (n ∷ names) e = cc
holding_from_same calls (r ∷ rs) [] e = cc
holding_from_same calls (r ∷ rs) (n ∷ names) e =
    let same : map (λ (h : HeldService). h.service) r.held ≡ held_for n calls = cc in
    let others : map (λ (r : ReferenceView). map (λ (h : HeldService). h.service) r.held) rs ≡ map (λ n. held_for n calls) names = cc in
    (λ s. has-map s r.held ∙ ap (is_one s) same, holding_from_same calls rs names others)
