-- The due callback of an instance that is only bound and unbound, as that of the whiteboard: it is a Bind or an Unbind, and may come next.
use Rattle.std.proofs.Common.{◌≡◌, ℕ, List, [], ◌∷◌, ◌++◌, Bool, true, false, ◌&&◌, refl, ap, sym, ◌∙◌, subst, cond, arith, Option, Some, None}
use Rattle.std.specs.Prelude.{map, find, option_map}
use Rattle.std.specs.List.{AllZip, list_all}
use Rattle.std.proofs.lemmas.Bool.{and_from, and_parts}
use Rattle.callback_orders.specs.declared.callback.Callback.{Callback}
use Rattle.callback_orders.specs.declared.callback.Callback.TheVariants.{Create, Bind, Updated, Unbind, Activate, Modified, Deactivate, Destroy}
use Rattle.callback_orders.specs.declared.callback.Outcome.{Outcome}
use Rattle.callback_orders.specs.declared.callback.Outcome.TheVariants.{Done}
use Rattle.callback_orders.specs.declared.due.DueRef.{DueRef}
use Rattle.callback_orders.specs.declared.due.DueRef.TheVariants.{Bind as BindDue, Updated as UpdatedDue, Unbind as UnbindDue, Modified as ModifiedDue}
use Rattle.callback_orders.specs.declared.instance_view.InstanceView.{InstanceView}
use Rattle.callback_orders.specs.declared.instance_view.Phase.{Phase}
use Rattle.callback_orders.specs.declared.instance_view.Phase.TheVariants.{Active}
use Rattle.callback_orders.specs.declared.instance_view.ReferenceView.{ReferenceView}
use Rattle.callback_orders.specs.declared.word.Called.{Called}
use Rattle.callback_orders.specs.Due.{bind_at, due_in_phase, due_of, due_while_active, due_while_ending, modified_if_stale, tell_at, unbind_at}
use Rattle.callback_orders.specs.Lives.{HoldsThese, IsViewOf, MayComeNext, callback_of, held_for, is_living, phase_after, speaks_of}
use Rattle.callback_orders.specs.References.{to_bind, to_unbind}
use Rattle.callback_orders.specs.Sequences.{active, alternate, begun, done_with, ended, is_bind_or_unbind, is_outstanding, is_sequence, is_whiteboard_sequence, one_at_a_time}
use Rattle.callback_orders.proofs.DueLemmas.{due_may_come}
use Rattle.callback_orders.proofs.EachLemmas.{Each, OfSome, each-append, each-map, first_some-each}
use Rattle.callback_orders.proofs.EndLemmas.{is_sequence-ended}
use Rattle.prop_map.specs.Words.{with_places}

-- as if it had been made and activated before
abbrev pub since_made : List Called → List Called
since_made calls = done_with Create Done ∷ done_with Activate Done ∷ calls

abbrev pub are_binds : List Called → Bool
are_binds calls = list_all (λ (c : Called). is_bind_or_unbind c.callback) calls

-- ---- callbacks that are Binds and Unbinds

active_by_bind : (callback : Callback) (rest : List Called) → is_bind_or_unbind callback ≡ true → active rest ≡ true → (c : Called) → c.callback ≡ callback → active (c ∷ rest) ≡ true
active_by_bind (Bind r s) rest binds on c same = rw same on
active_by_bind (Unbind r s) rest binds on c same = rw same on
active_by_bind Create rest binds on c same = cc
active_by_bind (Updated r s) rest binds on c same = cc
active_by_bind Activate rest binds on c same = cc
active_by_bind Modified rest binds on c same = cc
active_by_bind Deactivate rest binds on c same = cc
active_by_bind Destroy rest binds on c same = cc

binds_stay : (calls : List Called) → are_binds calls ≡ true → active calls ≡ true
binds_stay [] binds = refl
binds_stay (c ∷ rest) binds =
    let parts = and_parts (is_bind_or_unbind c.callback) (are_binds rest) binds in
    active_by_bind c.callback rest parts.0 (binds_stay rest parts.1) c refl

active_after : (callback : Callback) (outcome : Option Outcome) (rest : List Called) → is_bind_or_unbind callback ≡ true → Active ≡ phase_after Active rest
    → Active ≡ phase_after Active (record { callback = callback; outcome = outcome } ∷ rest)
active_after (Bind r s) outcome rest binds on = on
active_after (Unbind r s) outcome rest binds on = on
active_after Create outcome rest binds on = cc
active_after (Updated r s) outcome rest binds on = cc
active_after Activate outcome rest binds on = cc
active_after Modified outcome rest binds on = cc
active_after Deactivate outcome rest binds on = cc
active_after Destroy outcome rest binds on = cc

binds_active : (calls : List Called) → are_binds calls ≡ true → Active ≡ phase_after Active calls
binds_active [] binds = refl
binds_active (c ∷ rest) binds =
    let parts = and_parts (is_bind_or_unbind c.callback) (are_binds rest) binds in
    active_after c.callback c.outcome rest parts.0 (binds_active rest parts.1)

living_bind : (callback : Callback) (outcome : Option Outcome) (rest : List Called) → is_bind_or_unbind callback ≡ true → is_living rest ≡ true → is_living (record { callback = callback; outcome = outcome } ∷ rest) ≡ true
living_bind (Bind r s) outcome rest binds on = on
living_bind (Unbind r s) outcome rest binds on = on
living_bind Create outcome rest binds on = cc
living_bind (Updated r s) outcome rest binds on = cc
living_bind Activate outcome rest binds on = cc
living_bind Modified outcome rest binds on = cc
living_bind Deactivate outcome rest binds on = cc
living_bind Destroy outcome rest binds on = cc

binds_live : (calls : List Called) → are_binds calls ≡ true → is_living calls ≡ true
binds_live [] binds = refl
binds_live (c ∷ rest) binds =
    let parts = and_parts (is_bind_or_unbind c.callback) (are_binds rest) binds in
    living_bind c.callback c.outcome rest parts.0 (binds_live rest parts.1)

binds_more : (calls : List Called) (c : Called) → are_binds calls ≡ true → is_bind_or_unbind c.callback ≡ true → are_binds (calls ++ c ∷ []) ≡ true
binds_more [] c binds one = and_from (is_bind_or_unbind c.callback) true one refl
binds_more (d ∷ rest) c binds one =
    let parts = and_parts (is_bind_or_unbind d.callback) (are_binds rest) binds in
    and_from (is_bind_or_unbind d.callback) (are_binds (rest ++ c ∷ [])) parts.0 (binds_more rest c parts.1 one)

same_outstanding : (calls : List Called) → is_outstanding calls ≡ is_outstanding (since_made calls)
same_outstanding [] = refl
same_outstanding (c ∷ rest) = refl

-- a sequence of Binds and Unbinds is one since it was made
pub as_made : (calls : List Called) → is_whiteboard_sequence calls ≡ true → is_sequence (since_made calls) ≡ true
as_made calls is =
    let parts = and_parts (are_binds calls && one_at_a_time calls) (alternate [] calls) is in
    let both = and_parts (are_binds calls) (one_at_a_time calls) parts.0 in
    and_from (active calls && one_at_a_time calls) (alternate [] calls) (and_from (active calls) (one_at_a_time calls) (binds_stay calls both.0) both.1) parts.1

-- and back
pub as_bound : (calls : List Called) → are_binds calls ≡ true → is_sequence (since_made calls) ≡ true → is_whiteboard_sequence calls ≡ true
as_bound calls binds is =
    let parts = and_parts (active calls && one_at_a_time calls) (alternate [] calls) is in
    let both = and_parts (active calls) (one_at_a_time calls) parts.0 in
    and_from (are_binds calls && one_at_a_time calls) (alternate [] calls) (and_from (are_binds calls) (one_at_a_time calls) binds both.1) parts.1

binds_of : (calls : List Called) → is_whiteboard_sequence calls ≡ true → are_binds calls ≡ true
binds_of calls is = (and_parts (are_binds calls) (one_at_a_time calls) (and_parts (are_binds calls && one_at_a_time calls) (alternate [] calls) is).0).0

-- ---- an outcome ends the outstanding one

binds_ended : (o : Outcome) (calls : List Called) → are_binds (ended o calls) ≡ are_binds calls
binds_ended o [] = refl
binds_ended o (c ∷ []) = refl
binds_ended o (c ∷ d ∷ rest) = ap (λ b. is_bind_or_unbind c.callback && b) (binds_ended o (d ∷ rest))

made_ended : (o : Outcome) (calls : List Called) → is_sequence (since_made calls) ≡ true → is_sequence (since_made (ended o calls)) ≡ true
made_ended o [] is = is
made_ended o (c ∷ rest) is = is_sequence-ended o (since_made (c ∷ rest)) ∙ is

pub board_ended : (o : Outcome) (calls : List Called) → is_whiteboard_sequence calls ≡ true → is_whiteboard_sequence (ended o calls) ≡ true
board_ended o calls is = as_bound (ended o calls) (binds_ended o calls ∙ binds_of calls is) (made_ended o calls (as_made calls is))

-- ---- the due callback

module _ (names : List (List ℕ)) (calls : List Called) (v : InstanceView) (phase : v.phase ≡ Active) (going_on : v.ending ≡ false) (outstanding : v.outstanding ≡ is_outstanding calls)
    (held : AllZip (λ (r : ReferenceView) (name : List ℕ). HoldsThese r (held_for name calls)) v.references names) (spoken : speaks_of names calls ≡ true) (order : is_whiteboard_sequence calls ≡ true) where
  is_view : IsViewOf names (since_made calls) v
  is_view = record {
    phase = phase ∙ binds_active calls (binds_of calls order);
    outstanding = outstanding ∙ same_outstanding calls;
    held = held;
    spoken = spoken;
  }

  pub board_may : (d : DueRef) → due_of v ≡ Some d → MayComeNext names (since_made calls) (callback_of names d)
  board_may d is = due_may_come names (since_made calls) v d (as_made calls order) (binds_live calls (binds_of calls order)) (omega arith) is_view is

-- where nothing is told of changed services, and its own properties haven't changed, it is a Bind or an Unbind
module _ (names : List (List ℕ)) where
  abbrev Binds : DueRef → Type 0
  Binds d = is_bind_or_unbind (callback_of names d) ≡ true

  binds_one : (i : ℕ) (r : ℕ × ReferenceView) → OfSome Binds (bind_at i r)
  binds_one i r = go (to_bind r.1)
    where
      go : (o : Option ℕ) → OfSome Binds (option_map (λ s. BindDue i r.0 s) o)
      go None = tt
      go (Some s) = refl

  unbinds_one : (i : ℕ) (r : ℕ × ReferenceView) → OfSome Binds (unbind_at i r)
  unbinds_one i r = go (to_unbind r.1)
    where
      go : (o : Option ℕ) → OfSome Binds (option_map (λ s. UnbindDue i r.0 s) o)
      go None = tt
      go (Some s) = refl

  tells_none : (i : ℕ) (r : ℕ × ReferenceView) → r.1.told ≡ false → OfSome Binds (tell_at i r)
  tells_none i r silent = subst (λ (o : Option ℕ). OfSome Binds (option_map (λ s. UpdatedDue i r.0 s) o)) (sym (ap (λ b. cond b (option_map (λ h. h.service) (find (λ h. h.changed) r.1.held)) None) silent)) tt

  each_any : {X : Type 0} (P : X → Type 0) → ((x : X) → P x) → (xs : List X) → Each P xs
  each_any P all [] = tt
  each_any P all (x ∷ xs) = (all x, each_any P all xs)

  abbrev Silent : (ℕ × ReferenceView) → Type 0
  Silent r = r.1.told ≡ false

  binds_while_active : (v : InstanceView) → v.stale ≡ false → Each Silent (with_places 0 v.references) → OfSome Binds (due_while_active v)
  binds_while_active v fresh silent =
      let rs = with_places 0 v.references in
      let binds = map (bind_at v.instance) rs in
      let unbinds = map (unbind_at v.instance) rs in
      let tells = map (tell_at v.instance) rs in
      first_some-each Binds (binds ++ unbinds ++ tells ++ modified_if_stale v ∷ [])
      (each-append (OfSome Binds) (binds ++ unbinds ++ tells) (modified_if_stale v ∷ [])
      (each-append (OfSome Binds) (binds ++ unbinds) tells
      (each-append (OfSome Binds) binds unbinds
      (each-map Silent (OfSome Binds) (bind_at v.instance) rs silent (λ r e. binds_one v.instance r))
      (each-map Silent (OfSome Binds) (unbind_at v.instance) rs silent (λ r e. unbinds_one v.instance r)))
      (each-map Silent (OfSome Binds) (tell_at v.instance) rs silent (λ r e. tells_none v.instance r e)))
      (subst (OfSome Binds) (sym (ap (λ b. cond b (Some (ModifiedDue v.instance)) None) fresh)) tt, tt))

  pub board_binds : (v : InstanceView) → v.phase ≡ Active → v.ending ≡ false → v.stale ≡ false → Each Silent (with_places 0 v.references) → (d : DueRef) → due_of v ≡ Some d → is_bind_or_unbind (callback_of names d) ≡ true
  board_binds v phase going_on fresh silent d is = subst (OfSome Binds) is due
    where
      while : OfSome Binds (due_while_active v)
      while = binds_while_active v fresh silent

      active_due : OfSome Binds (cond v.ending (due_while_ending v v.phase) (due_in_phase v v.phase))
      active_due = subst (λ b. OfSome Binds (cond b (due_while_ending v v.phase) (due_in_phase v v.phase))) (sym going_on) (subst (λ (p : Phase). OfSome Binds (due_in_phase v p)) (sym phase) while)

      go : (b : Bool) → OfSome Binds (cond b None (cond v.ending (due_while_ending v v.phase) (due_in_phase v v.phase)))
      go true = tt
      go false = active_due

      due : OfSome Binds (due_of v)
      due = go v.outstanding

-- and then they are in order with it
pub board_more : (names : List (List ℕ)) (calls : List Called) (callback : Callback) → is_whiteboard_sequence calls ≡ true → is_bind_or_unbind callback ≡ true → MayComeNext names (since_made calls) callback → is_whiteboard_sequence (calls ++ begun callback ∷ []) ≡ true
board_more names calls callback is binds may = as_bound (calls ++ begun callback ∷ []) (binds_more calls (begun callback) (binds_of calls is) binds) may.order
