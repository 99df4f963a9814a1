-- Callbacks in order are in order without the last ones.
use Rattle.std.proofs.Common.{◌≡◌, List, [], ◌∷◌, ◌++◌, Bool, true, false, refl, ap}
use Rattle.std.specs.Prelude.{◌&&◌, ◌||◌, is_some, if◌then◌else◌}
use Rattle.std.specs.List.{list_all}
use Rattle.std.proofs.lemmas.Bool.{and_parts, and_from, false≢true}
use Rattle.callback_orders.specs.declared.word.Called.{Called}
use Rattle.callback_orders.specs.Sequences.{Bound, bound_after, may_come, alternate, is_over, is_done, one_at_a_time, is_bind_or_unbind, leaving, active, making, created, is_sequence, is_whiteboard_sequence, is_in_order, all_but_last}
use Rattle.callback_orders.proofs.Fronts.{leaving_front, active_front, making_front, created_front}

over-before : (calls more : List Called) → is_over (calls ++ more) ≡ true → is_over calls ≡ true
over-before [] more h = refl
over-before (c ∷ calls) more h = absurd (false≢true h)

leaving-before : (calls more : List Called) → leaving (calls ++ more) ≡ true → leaving calls ≡ true
leaving-before [] more h = refl
leaving-before (c ∷ calls) more h =
    leaving_front c.callback (is_over (calls ++ more)) (leaving (calls ++ more)) (is_over calls) (leaving calls) h (over-before calls more) (leaving-before calls more)

active-before : (calls more : List Called) → active (calls ++ more) ≡ true → active calls ≡ true
active-before [] more h = refl
active-before (c ∷ calls) more h =
    active_front c.callback (active (calls ++ more)) (leaving (calls ++ more)) (active calls) (leaving calls) h (active-before calls more) (leaving-before calls more)

choice-before : (t a b a' b' : Bool) → (a ≡ true → a' ≡ true) → (b ≡ true → b' ≡ true) → (if t then a else b) ≡ true → (if t then a' else b') ≡ true
choice-before true a b a' b' f g h = f h
choice-before false a b a' b' f g h = g h

making-before : (calls more : List Called) → making (calls ++ more) ≡ true → making calls ≡ true
making-before [] more h = refl
making-before (c ∷ calls) more h =
    making_front c.callback (is_over (calls ++ more)) (making (calls ++ more)) (if is_done c.outcome then active (calls ++ more) else leaving (calls ++ more))
    (is_over calls) (making calls) (if is_done c.outcome then active calls else leaving calls)
    h (over-before calls more) (making-before calls more)
    (choice-before (is_done c.outcome) (active (calls ++ more)) (leaving (calls ++ more)) (active calls) (leaving calls) (active-before calls more) (leaving-before calls more))

created-before : (calls more : List Called) → created (calls ++ more) ≡ true → created calls ≡ true
created-before [] more h = refl
created-before (c ∷ calls) more h =
    created_front c.callback (if is_done c.outcome then making (calls ++ more) else is_over (calls ++ more)) (if is_done c.outcome then making calls else is_over calls) h
    (choice-before (is_done c.outcome) (making (calls ++ more)) (is_over (calls ++ more)) (making calls) (is_over calls) (making-before calls more) (over-before calls more))

ended_or_over : (t a b : Bool) → (a ≡ true → b ≡ true) → (t || a) ≡ true → (t || b) ≡ true
ended_or_over true a b f h = refl
ended_or_over false a b f h = f h

one_at_a_time-before : (calls more : List Called) → one_at_a_time (calls ++ more) ≡ true → one_at_a_time calls ≡ true
one_at_a_time-before [] more h = refl
one_at_a_time-before (c ∷ calls) more h =
    let p = and_parts (is_some c.outcome || is_over (calls ++ more)) (one_at_a_time (calls ++ more)) h in
    and_from _ _ (ended_or_over (is_some c.outcome) (is_over (calls ++ more)) (is_over calls) (over-before calls more) p.0) (one_at_a_time-before calls more p.1)

alternate-before : (bound : List Bound) (calls more : List Called) → alternate bound (calls ++ more) ≡ true → alternate bound calls ≡ true
alternate-before bound [] more h = refl
alternate-before bound (c ∷ calls) more h =
    let p = and_parts (may_come c.callback bound) (alternate (bound_after c.callback bound) (calls ++ more)) h in
    and_from _ _ p.0 (alternate-before (bound_after c.callback bound) calls more p.1)

binds-before : (calls more : List Called) → list_all (λ (c : Called). is_bind_or_unbind c.callback) (calls ++ more) ≡ true → list_all (λ (c : Called). is_bind_or_unbind c.callback) calls ≡ true
binds-before [] more h = refl
binds-before (c ∷ calls) more h =
    let p = and_parts (is_bind_or_unbind c.callback) (list_all (λ (c : Called). is_bind_or_unbind c.callback) (calls ++ more)) h in
    and_from _ _ p.0 (binds-before calls more p.1)

all_three : (a b c a' b' c' : Bool) → (a ≡ true → a' ≡ true) → (b ≡ true → b' ≡ true) → (c ≡ true → c' ≡ true) → (a && b && c) ≡ true → (a' && b' && c') ≡ true
all_three a b c a' b' c' f g k h =
    let p = and_parts (a && b) c h in
    let q = and_parts a b p.0 in
    and_from _ _ (and_from _ _ (f q.0) (g q.1)) (k p.1)

one_of_two : (a b a' b' : Bool) → (a ≡ true → a' ≡ true) → (b ≡ true → b' ≡ true) → (a || b) ≡ true → (a' || b') ≡ true
one_of_two true b a' b' f g h = ap (λ t. t || b') (f refl)
one_of_two false b true b' f g h = refl
one_of_two false b false b' f g h = g h

pub is_in_order-before : (calls more : List Called) → is_in_order (calls ++ more) ≡ true → is_in_order calls ≡ true
is_in_order-before calls more h =
    one_of_two (is_sequence (calls ++ more)) (is_whiteboard_sequence (calls ++ more)) (is_sequence calls) (is_whiteboard_sequence calls)
    (all_three _ _ _ _ _ _ (created-before calls more) (one_at_a_time-before calls more) (alternate-before [] calls more))
    (all_three _ _ _ _ _ _ (binds-before calls more) (one_at_a_time-before calls more) (alternate-before [] calls more)) h

pub all_but_last-pushed : (calls : List Called) (c : Called) → all_but_last (calls ++ c ∷ []) ≡ calls
all_but_last-pushed [] c = refl
all_but_last-pushed (d ∷ []) c = refl
all_but_last-pushed (d ∷ e ∷ rest) c = ap (λ (l : List Called). d ∷ l) (all_but_last-pushed (e ∷ rest) c)
