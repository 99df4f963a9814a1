-- A callback that ends leaves the order as it was.
use Rattle.std.proofs.Common.{◌≡◌, ℕ, ◌-◌, suc, length, get_or, List, [], ◌∷◌, Bool, true, false, refl, ap, ◌∙◌, sym, subst, arith}
use Rattle.std.specs.Prelude.{◌&&◌, ◌||◌, Option, Some, None, is_some, if◌then◌else◌, slice_set}
use Rattle.std.specs.List.{list_all}
use Rattle.callback_orders.specs.declared.callback.Outcome.{Outcome}
use Rattle.callback_orders.specs.declared.callback.Outcome.TheVariants.{Done, Refused, NoMemory}
use Rattle.callback_orders.specs.declared.word.Called.{Called}
use Rattle.callback_orders.specs.Lives.{names_one_of, speaks_of}
use Rattle.callback_orders.specs.Sequences.{Bound, done_with, ended, is_done, is_over, leaving_by, leaving, active_by, active, making_by, making, created_by, created, one_at_a_time, may_come, bound_after, alternate, is_bind_or_unbind, is_sequence, is_whiteboard_sequence, is_in_order}

both : (o : Option Outcome) (P : Bool → Type 0) → P true → P (if is_done o then true else true)
both None P p = p
both (Some Done) P p = p
both (Some Refused) P p = p
both (Some NoMemory) P p = p

either : (o : Option Outcome) → (if is_done o then true else true) ≡ true
either o = both o (λ b. b ≡ true) refl

is_over-ended : (o : Outcome) (calls : List Called) → is_over (ended o calls) ≡ is_over calls
is_over-ended o [] = refl
is_over-ended o (c ∷ []) = refl
is_over-ended o (c ∷ d ∷ rest) = refl

leaving-ended : (o : Outcome) (calls : List Called) → leaving (ended o calls) ≡ leaving calls
leaving-ended o [] = refl
leaving-ended o (c ∷ []) = refl
leaving-ended o (c ∷ d ∷ rest) =
    ap (λ b. leaving_by c.callback b (leaving (ended o (d ∷ rest)))) (is_over-ended o (d ∷ rest))
    ∙ ap (leaving_by c.callback false) (leaving-ended o (d ∷ rest))

active-ended : (o : Outcome) (calls : List Called) → active (ended o calls) ≡ active calls
active-ended o [] = refl
active-ended o (c ∷ []) = refl
active-ended o (c ∷ d ∷ rest) =
    ap (λ b. active_by c.callback b (leaving (ended o (d ∷ rest)))) (active-ended o (d ∷ rest))
    ∙ ap (active_by c.callback (active (d ∷ rest))) (leaving-ended o (d ∷ rest))

making-ended : (o : Outcome) (calls : List Called) → making (ended o calls) ≡ making calls
making-ended o [] = refl
making-ended o (c ∷ []) = ap (making_by c.callback true true) (either (Some o) ∙ sym (either c.outcome))
making-ended o (c ∷ d ∷ rest) =
    ap (λ b. making_by c.callback b (making (ended o (d ∷ rest))) (if is_done c.outcome then active (ended o (d ∷ rest)) else leaving (ended o (d ∷ rest)))) (is_over-ended o (d ∷ rest))
    ∙ ap (λ b. making_by c.callback false b (if is_done c.outcome then active (ended o (d ∷ rest)) else leaving (ended o (d ∷ rest)))) (making-ended o (d ∷ rest))
    ∙ ap (λ b. making_by c.callback false (making (d ∷ rest)) (if is_done c.outcome then b else leaving (ended o (d ∷ rest)))) (active-ended o (d ∷ rest))
    ∙ ap (λ b. making_by c.callback false (making (d ∷ rest)) (if is_done c.outcome then active (d ∷ rest) else b)) (leaving-ended o (d ∷ rest))

created-ended : (o : Outcome) (calls : List Called) → created (ended o calls) ≡ created calls
created-ended o [] = refl
created-ended o (c ∷ []) = ap (created_by c.callback) (either (Some o) ∙ sym (either c.outcome))
created-ended o (c ∷ d ∷ rest) =
    ap (λ b. created_by c.callback (if is_done c.outcome then b else is_over (ended o (d ∷ rest)))) (making-ended o (d ∷ rest))
    ∙ ap (λ b. created_by c.callback (if is_done c.outcome then making (d ∷ rest) else b)) (is_over-ended o (d ∷ rest))

last_may : (x : Option Outcome) → ((is_some x || true) && true) ≡ true
last_may None = refl
last_may (Some x) = refl

one_at_a_time-ended : (o : Outcome) (calls : List Called) → one_at_a_time (ended o calls) ≡ one_at_a_time calls
one_at_a_time-ended o [] = refl
one_at_a_time-ended o (c ∷ []) = sym (last_may c.outcome)
one_at_a_time-ended o (c ∷ d ∷ rest) =
    ap (λ b. (is_some c.outcome || b) && one_at_a_time (ended o (d ∷ rest))) (is_over-ended o (d ∷ rest))
    ∙ ap (λ b. (is_some c.outcome || false) && b) (one_at_a_time-ended o (d ∷ rest))

alternate-ended : (o : Outcome) (bound : List Bound) (calls : List Called) → alternate bound (ended o calls) ≡ alternate bound calls
alternate-ended o bound [] = refl
alternate-ended o bound (c ∷ []) = refl
alternate-ended o bound (c ∷ d ∷ rest) = ap (λ b. may_come c.callback bound && b) (alternate-ended o (bound_after c.callback bound) (d ∷ rest))

all_bind-ended : (o : Outcome) (calls : List Called) → list_all (λ (c : Called). is_bind_or_unbind c.callback) (ended o calls) ≡ list_all (λ (c : Called). is_bind_or_unbind c.callback) calls
all_bind-ended o [] = refl
all_bind-ended o (c ∷ []) = refl
all_bind-ended o (c ∷ d ∷ rest) = ap (λ b. is_bind_or_unbind c.callback && b) (all_bind-ended o (d ∷ rest))

same_and : (a b c a' b' c' : Bool) → a' ≡ a → b' ≡ b → c' ≡ c → (a' && b' && c') ≡ (a && b && c)
same_and a b c a' b' c' e f g = ap (λ x. x && b' && c') e ∙ ap (λ x. a && x && c') f ∙ ap (λ x. a && b && x) g

pub is_sequence-ended : (o : Outcome) (calls : List Called) → is_sequence (ended o calls) ≡ is_sequence calls
is_sequence-ended o calls = same_and _ _ _ _ _ _ (created-ended o calls) (one_at_a_time-ended o calls) (alternate-ended o [] calls)

pub speaks_of-ended : (names : List (List ℕ)) (o : Outcome) (calls : List Called) → speaks_of names (ended o calls) ≡ speaks_of names calls
speaks_of-ended names o [] = refl
speaks_of-ended names o (c ∷ []) = refl
speaks_of-ended names o (c ∷ d ∷ rest) = ap (λ b. names_one_of names c.callback && b) (speaks_of-ended names o (d ∷ rest))

pub is_in_order-ended : (o : Outcome) (calls : List Called) → is_in_order (ended o calls) ≡ is_in_order calls
is_in_order-ended o calls =
    ap (λ b. b || is_whiteboard_sequence (ended o calls)) (is_sequence-ended o calls)
    ∙ ap (λ b. is_sequence calls || b) (same_and _ _ _ _ _ _ (all_bind-ended o calls) (one_at_a_time-ended o calls) (alternate-ended o [] calls))

set_last : (o : Outcome) (c : Called) (rest : List Called) (d : Called)
    → slice_set (c ∷ rest) (length rest) (done_with (get_or (c ∷ rest) (length rest) d).callback o) ≡ ended o (c ∷ rest)
set_last o c [] d = refl
set_last o c (e ∷ rest) d = ap (λ (calls : List Called). c ∷ calls) (set_last o e rest d)

set_before_length : (o : Outcome) (calls : List Called) (d : Called)
    → slice_set calls (length calls - 1) (done_with (get_or calls (length calls - 1) d).callback o) ≡ ended o calls
set_before_length o [] d = refl
set_before_length o (c ∷ rest) d =
    let e : length rest ≡ suc (length rest) - 1 = omega arith in
    subst (λ (i : ℕ). slice_set (c ∷ rest) i (done_with (get_or (c ∷ rest) i d).callback o) ≡ ended o (c ∷ rest)) e (set_last o c rest d)

-- the code's way to end the last callback
pub ended-set : (o : Outcome) (calls : List Called) (d : Called) (n : ℕ) → n ≡ length calls → d ≡ get_or calls (n - 1) d
    → slice_set calls (n - 1) (done_with d.callback o) ≡ ended o calls
ended-set o calls d n e f =
    ap (λ (x : Called). slice_set calls (n - 1) (done_with x.callback o)) f
    ∙ subst (λ (m : ℕ). slice_set calls (m - 1) (done_with (get_or calls (m - 1) d).callback o) ≡ ended o calls) (sym e) (set_before_length o calls d)
