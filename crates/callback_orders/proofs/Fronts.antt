-- Each front of a list that passes the tests passes them, whatever outcome its last callback gets.
use Rattle.std.proofs.Common.{◌≡◌, List, [], ◌∷◌, ◌++◌, Bool, true, false, refl, ap}
use Rattle.std.specs.Prelude.{◌||◌, if◌then◌else◌, Option, Some, None, is_some}
use Rattle.std.specs.List.{list_all}
use Rattle.std.proofs.lemmas.Bool.{and_parts, and_from, false≢true}
use Rattle.callback_orders.specs.declared.callback.Callback.{Callback}
use Rattle.callback_orders.specs.declared.callback.Callback.TheVariants.{Create, Bind, Updated, Unbind, Activate, Modified, Deactivate, Destroy}
use Rattle.callback_orders.specs.declared.callback.Outcome.{Outcome}
use Rattle.callback_orders.specs.declared.callback.Outcome.TheVariants.{Done, Refused, NoMemory}
use Rattle.callback_orders.specs.declared.word.Called.{Called}
use Rattle.callback_orders.specs.Sequences.{Bound, bound_after, may_come, alternate, is_over, is_done, have_ended, one_at_a_time, is_bind_or_unbind, leaving_by, leaving, active_by, active, making_by, making, created_by, created}
use Rattle.callback_orders.specs.Grammar.{about, speaks_of, of, settled, settled_outcome}

over_front : (o : Outcome) (rest more : List Called) → is_over (settled o rest ++ more) ≡ true → is_over rest ≡ true
over_front o [] more h = refl
over_front o (c ∷ rest) more h = absurd (false≢true h)

pub leaving_front : (callback : Callback) (v l v' l' : Bool) → leaving_by callback v l ≡ true → (v ≡ true → v' ≡ true) → (l ≡ true → l' ≡ true) → leaving_by callback v' l' ≡ true
leaving_front (Unbind r s) v l v' l' h f g = g h
leaving_front Destroy v l v' l' h f g = f h
leaving_front Create v l v' l' h f g = absurd (false≢true h)
leaving_front (Bind r s) v l v' l' h f g = absurd (false≢true h)
leaving_front (Updated r s) v l v' l' h f g = absurd (false≢true h)
leaving_front Activate v l v' l' h f g = absurd (false≢true h)
leaving_front Modified v l v' l' h f g = absurd (false≢true h)
leaving_front Deactivate v l v' l' h f g = absurd (false≢true h)

leaving-front : (o : Outcome) (calls more : List Called) → leaving (settled o calls ++ more) ≡ true → leaving calls ≡ true
leaving-front o [] more h = refl
leaving-front o (c ∷ rest) more h =
    leaving_front c.callback (is_over (settled o rest ++ more)) (leaving (settled o rest ++ more)) (is_over rest) (leaving rest) h (over_front o rest more) (leaving-front o rest more)

pub active_front : (callback : Callback) (a l a' l' : Bool) → active_by callback a l ≡ true → (a ≡ true → a' ≡ true) → (l ≡ true → l' ≡ true) → active_by callback a' l' ≡ true
active_front (Bind r s) a l a' l' h f g = f h
active_front (Updated r s) a l a' l' h f g = f h
active_front (Unbind r s) a l a' l' h f g = f h
active_front Modified a l a' l' h f g = f h
active_front Deactivate a l a' l' h f g = g h
active_front Create a l a' l' h f g = absurd (false≢true h)
active_front Activate a l a' l' h f g = absurd (false≢true h)
active_front Destroy a l a' l' h f g = absurd (false≢true h)

active-front : (o : Outcome) (calls more : List Called) → active (settled o calls ++ more) ≡ true → active calls ≡ true
active-front o [] more h = refl
active-front o (c ∷ rest) more h =
    active_front c.callback (active (settled o rest ++ more)) (leaving (settled o rest ++ more)) (active rest) (leaving rest) h (active-front o rest more) (leaving-front o rest more)

pub making_front : (callback : Callback) (v m g v' m' g' : Bool) → making_by callback v m g ≡ true → (v ≡ true → v' ≡ true) → (m ≡ true → m' ≡ true) → (g ≡ true → g' ≡ true) → making_by callback v' m' g' ≡ true
making_front (Bind r s) v m g v' m' g' h fv fm fg = fm h
making_front (Unbind r s) v m g v' m' g' h fv fm fg = fm h
making_front Activate v m g v' m' g' h fv fm fg = fg h
making_front Destroy v m g v' m' g' h fv fm fg = fv h
making_front Create v m g v' m' g' h fv fm fg = absurd (false≢true h)
making_front (Updated r s) v m g v' m' g' h fv fm fg = absurd (false≢true h)
making_front Modified v m g v' m' g' h fv fm fg = absurd (false≢true h)
making_front Deactivate v m g v' m' g' h fv fm fg = absurd (false≢true h)

goes_front : (o : Outcome) (x : Option Outcome) (rest more : List Called)
    → (if is_done (settled_outcome o x (is_over rest)) then active (settled o rest ++ more) else leaving (settled o rest ++ more)) ≡ true
    → (if is_done x then active rest else leaving rest) ≡ true
goes_front o (Some Done) rest more h = active-front o rest more h
goes_front o (Some Refused) rest more h = leaving-front o rest more h
goes_front o (Some NoMemory) rest more h = leaving-front o rest more h
goes_front o None [] more h = refl
goes_front o None (d ∷ rest) more h = leaving-front o (d ∷ rest) more h

making-front : (o : Outcome) (calls more : List Called) → making (settled o calls ++ more) ≡ true → making calls ≡ true
making-front o [] more h = refl
making-front o (c ∷ rest) more h =
    making_front c.callback (is_over (settled o rest ++ more)) (making (settled o rest ++ more))
    (if is_done (settled_outcome o c.outcome (is_over rest)) then active (settled o rest ++ more) else leaving (settled o rest ++ more))
    (is_over rest) (making rest) (if is_done c.outcome then active rest else leaving rest)
    h (over_front o rest more) (making-front o rest more) (goes_front o c.outcome rest more)

create_front : (o : Outcome) (x : Option Outcome) (rest more : List Called)
    → (if is_done (settled_outcome o x (is_over rest)) then making (settled o rest ++ more) else is_over (settled o rest ++ more)) ≡ true
    → (if is_done x then making rest else is_over rest) ≡ true
create_front o (Some Done) rest more h = making-front o rest more h
create_front o (Some Refused) rest more h = over_front o rest more h
create_front o (Some NoMemory) rest more h = over_front o rest more h
create_front o None [] more h = refl
create_front o None (d ∷ rest) more h = absurd (false≢true h)

pub created_front : (callback : Callback) (g g' : Bool) → created_by callback g ≡ true → (g ≡ true → g' ≡ true) → created_by callback g' ≡ true
created_front Create g g' h f = f h
created_front (Bind r s) g g' h f = absurd (false≢true h)
created_front (Updated r s) g g' h f = absurd (false≢true h)
created_front (Unbind r s) g g' h f = absurd (false≢true h)
created_front Activate g g' h f = absurd (false≢true h)
created_front Modified g g' h f = absurd (false≢true h)
created_front Deactivate g g' h f = absurd (false≢true h)
created_front Destroy g g' h f = absurd (false≢true h)

pub created-front : (o : Outcome) (calls more : List Called) → created (settled o calls ++ more) ≡ true → created calls ≡ true
created-front o [] more h = refl
created-front o (c ∷ rest) more h =
    created_front c.callback
    (if is_done (settled_outcome o c.outcome (is_over rest)) then making (settled o rest ++ more) else is_over (settled o rest ++ more))
    (if is_done c.outcome then making rest else is_over rest) h (create_front o c.outcome rest more)

some_front : (o : Outcome) (x : Option Outcome) (v : Bool) → is_some (settled_outcome o x v) ≡ true → (is_some x || v) ≡ true
some_front o (Some y) v h = refl
some_front o None true h = refl
some_front o None false h = absurd (false≢true h)

pub one_at_a_time-front : (o : Outcome) (calls more : List Called) → have_ended (settled o calls ++ more) ≡ true → one_at_a_time calls ≡ true
one_at_a_time-front o [] more h = refl
one_at_a_time-front o (c ∷ rest) more h =
    let p = and_parts (is_some (settled_outcome o c.outcome (is_over rest))) (have_ended (settled o rest ++ more)) h in
    and_from _ _ (some_front o c.outcome (is_over rest) p.0) (one_at_a_time-front o rest more p.1)

pub alternate-front : (o : Outcome) (bound : List Bound) (calls more : List Called) → alternate bound (settled o calls ++ more) ≡ true → alternate bound calls ≡ true
alternate-front o bound [] more h = refl
alternate-front o bound (c ∷ rest) more h =
    let p = and_parts (may_come c.callback bound) (alternate (bound_after c.callback bound) (settled o rest ++ more)) h in
    and_from _ _ p.0 (alternate-front o (bound_after c.callback bound) rest more p.1)

pub binds-front : (o : Outcome) (calls more : List Called) → list_all (of is_bind_or_unbind) (settled o calls ++ more) ≡ true → list_all (of is_bind_or_unbind) calls ≡ true
binds-front o [] more h = refl
binds-front o (c ∷ rest) more h =
    let p = and_parts (is_bind_or_unbind c.callback) (list_all (of is_bind_or_unbind) (settled o rest ++ more)) h in
    and_from _ _ p.0 (binds-front o rest more p.1)

-- the other way: settled callbacks and more
some_settled : (o : Outcome) (x : Option Outcome) (v : Bool) → (is_some x || v) ≡ true → is_some (settled_outcome o x v) ≡ true
some_settled o (Some y) v h = refl
some_settled o None true h = refl
some_settled o None false h = absurd (false≢true h)

pub settled-ended : (o : Outcome) (calls more : List Called) → one_at_a_time calls ≡ true → have_ended more ≡ true → have_ended (settled o calls ++ more) ≡ true
settled-ended o [] more h m = m
settled-ended o (c ∷ rest) more h m =
    let p = and_parts (is_some c.outcome || is_over rest) (one_at_a_time rest) h in
    and_from _ _ (some_settled o c.outcome (is_over rest) p.0) (settled-ended o rest more p.1 m)

pub settled-binds : (o : Outcome) (calls more : List Called) → list_all (of is_bind_or_unbind) calls ≡ true → list_all (of is_bind_or_unbind) more ≡ true → list_all (of is_bind_or_unbind) (settled o calls ++ more) ≡ true
settled-binds o [] more h m = m
settled-binds o (c ∷ rest) more h m =
    let p = and_parts (is_bind_or_unbind c.callback) (list_all (of is_bind_or_unbind) rest) h in
    and_from _ _ p.0 (settled-binds o rest more p.1 m)

about_by : (t : Bool) (callback : Callback) (whole rest more : List Callback) → whole ≡ rest ++ more
    → (if t then callback ∷ whole else whole) ≡ (if t then callback ∷ rest else rest) ++ more
about_by true callback whole rest more e = ap (λ (l : List Callback). callback ∷ l) e
about_by false callback whole rest more e = e

pub about-settled : (x : Bound) (o : Outcome) (calls more : List Called) → about x (settled o calls ++ more) ≡ about x calls ++ about x more
about-settled x o [] more = refl
about-settled x o (c ∷ rest) more = about_by (speaks_of x c.callback) c.callback (about x (settled o rest ++ more)) (about x rest) (about x more) (about-settled x o rest more)
