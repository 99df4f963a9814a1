-- One callback more, after callbacks that are in order.
use Rattle.std.proofs.Common.{◌≡◌, List, [], ◌∷◌, ◌++◌, Bool, true, false, refl, sym, ◌<◌, ℕ, length, arith}
use Rattle.std.specs.Prelude.{◌||◌, ◌&&◌, Option, Some, None, is_some, is_none, if◌then◌else◌}
use Rattle.std.proofs.lemmas.Bool.{and_parts, and_from, false≢true}
use Rattle.callback_orders.specs.declared.callback.Callback.{Callback}
use Rattle.callback_orders.specs.declared.callback.Callback.TheVariants.{Create, Bind, Updated, Unbind, Activate, Modified, Deactivate, Destroy}
use Rattle.callback_orders.specs.declared.callback.Outcome.{Outcome}
use Rattle.callback_orders.specs.declared.callback.Outcome.TheVariants.{Done, Refused, NoMemory}
use Rattle.callback_orders.specs.declared.instance_view.Phase.{Phase}
use Rattle.callback_orders.specs.declared.instance_view.Phase.TheVariants.{Making, Active, Left}
use Rattle.callback_orders.specs.declared.word.Called.{Called}
use Rattle.callback_orders.specs.Sequences.{Bound, begun, is_done, is_over, have_ended, is_outstanding, one_at_a_time, bound_after, may_come, alternate, leaving_by, leaving, active_by, active, making_by, making, created_by, created, is_sequence}
use Rattle.callback_orders.specs.Lives.{phase_by, phase_after, phase_of, goes_on, is_living, names_one_of, speaks_of}
use Rattle.callback_orders.proofs.RoundLemmas.{bound_end}

-- what may follow by how far the instance is
abbrev pub may_follow : Phase → Callback → Bool
may_follow Making (Bind r s) = true
may_follow Making (Unbind r s) = true
may_follow Making Activate = true
may_follow Making Destroy = true
may_follow Making _ = false
may_follow Active (Bind r s) = true
may_follow Active (Updated r s) = true
may_follow Active (Unbind r s) = true
may_follow Active Modified = true
may_follow Active Deactivate = true
may_follow Active _ = false
may_follow Left (Unbind r s) = true
may_follow Left Destroy = true
may_follow Left _ = false

leaves_last : (next : Callback) → may_follow Left next ≡ true → leaving_by next true true ≡ true
leaves_last (Unbind r s) f = refl
leaves_last Destroy f = refl
leaves_last Create f = absurd (false≢true f)
leaves_last (Bind r s) f = absurd (false≢true f)
leaves_last (Updated r s) f = absurd (false≢true f)
leaves_last Activate f = absurd (false≢true f)
leaves_last Modified f = absurd (false≢true f)
leaves_last Deactivate f = absurd (false≢true f)

active_last : (next : Callback) → may_follow Active next ≡ true → active_by next true true ≡ true
active_last (Bind r s) f = refl
active_last (Updated r s) f = refl
active_last (Unbind r s) f = refl
active_last Modified f = refl
active_last Deactivate f = refl
active_last Create f = absurd (false≢true f)
active_last Activate f = absurd (false≢true f)
active_last Destroy f = absurd (false≢true f)

making_last : (next : Callback) → may_follow Making next ≡ true → making_by next true true true ≡ true
making_last (Bind r s) f = refl
making_last (Unbind r s) f = refl
making_last Activate f = refl
making_last Destroy f = refl
making_last Create f = absurd (false≢true f)
making_last (Updated r s) f = absurd (false≢true f)
making_last Modified f = absurd (false≢true f)
making_last Deactivate f = absurd (false≢true f)

-- a Destroy that has ended isn't followed
no_destroy : (o : Option Outcome) → goes_on Destroy o ≡ true → is_some o ≡ true → ⊥
no_destroy None g e = false≢true e
no_destroy (Some x) g e = false≢true g

leaving_onto : (callback : Callback) (o : Option Outcome) (rest : List Called) (next : Callback) → goes_on callback o ≡ true → is_some o ≡ true
    → leaving_by callback (is_over rest) (leaving rest) ≡ true → may_follow (phase_after (phase_by callback o Left) rest) next ≡ true
    → (leaving rest ≡ true → may_follow (phase_after Left rest) next ≡ true → leaving (rest ++ begun next ∷ []) ≡ true)
    → leaving_by callback (is_over (rest ++ begun next ∷ [])) (leaving (rest ++ begun next ∷ [])) ≡ true
leaving_onto (Unbind r s) o rest next g e h f ls = ls h f
leaving_onto Destroy o rest next g e h f ls = absurd (no_destroy o g e)
leaving_onto Create o rest next g e h f ls = absurd (false≢true h)
leaving_onto (Bind r s) o rest next g e h f ls = absurd (false≢true h)
leaving_onto (Updated r s) o rest next g e h f ls = absurd (false≢true h)
leaving_onto Activate o rest next g e h f ls = absurd (false≢true h)
leaving_onto Modified o rest next g e h f ls = absurd (false≢true h)
leaving_onto Deactivate o rest next g e h f ls = absurd (false≢true h)

leaving-onto : (calls : List Called) (next : Callback) → is_living calls ≡ true → have_ended calls ≡ true → leaving calls ≡ true → may_follow (phase_after Left calls) next ≡ true
    → leaving (calls ++ begun next ∷ []) ≡ true
leaving-onto [] next l e h f = leaves_last next f
leaving-onto (c ∷ rest) next l e h f =
    let p = and_parts (goes_on c.callback c.outcome) (is_living rest) l in
    let q = and_parts (is_some c.outcome) (have_ended rest) e in
    leaving_onto c.callback c.outcome rest next p.0 q.0 h f (leaving-onto rest next p.1 q.1)

active_onto : (callback : Callback) (o : Option Outcome) (rest : List Called) (next : Callback) → is_some o ≡ true
    → active_by callback (active rest) (leaving rest) ≡ true → may_follow (phase_after (phase_by callback o Active) rest) next ≡ true
    → (active rest ≡ true → may_follow (phase_after Active rest) next ≡ true → active (rest ++ begun next ∷ []) ≡ true)
    → (leaving rest ≡ true → may_follow (phase_after Left rest) next ≡ true → leaving (rest ++ begun next ∷ []) ≡ true)
    → active_by callback (active (rest ++ begun next ∷ [])) (leaving (rest ++ begun next ∷ [])) ≡ true
active_onto (Bind r s) o rest next e h f as_ ls = as_ h f
active_onto (Updated r s) o rest next e h f as_ ls = as_ h f
active_onto (Unbind r s) o rest next e h f as_ ls = as_ h f
active_onto Modified o rest next e h f as_ ls = as_ h f
active_onto Deactivate (Some x) rest next e h f as_ ls = ls h f
active_onto Deactivate None rest next e h f as_ ls = absurd (false≢true e)
active_onto Create o rest next e h f as_ ls = absurd (false≢true h)
active_onto Activate o rest next e h f as_ ls = absurd (false≢true h)
active_onto Destroy o rest next e h f as_ ls = absurd (false≢true h)

active-onto : (calls : List Called) (next : Callback) → is_living calls ≡ true → have_ended calls ≡ true → active calls ≡ true → may_follow (phase_after Active calls) next ≡ true
    → active (calls ++ begun next ∷ []) ≡ true
active-onto [] next l e h f = active_last next f
active-onto (c ∷ rest) next l e h f =
    let p = and_parts (goes_on c.callback c.outcome) (is_living rest) l in
    let q = and_parts (is_some c.outcome) (have_ended rest) e in
    active_onto c.callback c.outcome rest next q.0 h f (active-onto rest next p.1 q.1) (leaving-onto rest next p.1 q.1)

making_onto : (callback : Callback) (o : Option Outcome) (rest : List Called) (next : Callback) → goes_on callback o ≡ true → is_some o ≡ true
    → making_by callback (is_over rest) (making rest) (if is_done o then active rest else leaving rest) ≡ true
    → may_follow (phase_after (phase_by callback o Making) rest) next ≡ true
    → (making rest ≡ true → may_follow (phase_after Making rest) next ≡ true → making (rest ++ begun next ∷ []) ≡ true)
    → (active rest ≡ true → may_follow (phase_after Active rest) next ≡ true → active (rest ++ begun next ∷ []) ≡ true)
    → (leaving rest ≡ true → may_follow (phase_after Left rest) next ≡ true → leaving (rest ++ begun next ∷ []) ≡ true)
    → making_by callback (is_over (rest ++ begun next ∷ [])) (making (rest ++ begun next ∷ []))
    (if is_done o then active (rest ++ begun next ∷ []) else leaving (rest ++ begun next ∷ [])) ≡ true
making_onto (Bind r s) o rest next g e h f ms as_ ls = ms h f
making_onto (Unbind r s) o rest next g e h f ms as_ ls = ms h f
making_onto Activate (Some Done) rest next g e h f ms as_ ls = as_ h f
making_onto Activate (Some Refused) rest next g e h f ms as_ ls = ls h f
making_onto Activate (Some NoMemory) rest next g e h f ms as_ ls = ls h f
making_onto Activate None rest next g e h f ms as_ ls = absurd (false≢true e)
making_onto Destroy o rest next g e h f ms as_ ls = absurd (no_destroy o g e)
making_onto Create o rest next g e h f ms as_ ls = absurd (false≢true h)
making_onto (Updated r s) o rest next g e h f ms as_ ls = absurd (false≢true h)
making_onto Modified o rest next g e h f ms as_ ls = absurd (false≢true h)
making_onto Deactivate o rest next g e h f ms as_ ls = absurd (false≢true h)

making-onto : (calls : List Called) (next : Callback) → is_living calls ≡ true → have_ended calls ≡ true → making calls ≡ true → may_follow (phase_after Making calls) next ≡ true
    → making (calls ++ begun next ∷ []) ≡ true
making-onto [] next l e h f = making_last next f
making-onto (c ∷ rest) next l e h f =
    let p = and_parts (goes_on c.callback c.outcome) (is_living rest) l in
    let q = and_parts (is_some c.outcome) (have_ended rest) e in
    making_onto c.callback c.outcome rest next p.0 q.0 h f (making-onto rest next p.1 q.1) (active-onto rest next p.1 q.1) (leaving-onto rest next p.1 q.1)

created_onto : (callback : Callback) (o : Option Outcome) (rest : List Called) (next : Callback) → goes_on callback o ≡ true → is_some o ≡ true
    → created_by callback (if is_done o then making rest else is_over rest) ≡ true → may_follow (phase_after (phase_by callback o Making) rest) next ≡ true
    → (making rest ≡ true → may_follow (phase_after Making rest) next ≡ true → making (rest ++ begun next ∷ []) ≡ true)
    → created_by callback (if is_done o then making (rest ++ begun next ∷ []) else is_over (rest ++ begun next ∷ [])) ≡ true
created_onto Create (Some Done) rest next g e h f ms = ms h f
created_onto Create (Some Refused) rest next g e h f ms = absurd (false≢true g)
created_onto Create (Some NoMemory) rest next g e h f ms = absurd (false≢true g)
created_onto Create None rest next g e h f ms = absurd (false≢true e)
created_onto (Bind r s) o rest next g e h f ms = absurd (false≢true h)
created_onto (Updated r s) o rest next g e h f ms = absurd (false≢true h)
created_onto (Unbind r s) o rest next g e h f ms = absurd (false≢true h)
created_onto Activate o rest next g e h f ms = absurd (false≢true h)
created_onto Modified o rest next g e h f ms = absurd (false≢true h)
created_onto Deactivate o rest next g e h f ms = absurd (false≢true h)
created_onto Destroy o rest next g e h f ms = absurd (false≢true h)

created-onto : (calls : List Called) (next : Callback) → 0 < length calls → is_living calls ≡ true → have_ended calls ≡ true → created calls ≡ true → may_follow (phase_of calls) next ≡ true
    → created (calls ++ begun next ∷ []) ≡ true
created-onto [] next n l e h f = absurd (omega arith)
created-onto (c ∷ rest) next n l e h f =
    let p = and_parts (goes_on c.callback c.outcome) (is_living rest) l in
    let q = and_parts (is_some c.outcome) (have_ended rest) e in
    created_onto c.callback c.outcome rest next p.0 q.0 h f (making-onto rest next p.1 q.1)

-- callbacks of which none is outstanding have ended
some_outcome : (o : Option Outcome) → is_none o ≡ false → (is_some o && true) ≡ true
some_outcome (Some x) n = refl
some_outcome None n = absurd (false≢true (sym n))

ended_first : (t b : Bool) → (t || false) ≡ true → b ≡ true → (t && b) ≡ true
ended_first true b h k = k
ended_first false b h k = absurd (false≢true h)

pub none_outstanding : (calls : List Called) → one_at_a_time calls ≡ true → is_outstanding calls ≡ false → have_ended calls ≡ true
none_outstanding [] t n = refl
none_outstanding (c ∷ []) t n = some_outcome c.outcome n
none_outstanding (c ∷ d ∷ rest) t n =
    let p = and_parts (is_some c.outcome || false) (one_at_a_time (d ∷ rest)) t in
    ended_first (is_some c.outcome) (have_ended (d ∷ rest)) p.0 (none_outstanding (d ∷ rest) p.1 n)

ended_then : (t v b : Bool) → t ≡ true → b ≡ true → ((t || v) && b) ≡ true
ended_then true v b h k = k
ended_then false v b h k = absurd (false≢true h)

one_at_a_time-onto : (calls : List Called) (next : Callback) → have_ended calls ≡ true → one_at_a_time (calls ++ begun next ∷ []) ≡ true
one_at_a_time-onto [] next e = refl
one_at_a_time-onto (c ∷ rest) next e =
    let q = and_parts (is_some c.outcome) (have_ended rest) e in
    ended_then (is_some c.outcome) (is_over (rest ++ begun next ∷ [])) (one_at_a_time (rest ++ begun next ∷ [])) q.0 (one_at_a_time-onto rest next q.1)

alternate-onto : (bound : List Bound) (calls : List Called) (next : Callback) → alternate bound calls ≡ true → may_come next (bound_end bound calls) ≡ true
    → alternate bound (calls ++ begun next ∷ []) ≡ true
alternate-onto bound [] next a m = and_from _ _ m refl
alternate-onto bound (c ∷ rest) next a m =
    let p = and_parts (may_come c.callback bound) (alternate (bound_after c.callback bound) rest) a in
    and_from _ _ p.0 (alternate-onto (bound_after c.callback bound) rest next p.1 m)

pub is_sequence-onto : (calls : List Called) (next : Callback) → 0 < length calls → is_living calls ≡ true → have_ended calls ≡ true → is_sequence calls ≡ true
    → may_follow (phase_of calls) next ≡ true → may_come next (bound_end [] calls) ≡ true → is_sequence (calls ++ begun next ∷ []) ≡ true
is_sequence-onto calls next n l e h f m =
    let p = and_parts (created calls && one_at_a_time calls) (alternate [] calls) h in
    let q = and_parts (created calls) (one_at_a_time calls) p.0 in
    and_from _ _ (and_from _ _ (created-onto calls next n l e q.0 f) (one_at_a_time-onto calls next e)) (alternate-onto [] calls next p.1 m)

pub speaks_of-onto : (names : List (List ℕ)) (calls : List Called) (next : Callback) → speaks_of names calls ≡ true → names_one_of names next ≡ true
    → speaks_of names (calls ++ begun next ∷ []) ≡ true
speaks_of-onto names [] next s k = and_from _ _ k refl
speaks_of-onto names (c ∷ rest) next s k =
    let p = and_parts (names_one_of names c.callback) (speaks_of names rest) s in
    and_from _ _ p.0 (speaks_of-onto names rest next p.1 k)

living_begun : (next : Callback) → (goes_on next None && true) ≡ true
living_begun Create = refl
living_begun (Bind r s) = refl
living_begun (Updated r s) = refl
living_begun (Unbind r s) = refl
living_begun Activate = refl
living_begun Modified = refl
living_begun Deactivate = refl
living_begun Destroy = refl

pub is_living-onto : (calls : List Called) (next : Callback) → is_living calls ≡ true → is_living (calls ++ begun next ∷ []) ≡ true
is_living-onto [] next l = living_begun next
is_living-onto (c ∷ rest) next l =
    let p = and_parts (goes_on c.callback c.outcome) (is_living rest) l in
    and_from _ _ p.0 (is_living-onto rest next p.1)
