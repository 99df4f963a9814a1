-- What the callback that is outstanding says of those before it.
use Rattle.std.proofs.Common.{◌≡◌, ◌<◌, List, [], ◌∷◌, ◌++◌, length, ap, sym, ◌∙◌, refl, arith, Bool, true, false, ◌&&◌, ◌||◌, Option, Some, None}
use Rattle.std.specs.Prelude.{not, is_none, is_some, if◌then◌else◌}
use Rattle.std.specs.List.{list_any}
use Rattle.std.proofs.lemmas.Bool.{and_parts, false≢true}
use Rattle.callback_orders.specs.declared.callback.Callback.{Callback}
use Rattle.callback_orders.specs.declared.callback.Callback.TheVariants.{Create, Bind, Updated, Unbind, Activate, Modified, Deactivate, Destroy}
use Rattle.callback_orders.specs.declared.callback.Outcome.{Outcome}
use Rattle.callback_orders.specs.declared.callback.Outcome.TheVariants.{Done, Refused, NoMemory}
use Rattle.callback_orders.specs.declared.instance_view.Phase.{Phase}
use Rattle.callback_orders.specs.declared.instance_view.Phase.TheVariants.{Making, Active, Left}
use Rattle.callback_orders.specs.declared.word.Called.{Called}
use Rattle.callback_orders.specs.Grammar.{is_activate}
use Rattle.callback_orders.specs.Lives.{phase_after, phase_by, phase_of}
use Rattle.callback_orders.specs.Sequences.{active, active_by, alternate, begun, created, created_by, done_with, ended, have_ended, is_done, is_failed, is_outstanding, is_over, is_sequence, leaving, leaving_by, making, making_by, one_at_a_time}
use Rattle.callback_orders.proofs.FollowLemmas.{may_follow}

-- ---- the last of callbacks that are in order may follow the others

leaves_last : (next : Callback) → leaving_by next true true ≡ true → may_follow Left next ≡ true
leaves_last (Unbind r s) f = refl
leaves_last Destroy f = refl
leaves_last Create f = cc
leaves_last (Bind r s) f = cc
leaves_last (Updated r s) f = cc
leaves_last Activate f = cc
leaves_last Modified f = cc
leaves_last Deactivate f = cc

active_last : (next : Callback) → active_by next true true ≡ true → may_follow Active next ≡ true
active_last (Bind r s) f = refl
active_last (Updated r s) f = refl
active_last (Unbind r s) f = refl
active_last Modified f = refl
active_last Deactivate f = refl
active_last Create f = cc
active_last Activate f = cc
active_last Destroy f = cc

making_last : (next : Callback) → making_by next true true true ≡ true → may_follow Making next ≡ true
making_last (Bind r s) f = refl
making_last (Unbind r s) f = refl
making_last Activate f = refl
making_last Destroy f = refl
making_last Create f = cc
making_last (Updated r s) f = cc
making_last Modified f = cc
making_last Deactivate f = cc

not_over : (rest : List Called) (c : Called) → is_over (rest ++ c ∷ []) ≡ false
not_over [] c = refl
not_over (d ∷ rest) c = refl

over_never : (rest : List Called) (c : Called) → is_over (rest ++ c ∷ []) ≡ true → ⊥
over_never rest c is = false≢true (sym (not_over rest c) ∙ is)

leaving_front : (callback : Callback) (o : Option Outcome) (rest : List Called) (next : Callback) → leaving_by callback (is_over (rest ++ begun next ∷ [])) (leaving (rest ++ begun next ∷ [])) ≡ true
    → (leaving (rest ++ begun next ∷ []) ≡ true → may_follow (phase_after Left rest) next ≡ true) → may_follow (phase_after (phase_by callback o Left) rest) next ≡ true
leaving_front (Unbind r s) o rest next h later = later h
leaving_front Destroy o rest next h later = absurd (over_never rest (begun next) h)
leaving_front Create o rest next h later = cc
leaving_front (Bind r s) o rest next h later = cc
leaving_front (Updated r s) o rest next h later = cc
leaving_front Activate o rest next h later = cc
leaving_front Modified o rest next h later = cc
leaving_front Deactivate o rest next h later = cc

leaving_may : (calls : List Called) (next : Callback) → leaving (calls ++ begun next ∷ []) ≡ true → may_follow (phase_after Left calls) next ≡ true
leaving_may [] next h = leaves_last next h
leaving_may (c ∷ rest) next h = leaving_front c.callback c.outcome rest next h (leaving_may rest next)

active_front : (callback : Callback) (o : Option Outcome) (rest : List Called) (next : Callback) → is_some o ≡ true → active_by callback (active (rest ++ begun next ∷ [])) (leaving (rest ++ begun next ∷ [])) ≡ true
    → (active (rest ++ begun next ∷ []) ≡ true → may_follow (phase_after Active rest) next ≡ true) → may_follow (phase_after (phase_by callback o Active) rest) next ≡ true
active_front (Bind r s) o rest next e h later = later h
active_front (Updated r s) o rest next e h later = later h
active_front (Unbind r s) o rest next e h later = later h
active_front Modified o rest next e h later = later h
active_front Deactivate (Some x) rest next e h later = leaving_may rest next h
active_front Deactivate None rest next e h later = cc
active_front Create o rest next e h later = cc
active_front Activate o rest next e h later = cc
active_front Destroy o rest next e h later = cc

active_may : (calls : List Called) (next : Callback) → have_ended calls ≡ true → active (calls ++ begun next ∷ []) ≡ true → may_follow (phase_after Active calls) next ≡ true
active_may [] next e h = active_last next h
active_may (c ∷ rest) next e h = let q = and_parts (is_some c.outcome) (have_ended rest) e in active_front c.callback c.outcome rest next q.0 h (active_may rest next q.1)

making_front : (callback : Callback) (o : Option Outcome) (rest : List Called) (next : Callback) → is_some o ≡ true → have_ended rest ≡ true
    → making_by callback (is_over (rest ++ begun next ∷ [])) (making (rest ++ begun next ∷ [])) (if is_done o then active (rest ++ begun next ∷ []) else leaving (rest ++ begun next ∷ [])) ≡ true
    → (making (rest ++ begun next ∷ []) ≡ true → may_follow (phase_after Making rest) next ≡ true) → may_follow (phase_after (phase_by callback o Making) rest) next ≡ true
making_front (Bind r s) o rest next e es h later = later h
making_front (Unbind r s) o rest next e es h later = later h
making_front Activate (Some Done) rest next e es h later = active_may rest next es h
making_front Activate (Some Refused) rest next e es h later = leaving_may rest next h
making_front Activate (Some NoMemory) rest next e es h later = leaving_may rest next h
making_front Activate None rest next e es h later = cc
making_front Destroy o rest next e es h later = absurd (over_never rest (begun next) h)
making_front Create o rest next e es h later = cc
making_front (Updated r s) o rest next e es h later = cc
making_front Modified o rest next e es h later = cc
making_front Deactivate o rest next e es h later = cc

making_may : (calls : List Called) (next : Callback) → have_ended calls ≡ true → making (calls ++ begun next ∷ []) ≡ true → may_follow (phase_after Making calls) next ≡ true
making_may [] next e h = making_last next h
making_may (c ∷ rest) next e h = let q = and_parts (is_some c.outcome) (have_ended rest) e in making_front c.callback c.outcome rest next q.0 q.1 h (making_may rest next q.1)

created_front : (callback : Callback) (o : Option Outcome) (rest : List Called) (next : Callback) → is_some o ≡ true → have_ended rest ≡ true
    → created_by callback (if is_done o then making (rest ++ begun next ∷ []) else is_over (rest ++ begun next ∷ [])) ≡ true → may_follow (phase_after (phase_by callback o Making) rest) next ≡ true
created_front Create (Some Done) rest next e es h = making_may rest next es h
created_front Create (Some Refused) rest next e es h = absurd (over_never rest (begun next) h)
created_front Create (Some NoMemory) rest next e es h = absurd (over_never rest (begun next) h)
created_front Create None rest next e es h = cc
created_front (Bind r s) o rest next e es h = cc
created_front (Updated r s) o rest next e es h = cc
created_front (Unbind r s) o rest next e es h = cc
created_front Activate o rest next e es h = cc
created_front Modified o rest next e es h = cc
created_front Deactivate o rest next e es h = cc
created_front Destroy o rest next e es h = cc

-- those before it aren't empty, or it is a Create
pub sequence_may : (calls : List Called) (next : Callback) → 0 < length calls → have_ended calls ≡ true → is_sequence (calls ++ begun next ∷ []) ≡ true → may_follow (phase_of calls) next ≡ true
sequence_may [] next some e h = absurd (omega (arith, some))
sequence_may (c ∷ rest) next some e h =
    let whole = c ∷ rest ++ begun next ∷ [] in
    let p = and_parts (created whole && one_at_a_time whole) (alternate [] whole) h in
    let q = and_parts (created whole) (one_at_a_time whole) p.0 in
    let f = and_parts (is_some c.outcome) (have_ended rest) e in
    created_front c.callback c.outcome rest next f.0 f.1 q.0

-- ---- an instance in the making wasn't activated

abbrev pub is_making : Phase → Bool
is_making Making = true
is_making Active = false
is_making Left = false

pub never_by : (callback : Callback) (o : Option Outcome) (phase : Phase) → is_making phase ≡ false → is_making (phase_by callback o phase) ≡ false
never_by Create o phase off = off
never_by (Bind r s) o phase off = off
never_by (Updated r s) o phase off = off
never_by (Unbind r s) o phase off = off
never_by Activate None phase off = off
never_by Activate (Some Done) phase off = refl
never_by Activate (Some Refused) phase off = refl
never_by Activate (Some NoMemory) phase off = refl
never_by Modified o phase off = off
never_by Deactivate None phase off = off
never_by Deactivate (Some x) phase off = refl
never_by Destroy o phase off = off

never_back : (calls : List Called) (phase : Phase) → is_making phase ≡ false → is_making (phase_after phase calls) ≡ false
never_back [] phase off = off
never_back (c ∷ rest) phase off = never_back rest (phase_by c.callback c.outcome phase) (never_by c.callback c.outcome phase off)

abbrev activated_in : List Called → Bool
activated_in calls = list_any (λ (c : Called). is_activate c.callback && not (is_failed c.outcome)) calls

unactivated_by : (callback : Callback) (o : Option Outcome) (rest : List Called) → is_some o ≡ true → is_making (phase_after (phase_by callback o Making) rest) ≡ true
    → (is_making (phase_after Making rest) ≡ true → activated_in rest ≡ false) → ((is_activate callback && not (is_failed o)) || activated_in rest) ≡ false
unactivated_by Create o rest e on later = later on
unactivated_by (Bind r s) o rest e on later = later on
unactivated_by (Updated r s) o rest e on later = later on
unactivated_by (Unbind r s) o rest e on later = later on
unactivated_by Activate None rest e on later = cc
unactivated_by Activate (Some Done) rest e on later = absurd (false≢true (sym (never_back rest Active refl) ∙ on))
unactivated_by Activate (Some Refused) rest e on later = absurd (false≢true (sym (never_back rest Left refl) ∙ on))
unactivated_by Activate (Some NoMemory) rest e on later = absurd (false≢true (sym (never_back rest Left refl) ∙ on))
unactivated_by Modified o rest e on later = later on
unactivated_by Deactivate None rest e on later = cc
unactivated_by Deactivate (Some x) rest e on later = absurd (false≢true (sym (never_back rest Left refl) ∙ on))
unactivated_by Destroy o rest e on later = later on

pub unactivated : (calls : List Called) → have_ended calls ≡ true → is_making (phase_of calls) ≡ true → activated_in calls ≡ false
unactivated [] e on = refl
unactivated (c ∷ rest) e on = let q = and_parts (is_some c.outcome) (have_ended rest) e in unactivated_by c.callback c.outcome rest q.0 on (unactivated rest q.1)

-- ---- callbacks of which the last one is outstanding

pub record IsFront (calls : List Called) : Type 0 where
  pub before : List Called
  pub last : Callback
  pub whole : calls ≡ before ++ begun last ∷ []
  pub over : have_ended before ≡ true

pub front_of : (calls : List Called) → one_at_a_time calls ≡ true → is_outstanding calls ≡ true → IsFront calls
front_of [] t out = cc
front_of (c ∷ []) t out = record { before = []; last = c.callback; whole = go c.outcome out; over = refl }
  where
    go : (o : Option Outcome) → is_none o ≡ true → record { callback = c.callback; outcome = o } ∷ [] ≡ begun c.callback ∷ []
    go None none = refl
    go (Some x) none = cc
front_of (c ∷ d ∷ rest) t out =
    let p = and_parts (is_some c.outcome || false) (one_at_a_time (d ∷ rest)) t in
    let later = front_of (d ∷ rest) p.1 out in
    record { before = c ∷ later.before; last = later.last; whole = ap (λ (cs : List Called). c ∷ cs) later.whole; over = go (is_some c.outcome) p.0 later.over }
  where
    go : {b : Bool} (a : Bool) → (a || false) ≡ true → b ≡ true → (a && b) ≡ true
    go true h k = k
    go false h k = cc

pub ended_front : (o : Outcome) (before : List Called) (last : Callback) → ended o (before ++ begun last ∷ []) ≡ before ++ done_with last o ∷ []
ended_front o [] last = refl
ended_front o (c ∷ []) last = refl
ended_front o (c ∷ d ∷ rest) last = ap (λ (cs : List Called). c ∷ cs) (ended_front o (d ∷ rest) last)

pub none_out : (calls : List Called) → have_ended calls ≡ true → is_outstanding calls ≡ false
none_out [] e = refl
none_out (c ∷ []) e = go c.outcome e
  where
    go : (o : Option Outcome) → (is_some o && true) ≡ true → is_none o ≡ false
    go None h = cc
    go (Some x) h = refl
none_out (c ∷ d ∷ rest) e = none_out (d ∷ rest) (and_parts (is_some c.outcome) (have_ended (d ∷ rest)) e).1

pub phase_over : (before : List Called) (last : Called) (phase : Phase) → phase_after phase (before ++ last ∷ []) ≡ phase_by last.callback last.outcome (phase_after phase before)
phase_over [] last phase = refl
phase_over (c ∷ rest) last phase = phase_over rest last (phase_by c.callback c.outcome phase)
