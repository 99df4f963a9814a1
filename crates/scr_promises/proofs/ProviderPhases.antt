-- An active instance that wasn't told of Deactivate is between its Activate, done, and its Deactivate: the end of a callback leaves it active, and living.
use Rattle.std.proofs.Common.{◌≡◌, List, [], ◌∷◌, ap, sym, ◌∙◌, refl, cond, Bool, true, false, ◌&&◌, ◌||◌, inl, inr, ◌⊎◌, Option, Some, None}
use Rattle.std.specs.Prelude.{is_none}
use Rattle.std.proofs.lemmas.Bool.{and_from, and_parts}
use Rattle.callback_orders.specs.declared.callback.Callback.{Callback}
use Rattle.callback_orders.specs.declared.callback.Callback.TheVariants.{Create, Bind, Updated, Unbind, Activate, Modified, Deactivate, Destroy}
use Rattle.callback_orders.specs.declared.callback.Outcome.{Outcome}
use Rattle.callback_orders.specs.declared.callback.Outcome.TheVariants.{Done, Refused, NoMemory}
use Rattle.callback_orders.specs.declared.instance_view.Phase.{Phase}
use Rattle.callback_orders.specs.declared.instance_view.Phase.TheVariants.{Making, Active, Left}
use Rattle.callback_orders.specs.declared.word.Called.{Called}
use Rattle.callback_orders.specs.Grammar.{is_activate, is_create, is_deactivate, is_destroy}
use Rattle.callback_orders.specs.Lives.{goes_on, is_living, phase_after, phase_by}
use Rattle.callback_orders.specs.Sequences.{active, active_by, alternate, created, created_by, ended, is_done, is_outstanding, is_over, is_sequence, leaving, leaving_by, making, making_by, one_at_a_time}
use Rattle.scr_promises.specs.Endings.{has_deactivate}
use Rattle.scr_world.specs.Instances.{is_active_phase, last_is}

-- a callback that begins or ends an active life
abbrev pub bounds_life : Callback → Bool
bounds_life c = is_create c || is_activate c || is_deactivate c || is_destroy c

or_parts : (a b : Bool) → (a || b) ≡ false → (a ≡ false) × (b ≡ false)
or_parts true b e = cc
or_parts false b e = (refl, e)

-- ---- the callback that is outstanding isn't one

-- who leaves stays in its phase
over_phase : (phase : Phase) (more : List Called) → is_over more ≡ true → phase_after phase more ≡ phase
over_phase phase [] h = refl
over_phase phase (x ∷ xs) h = cc

leaving_one : (callback : Callback) (o : Option Outcome) (phase : Phase) (calls : List Called) → leaving_by callback (is_over calls) (leaving calls) ≡ true → (leaving calls ≡ true → phase_after phase calls ≡ phase) → phase_after (phase_by callback o phase) calls ≡ phase
leaving_one Create o phase calls k rest = cc
leaving_one (Bind r s) o phase calls k rest = cc
leaving_one (Updated r s) o phase calls k rest = cc
leaving_one (Unbind r s) o phase calls k rest = rest k
leaving_one Activate o phase calls k rest = cc
leaving_one Modified o phase calls k rest = cc
leaving_one Deactivate o phase calls k rest = cc
leaving_one Destroy o phase calls k rest = over_phase phase calls k

leaving_phase : (phase : Phase) (calls : List Called) → leaving calls ≡ true → phase_after phase calls ≡ phase
leaving_phase phase [] e = refl
leaving_phase phase (c ∷ calls) e = leaving_one c.callback c.outcome phase calls e (leaving_phase phase calls)

-- in an active life
active_one : (callback : Callback) (o : Option Outcome) (stays leaves : Bool) → active_by callback stays leaves ≡ true → is_deactivate callback ≡ false → (bounds_life callback ≡ false) × (stays ≡ true) × (phase_by callback o Active ≡ Active)
active_one Create o stays leaves e n = cc
active_one (Bind r s) o stays leaves e n = (refl, e, refl)
active_one (Updated r s) o stays leaves e n = (refl, e, refl)
active_one (Unbind r s) o stays leaves e n = (refl, e, refl)
active_one Activate o stays leaves e n = cc
active_one Modified o stays leaves e n = (refl, e, refl)
active_one Deactivate o stays leaves e n = cc
active_one Destroy o stays leaves e n = cc

active_free : (calls : List Called) → active calls ≡ true → has_deactivate calls ≡ false → last_is bounds_life calls ≡ false
active_free [] a n = refl
active_free (c ∷ []) a n = (active_one c.callback c.outcome true true a (or_parts (is_deactivate c.callback) false n).0).0
active_free (c ∷ d ∷ rest) a n =
    let parts = or_parts (is_deactivate c.callback) (has_deactivate (d ∷ rest)) n in
    active_free (d ∷ rest) (active_one c.callback c.outcome (active (d ∷ rest)) (leaving (d ∷ rest)) a parts.0).1 parts.1

-- in the making
never_active : (phase : Phase) → phase ≡ Making → is_active_phase phase ≡ true → ⊥
never_active Making is on = cc
never_active Active is on = cc
never_active Left is on = cc

never_left : (phase : Phase) → phase ≡ Left → is_active_phase phase ≡ true → ⊥
never_left Making is on = cc
never_left Active is on = cc
never_left Left is on = cc

making_one : (callback : Callback) (o : Option Outcome) (d : Called) (rest : List Called) → making_by callback false (making (d ∷ rest)) (cond (is_done o) (active (d ∷ rest)) (leaving (d ∷ rest))) ≡ true
    → is_active_phase (phase_after (phase_by callback o Making) (d ∷ rest)) ≡ true → ((making (d ∷ rest) ≡ true) × (phase_by callback o Making ≡ Making)) ⊎ (active (d ∷ rest) ≡ true)
making_one Create o d rest m on = cc
making_one (Bind r s) o d rest m on = inl (m, refl)
making_one (Updated r s) o d rest m on = cc
making_one (Unbind r s) o d rest m on = inl (m, refl)
making_one Activate None d rest m on = absurd (never_active (phase_after Making (d ∷ rest)) (leaving_phase Making (d ∷ rest) m) on)
making_one Activate (Some Done) d rest m on = inr m
making_one Activate (Some Refused) d rest m on = absurd (never_left (phase_after Left (d ∷ rest)) (leaving_phase Left (d ∷ rest) m) on)
making_one Activate (Some NoMemory) d rest m on = absurd (never_left (phase_after Left (d ∷ rest)) (leaving_phase Left (d ∷ rest) m) on)
making_one Modified o d rest m on = cc
making_one Deactivate o d rest m on = cc
making_one Destroy o d rest m on = cc

-- a callback that is outstanding made nobody active
running_one : (callback : Callback) (o : Option Outcome) → is_none o ≡ true → phase_by callback o Making ≡ Making
running_one callback (Some x) e = cc
running_one Create None e = refl
running_one (Bind r s) None e = refl
running_one (Updated r s) None e = refl
running_one (Unbind r s) None e = refl
running_one Activate None e = refl
running_one Modified None e = refl
running_one Deactivate None e = refl
running_one Destroy None e = refl

making_free : (calls : List Called) → making calls ≡ true → is_outstanding calls ≡ true → is_active_phase (phase_after Making calls) ≡ true → has_deactivate calls ≡ false → last_is bounds_life calls ≡ false
making_free [] m running on n = refl
making_free (c ∷ []) m running on n = absurd (never_active (phase_by c.callback c.outcome Making) (running_one c.callback c.outcome running) on)
making_free (c ∷ d ∷ rest) m running on n =
    let parts = or_parts (is_deactivate c.callback) (has_deactivate (d ∷ rest)) n in
    elim (making_one c.callback c.outcome d rest m on) [
      | inl still ↦ making_free (d ∷ rest) still.0 running (ap (λ p. is_active_phase (phase_after p (d ∷ rest))) (sym still.1) ∙ on) parts.1
      | inr now ↦ active_free (d ∷ rest) now parts.1
    ]

created_one : (callback : Callback) (o : Option Outcome) (d : Called) (rest : List Called) → created_by callback (cond (is_done o) (making (d ∷ rest)) false) ≡ true → (making (d ∷ rest) ≡ true) × (phase_by callback o Making ≡ Making)
created_one Create (Some Done) d rest e = (e, refl)
created_one Create (Some Refused) d rest e = cc
created_one Create (Some NoMemory) d rest e = cc
created_one Create None d rest e = cc
created_one (Bind r s) o d rest e = cc
created_one (Updated r s) o d rest e = cc
created_one (Unbind r s) o d rest e = cc
created_one Activate o d rest e = cc
created_one Modified o d rest e = cc
created_one Deactivate o d rest e = cc
created_one Destroy o d rest e = cc

created_free : (calls : List Called) → created calls ≡ true → is_outstanding calls ≡ true → is_active_phase (phase_after Making calls) ≡ true → has_deactivate calls ≡ false → last_is bounds_life calls ≡ false
created_free [] e running on n = refl
created_free (c ∷ []) e running on n = absurd (never_active (phase_by c.callback c.outcome Making) (running_one c.callback c.outcome running) on)
created_free (c ∷ d ∷ rest) e running on n =
    let one = created_one c.callback c.outcome d rest e in
    making_free (d ∷ rest) one.0 running (ap (λ p. is_active_phase (phase_after p (d ∷ rest))) (sym one.1) ∙ on) (or_parts (is_deactivate c.callback) (has_deactivate (d ∷ rest)) n).1

and_first : (a b c : Bool) → (a && b && c) ≡ true → a ≡ true
and_first true b c e = refl
and_first false b c e = cc

sequence_created : (calls : List Called) → is_sequence calls ≡ true → created calls ≡ true
sequence_created calls e = and_first (created calls) (one_at_a_time calls) (alternate [] calls) e

pub free_of_bounds : (calls : List Called) → is_sequence calls ≡ true → is_outstanding calls ≡ true → is_active_phase (phase_after Making calls) ≡ true → has_deactivate calls ≡ false → last_is bounds_life calls ≡ false
free_of_bounds calls e running on n = created_free calls (sequence_created calls e) running on n

-- ---- the end of a callback that isn't one

end_phase : (callback : Callback) (o : Outcome) (was : Option Outcome) (phase : Phase) → bounds_life callback ≡ false → phase_by callback (Some o) phase ≡ phase_by callback was phase
end_phase Create o was phase off = cc
end_phase (Bind r s) o was phase off = refl
end_phase (Updated r s) o was phase off = refl
end_phase (Unbind r s) o was phase off = refl
end_phase Activate o was phase off = cc
end_phase Modified o was phase off = refl
end_phase Deactivate o was phase off = cc
end_phase Destroy o was phase off = cc

pub phase_ended : (o : Outcome) (phase : Phase) (calls : List Called) → last_is bounds_life calls ≡ false → phase_after phase (ended o calls) ≡ phase_after phase calls
phase_ended o phase [] off = refl
phase_ended o phase (c ∷ []) off = end_phase c.callback o c.outcome phase off
phase_ended o phase (c ∷ d ∷ rest) off = phase_ended o (phase_by c.callback c.outcome phase) (d ∷ rest) off

end_lives : (callback : Callback) (o : Outcome) → bounds_life callback ≡ false → goes_on callback (Some o) ≡ true
end_lives Create o off = cc
end_lives (Bind r s) o off = refl
end_lives (Updated r s) o off = refl
end_lives (Unbind r s) o off = refl
end_lives Activate o off = cc
end_lives Modified o off = refl
end_lives Deactivate o off = cc
end_lives Destroy o off = cc

pub living_ended : (o : Outcome) (calls : List Called) → last_is bounds_life calls ≡ false → is_living calls ≡ true → is_living (ended o calls) ≡ true
living_ended o [] off on = refl
living_ended o (c ∷ []) off on = ap (λ b. b && true) (end_lives c.callback o off)
living_ended o (c ∷ d ∷ rest) off on =
    let both = and_parts (goes_on c.callback c.outcome) (is_living (d ∷ rest)) on in
    and_from (goes_on c.callback c.outcome) (is_living (ended o (d ∷ rest))) both.0 (living_ended o (d ∷ rest) off both.1)
