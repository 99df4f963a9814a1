-- What an instance's callbacks say of its object: only the first one is a Create, so it has its object at every callback but that.
use Rattle.std.proofs.Common.{◌≡◌, ◌<◌, List, [], ◌∷◌, ◌++◌, length, ap, sym, ◌∙◌, refl, Bool, true, false, ◌&&◌, Option, Some, None, inl, inr, ◌⊎◌, arith}
use Rattle.std.specs.Prelude.{not, is_none, if◌then◌else◌}
use Rattle.std.specs.List.{list_any}
use Rattle.std.proofs.lemmas.Bool.{and_parts, and_from, or_parts, or_from}
use Rattle.callback_orders.specs.declared.callback.Callback.{Callback}
use Rattle.callback_orders.specs.declared.callback.Callback.TheVariants.{Create, Bind, Updated, Unbind, Activate, Modified, Deactivate, Destroy}
use Rattle.callback_orders.specs.declared.callback.Outcome.{Outcome}
use Rattle.callback_orders.specs.declared.callback.Outcome.TheVariants.{Done, Refused, NoMemory}
use Rattle.callback_orders.specs.declared.word.Called.{Called}
use Rattle.callback_orders.specs.Grammar.{is_create, is_destroy}
use Rattle.callback_orders.specs.Lives.{goes_on, is_living}
use Rattle.callback_orders.specs.Sequences.{active, active_by, alternate, begun, created, created_by, done_with, ended, is_done, is_outstanding, is_over, is_sequence, leaving, leaving_by, making, making_by, one_at_a_time}
use Rattle.scr_world.specs.Instances.{last_callback}
use Rattle.platform_hall.specs.Platforms.{is_made}

-- ---- only the first callback is a Create

abbrev pub creates : List Called → Bool
creates calls = list_any (λ (c : Called). is_create c.callback) calls

none_over : (calls : List Called) → is_over calls ≡ true → creates calls ≡ false
none_over [] over = refl
none_over (c ∷ calls) over = cc

leaving_first : (callback : Callback) (over leaves : Bool) → leaving_by callback over leaves ≡ true → (is_create callback ≡ false) × ((over ≡ true) ⊎ (leaves ≡ true))
leaving_first Create over leaves is = cc
leaving_first (Bind r s) over leaves is = cc
leaving_first (Updated r s) over leaves is = cc
leaving_first (Unbind r s) over leaves is = (refl, inr is)
leaving_first Activate over leaves is = cc
leaving_first Modified over leaves is = cc
leaving_first Deactivate over leaves is = cc
leaving_first Destroy over leaves is = (refl, inl is)

active_first : (callback : Callback) (stays leaves : Bool) → active_by callback stays leaves ≡ true → (is_create callback ≡ false) × ((stays ≡ true) ⊎ (leaves ≡ true))
active_first Create stays leaves is = cc
active_first (Bind r s) stays leaves is = (refl, inl is)
active_first (Updated r s) stays leaves is = (refl, inl is)
active_first (Unbind r s) stays leaves is = (refl, inl is)
active_first Activate stays leaves is = cc
active_first Modified stays leaves is = (refl, inl is)
active_first Deactivate stays leaves is = (refl, inr is)
active_first Destroy stays leaves is = cc

making_first : (callback : Callback) (over stays goes_on : Bool) → making_by callback over stays goes_on ≡ true → (is_create callback ≡ false) × ((over ≡ true) ⊎ ((stays ≡ true) ⊎ (goes_on ≡ true)))
making_first Create over stays goes_on is = cc
making_first (Bind r s) over stays goes_on is = (refl, inr (inl is))
making_first (Updated r s) over stays goes_on is = cc
making_first (Unbind r s) over stays goes_on is = (refl, inr (inl is))
making_first Activate over stays goes_on is = (refl, inr (inr is))
making_first Modified over stays goes_on is = cc
making_first Deactivate over stays goes_on is = cc
making_first Destroy over stays goes_on is = (refl, inl is)

leaving_none : (calls : List Called) → leaving calls ≡ true → creates calls ≡ false
leaving_none [] is = refl
leaving_none (c ∷ calls) is =
    let first = leaving_first c.callback (is_over calls) (leaving calls) is in
    or_from (is_create c.callback) (creates calls) first.0 (elim first.1 [
      | inl over ↦ none_over calls over
      | inr leaves ↦ leaving_none calls leaves
    ])

active_none : (calls : List Called) → active calls ≡ true → creates calls ≡ false
active_none [] is = refl
active_none (c ∷ calls) is =
    let first = active_first c.callback (active calls) (leaving calls) is in
    or_from (is_create c.callback) (creates calls) first.0 (elim first.1 [
      | inl stays ↦ active_none calls stays
      | inr leaves ↦ leaving_none calls leaves
    ])

goes_on_none : (done : Bool) (calls : List Called) → (if done then active calls else leaving calls) ≡ true → creates calls ≡ false
goes_on_none true calls is = active_none calls is
goes_on_none false calls is = leaving_none calls is

making_none : (calls : List Called) → making calls ≡ true → creates calls ≡ false
making_none [] is = refl
making_none (c ∷ calls) is =
    let first = making_first c.callback (is_over calls) (making calls) (if is_done c.outcome then active calls else leaving calls) is in
    or_from (is_create c.callback) (creates calls) first.0 (elim first.1 [
      | inl over ↦ none_over calls over
      | inr (inl stays) ↦ making_none calls stays
      | inr (inr goes) ↦ goes_on_none (is_done c.outcome) calls goes
    ])

created_first : (callback : Callback) (goes_on : Bool) → created_by callback goes_on ≡ true → (callback ≡ Create) × (goes_on ≡ true)
created_first Create goes_on is = (refl, is)
created_first (Bind r s) goes_on is = cc
created_first (Updated r s) goes_on is = cc
created_first (Unbind r s) goes_on is = cc
created_first Activate goes_on is = cc
created_first Modified goes_on is = cc
created_first Deactivate goes_on is = cc
created_first Destroy goes_on is = cc

-- a first callback is a Create
pub first_creates : (c : Called) (rest : List Called) → is_sequence (c ∷ rest) ≡ true → c.callback ≡ Create
first_creates c rest is =
    let order = and_parts (created (c ∷ rest) && one_at_a_time (c ∷ rest)) (alternate [] (c ∷ rest)) is in
    let parts = and_parts (created (c ∷ rest)) (one_at_a_time (c ∷ rest)) order.0 in
    (created_first c.callback (if is_done c.outcome then making rest else is_over rest) parts.0).0

making_or_over : (done : Bool) (d : Called) (rest : List Called) → (if done then making (d ∷ rest) else is_over (d ∷ rest)) ≡ true → (done ≡ true) × (making (d ∷ rest) ≡ true)
making_or_over true d rest is = (refl, is)
making_or_over false d rest is = cc

-- where others follow, it is done, and none of them is a Create
pub first_done : (c d : Called) (rest : List Called) → is_sequence (c ∷ d ∷ rest) ≡ true → (is_done c.outcome ≡ true) × (creates (d ∷ rest) ≡ false)
first_done c d rest is =
    let order = and_parts (created (c ∷ d ∷ rest) && one_at_a_time (c ∷ d ∷ rest)) (alternate [] (c ∷ d ∷ rest)) is in
    let parts = and_parts (created (c ∷ d ∷ rest)) (one_at_a_time (c ∷ d ∷ rest)) order.0 in
    let goes = created_first c.callback (if is_done c.outcome then making (d ∷ rest) else is_over (d ∷ rest)) parts.0 in
    let both = making_or_over (is_done c.outcome) d rest goes.1 in
    (both.0, making_none (d ∷ rest) both.1)

-- the last callback passes no test that none passes
last_is_none : (test : Callback → Bool) (calls : List Called) (callback : Callback) → list_any (λ (c : Called). test c.callback) calls ≡ false → last_callback calls ≡ Some callback → test callback ≡ false
last_is_none test [] callback none is = cc
last_is_none test (c ∷ []) callback none is =
    let same : c.callback ≡ callback = cc in
    ap test (sym same) ∙ (or_parts (test c.callback) false none).0
last_is_none test (c ∷ d ∷ rest) callback none is = last_is_none test (d ∷ rest) callback (or_parts (test c.callback) (list_any (λ (x : Called). test x.callback) (d ∷ rest)) none).1 is

-- ---- the object of an instance whose turn is under way

not_done : (o : Option Outcome) → is_none o ≡ true → is_done o ≡ false
not_done None none = refl
not_done (Some x) none = cc

create_is : (callback : Callback) → callback ≡ Create → is_create callback ≡ true
create_is callback is = ap is_create is

-- it was made, unless it is told of its Create
pub made_while : (calls : List Called) (callback : Callback) → is_sequence calls ≡ true → is_outstanding calls ≡ true → last_callback calls ≡ Some callback → is_made calls ≡ not (is_create callback)
made_while [] callback order out is = cc
made_while (c ∷ []) callback order out is =
    let same : c.callback ≡ callback = cc in
    let create : is_create callback ≡ true = ap is_create (sym same) ∙ ap is_create (first_creates c [] order) in
    ap (λ b. is_create c.callback && b) (not_done c.outcome out) ∙ and_nothing (is_create c.callback) ∙ sym (ap not create)
  where
    and_nothing : (b : Bool) → (b && false) ≡ false
    and_nothing true = refl
    and_nothing false = refl
made_while (c ∷ d ∷ rest) callback order out is =
    let first = first_done c d rest order in
    and_from (is_create c.callback) (is_done c.outcome) (ap is_create (first_creates c (d ∷ rest) order)) first.0
    ∙ sym (ap not (last_is_none is_create (d ∷ rest) callback first.1 is))

-- one more callback makes none
pub made_more : (calls : List Called) (callback : Callback) → 0 < length calls → is_made (calls ++ begun callback ∷ []) ≡ is_made calls
made_more [] callback some = absurd (omega arith)
made_more (c ∷ calls) callback some = refl

-- ---- the end of a turn

-- an instance lives on, with its object, once its callback has ended
abbrev pub keeps_object : Callback → Outcome → Bool
keeps_object callback outcome = if is_create callback then is_done (Some outcome) else not (is_destroy callback)

create_ends : (callback : Callback) (outcome : Outcome) → callback ≡ Create → (is_living (done_with callback outcome ∷ []) && is_made (done_with callback outcome ∷ [])) ≡ keeps_object callback outcome
create_ends Create Done is = refl
create_ends Create Refused is = refl
create_ends Create NoMemory is = refl
create_ends (Bind r s) outcome is = cc
create_ends (Updated r s) outcome is = cc
create_ends (Unbind r s) outcome is = cc
create_ends Activate outcome is = cc
create_ends Modified outcome is = cc
create_ends Deactivate outcome is = cc
create_ends Destroy outcome is = cc

-- of callbacks other than Create, only a Destroy ends a life with its end
last_lives : (callback : Callback) (outcome : Outcome) → is_create callback ≡ false → goes_on callback (Some outcome) ≡ not (is_destroy callback)
last_lives Create outcome other = cc
last_lives (Bind r s) outcome other = refl
last_lives (Updated r s) outcome other = refl
last_lives (Unbind r s) outcome other = refl
last_lives Activate outcome other = refl
last_lives Modified outcome other = refl
last_lives Deactivate outcome other = refl
last_lives Destroy outcome other = refl

and_all : (b : Bool) → (b && true) ≡ b
and_all true = refl
and_all false = refl

later_lives : (calls : List Called) (callback : Callback) (outcome : Outcome) → is_living calls ≡ true → creates calls ≡ false → last_callback calls ≡ Some callback → is_living (ended outcome calls) ≡ not (is_destroy callback)
later_lives [] callback outcome lives none is = cc
later_lives (c ∷ []) callback outcome lives none is =
    let same : c.callback ≡ callback = cc in
    and_all (goes_on c.callback (Some outcome))
    ∙ ap (λ (x : Callback). goes_on x (Some outcome)) same
    ∙ last_lives callback outcome (ap is_create (sym same) ∙ (or_parts (is_create c.callback) false none).0)
later_lives (c ∷ d ∷ rest) callback outcome lives none is =
    ap (λ b. b && is_living (ended outcome (d ∷ rest))) (and_parts (goes_on c.callback c.outcome) (is_living (d ∷ rest)) lives).0
    ∙ later_lives (d ∷ rest) callback outcome (and_parts (goes_on c.callback c.outcome) (is_living (d ∷ rest)) lives).1 (or_parts (is_create c.callback) (creates (d ∷ rest)) none).1 is

pub ended_keeps : (calls : List Called) (callback : Callback) (outcome : Outcome) → is_sequence calls ≡ true → is_living calls ≡ true → last_callback calls ≡ Some callback
    → (is_living (ended outcome calls) && is_made (ended outcome calls)) ≡ keeps_object callback outcome
ended_keeps [] callback outcome order lives is = cc
ended_keeps (c ∷ []) callback outcome order lives is =
    let same : c.callback ≡ callback = cc in
    create_ends c.callback outcome (first_creates c [] order) ∙ ap (λ (x : Callback). keeps_object x outcome) same
ended_keeps (c ∷ d ∷ rest) callback outcome order lives is =
    let first = first_done c d rest order in
    let alive = and_parts (goes_on c.callback c.outcome) (is_living (d ∷ rest)) lives in
    let its = and_from (is_create c.callback) (is_done c.outcome) (ap is_create (first_creates c (d ∷ rest) order)) first.0 in
    let other = last_is_none is_create (d ∷ rest) callback first.1 is in
    ap (λ b. (b && is_living (ended outcome (d ∷ rest))) && (is_create c.callback && is_done c.outcome)) alive.0
    ∙ ap (λ b. b && (is_create c.callback && is_done c.outcome)) (later_lives (d ∷ rest) callback outcome alive.1 first.1 is)
    ∙ ap (λ b. not (is_destroy callback) && b) its
    ∙ and_all (not (is_destroy callback))
    ∙ sym (ap (λ b. if b then is_done (Some outcome) else not (is_destroy callback)) other)
