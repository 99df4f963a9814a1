-- What the beginning and the end of a callback make of an instance's callbacks.
use Rattle.std.proofs.Common.{◌≡◌, List, [], ◌∷◌, ◌++◌, ap, sym, ◌∙◌, refl, Bool, true, false, ◌&&◌, ◌||◌, inl, inr, ◌⊎◌, Option, Some, None}
use Rattle.std.proofs.lemmas.Bool.{or_cases, or_left, or_right}
use Rattle.std.proofs.lemmas.List.Folds.{list_any-append}
use Rattle.callback_orders.specs.declared.callback.Callback.{Callback}
use Rattle.callback_orders.specs.declared.callback.Callback.TheVariants.{Create, Bind, Updated, Unbind, Activate, Modified, Deactivate, Destroy}
use Rattle.callback_orders.specs.declared.callback.Outcome.{Outcome}
use Rattle.callback_orders.specs.declared.callback.Outcome.TheVariants.{Done, Refused, NoMemory}
use Rattle.callback_orders.specs.declared.instance_view.Phase.{Phase}
use Rattle.callback_orders.specs.declared.instance_view.Phase.TheVariants.{Making, Left}
use Rattle.callback_orders.specs.declared.word.Called.{Called}
use Rattle.callback_orders.specs.Grammar.{is_activate, is_deactivate, of}
use Rattle.callback_orders.specs.Lives.{phase_after, phase_by}
use Rattle.callback_orders.specs.Sequences.{begun, ended, is_failed}
use Rattle.scr_promises.specs.Endings.{has_deactivate}
use Rattle.scr_world.specs.Instances.{has_failed, last_is}

-- ---- a Deactivate

deactivates : (callback : Callback) → (is_deactivate callback || false) ≡ true → callback ≡ Deactivate
deactivates Create e = cc
deactivates (Bind r s) e = cc
deactivates (Updated r s) e = cc
deactivates (Unbind r s) e = cc
deactivates Activate e = cc
deactivates Modified e = cc
deactivates Deactivate e = refl
deactivates Destroy e = cc

pub deactivate_begun : (calls : List Called) (callback : Callback) → has_deactivate (calls ++ begun callback ∷ []) ≡ true → (has_deactivate calls ≡ true) ⊎ (callback ≡ Deactivate)
deactivate_begun calls callback e = elim (or_cases (has_deactivate calls) (has_deactivate (begun callback ∷ [])) (sym (list_any-append (of is_deactivate) calls (begun callback ∷ [])) ∙ e)) [
  | inl before ↦ inl before
  | inr now ↦ inr (deactivates callback now)
]

pub deactivate_ended : (o : Outcome) (calls : List Called) → has_deactivate (ended o calls) ≡ has_deactivate calls
deactivate_ended o [] = refl
deactivate_ended o (c ∷ []) = refl
deactivate_ended o (c ∷ d ∷ rest) = ap (λ b. is_deactivate c.callback || b) (deactivate_ended o (d ∷ rest))

-- ---- a failed Activate

begun_failed : (b : Bool) → ((b && false) || false) ≡ false
begun_failed true = refl
begun_failed false = refl

pub failed_begun : (calls : List Called) (callback : Callback) → has_failed (calls ++ begun callback ∷ []) ≡ has_failed calls
failed_begun [] callback = begun_failed (is_activate callback)
failed_begun (c ∷ calls) callback = ap (λ b. (is_activate c.callback && is_failed c.outcome) || b) (failed_begun calls callback)

-- the last callback is an Activate, and it failed
abbrev pub EndsActivation : Outcome → List Called → Type 0
EndsActivation o calls = (is_failed (Some o) ≡ true) × (last_is is_activate calls ≡ true)

ends_failed : (o : Outcome) (a : Bool) (before : Option Outcome) → ((a && is_failed (Some o)) || false) ≡ true → (((a && is_failed before) || false) ≡ true) ⊎ ((is_failed (Some o) ≡ true) × (a ≡ true))
ends_failed Done true before e = cc
ends_failed Refused true before e = inr (refl, refl)
ends_failed NoMemory true before e = inr (refl, refl)
ends_failed o false before e = cc

pub failed_ended : (o : Outcome) (calls : List Called) → has_failed (ended o calls) ≡ true → (has_failed calls ≡ true) ⊎ EndsActivation o calls
failed_ended o [] e = inl e
failed_ended o (c ∷ []) e = ends_failed o (is_activate c.callback) c.outcome e
failed_ended o (c ∷ d ∷ rest) e = elim (or_cases (is_activate c.callback && is_failed c.outcome) (has_failed (ended o (d ∷ rest))) e) [
  | inl here ↦ inl (or_left (is_activate c.callback && is_failed c.outcome) (has_failed (d ∷ rest)) here)
  | inr later ↦ elim (failed_ended o (d ∷ rest) later) [
    | inl before ↦ inl (or_right (is_activate c.callback && is_failed c.outcome) (has_failed (d ∷ rest)) before)
    | inr now ↦ inr now
  ]
]

-- ---- who is in the last phase was told of a Deactivate, or its activation failed

abbrev HasLeft : List Called → Type 0
HasLeft calls = (has_deactivate calls ≡ true) ⊎ (has_failed calls ≡ true)

left_one : (callback : Callback) (outcome : Option Outcome) (phase : Phase) → phase_by callback outcome phase ≡ Left → (phase ≡ Left) ⊎ ((is_deactivate callback ≡ true) ⊎ ((is_activate callback && is_failed outcome) ≡ true))
left_one Create o phase e = inl e
left_one (Bind r s) o phase e = inl e
left_one (Updated r s) o phase e = inl e
left_one (Unbind r s) o phase e = inl e
left_one Activate None phase e = inl e
left_one Activate (Some Done) phase e = cc
left_one Activate (Some Refused) phase e = inr (inr refl)
left_one Activate (Some NoMemory) phase e = inr (inr refl)
left_one Modified o phase e = inl e
left_one Deactivate None phase e = inl e
left_one Deactivate (Some x) phase e = inr (inl refl)
left_one Destroy o phase e = inl e

left_after : (phase : Phase) (calls : List Called) → phase_after phase calls ≡ Left → (phase ≡ Left) ⊎ HasLeft calls
left_after phase [] e = inl e
left_after phase (c ∷ calls) e = elim (left_after (phase_by c.callback c.outcome phase) calls e) [
  | inl before ↦ elim (left_one c.callback c.outcome phase before) [
    | inl earlier ↦ inl earlier
    | inr now ↦ elim now [
      | inl told ↦ inr (inl (or_left (is_deactivate c.callback) (has_deactivate calls) told))
      | inr failed ↦ inr (inr (or_left (is_activate c.callback && is_failed c.outcome) (has_failed calls) failed))
    ]
  ]
  | inr later ↦ elim later [
    | inl told ↦ inr (inl (or_right (is_deactivate c.callback) (has_deactivate calls) told))
    | inr failed ↦ inr (inr (or_right (is_activate c.callback && is_failed c.outcome) (has_failed calls) failed))
  ]
]

making_stays : Making ≡ Left → ⊥
making_stays e = cc

pub has_left : (calls : List Called) → phase_after Making calls ≡ Left → (has_deactivate calls ≡ true) ⊎ (has_failed calls ≡ true)
has_left calls e = elim (left_after Making calls e) [
  | inl making ↦ absurd (making_stays making)
  | inr left ↦ left
]
