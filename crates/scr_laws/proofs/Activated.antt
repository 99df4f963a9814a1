-- What an instance's callbacks tell of its activation, when one begins and when one ends.
use Rattle.std.proofs.Common.{◌≡◌, List, [], ◌∷◌, ◌++◌, ap, ◌∙◌, refl, Bool, true, false, ◌&&◌, ◌||◌, inl, inr, ◌⊎◌, Option, Some, None}
use Rattle.std.specs.Prelude.{not, is_none}
use Rattle.std.proofs.lemmas.Bool.{or_left, or_right, or_cases}
use Rattle.std.proofs.lemmas.List.Folds.{list_any-append}
use Rattle.callback_orders.specs.declared.callback.Callback.{Callback}
use Rattle.callback_orders.specs.declared.callback.Callback.TheVariants.{Create, Bind, Updated, Unbind, Activate, Modified, Deactivate, Destroy}
use Rattle.callback_orders.specs.declared.callback.Outcome.{Outcome}
use Rattle.callback_orders.specs.declared.callback.Outcome.TheVariants.{Done, Refused, NoMemory}
use Rattle.callback_orders.specs.declared.instance_view.Phase.{Phase}
use Rattle.callback_orders.specs.declared.instance_view.Phase.TheVariants.{Making}
use Rattle.callback_orders.specs.declared.word.Called.{Called}
use Rattle.callback_orders.specs.Grammar.{is_activate}
use Rattle.callback_orders.specs.Lives.{phase_by, phase_after}
use Rattle.callback_orders.specs.Sequences.{begun, ended, is_failed, is_outstanding}
use Rattle.scr_world.specs.declared.instance.Instance.{Instance}
use Rattle.scr_world.specs.Instances.{is_activated, is_active_instance, is_active_phase}

-- ---- a callback that begins

and_true : (a : Bool) → ((a && true) || false) ≡ a
and_true true = refl
and_true false = refl

pub activated_begun : (calls : List Called) (callback : Callback) → is_activated (calls ++ begun callback ∷ []) ≡ (is_activated calls || is_activate callback)
activated_begun calls callback =
    list_any-append (λ (c : Called). is_activate c.callback && not (is_failed c.outcome)) calls (begun callback ∷ []) ∙ ap (λ b. is_activated calls || b) (and_true (is_activate callback))

pub outstanding_begun : (calls : List Called) (callback : Callback) → is_outstanding (calls ++ begun callback ∷ []) ≡ true
outstanding_begun [] callback = refl
outstanding_begun (c ∷ []) callback = refl
outstanding_begun (c ∷ d ∷ calls) callback = outstanding_begun (d ∷ calls) callback

-- ---- a callback that ends

pub none_outstanding : (o : Outcome) (calls : List Called) → is_outstanding (ended o calls) ≡ false
none_outstanding o [] = refl
none_outstanding o (c ∷ []) = refl
none_outstanding o (c ∷ d ∷ rest) = go rest (none_outstanding o (d ∷ rest))
  where
    go : (more : List Called) → is_outstanding (ended o (d ∷ more)) ≡ false → is_outstanding (c ∷ ended o (d ∷ more)) ≡ false
    go [] e = e
    go (x ∷ xs) e = e

ends_activated : (a : Bool) (before : Option Outcome) (after : Bool) → is_none before ≡ true → ((a && after) || false) ≡ true → ((a && not (is_failed before)) || false) ≡ true
ends_activated true None after none e = refl
ends_activated false None after none e = cc
ends_activated a (Some x) after none e = cc

-- an end activates nothing
pub activated_ended : (o : Outcome) (calls : List Called) → is_outstanding calls ≡ true → is_activated (ended o calls) ≡ true → is_activated calls ≡ true
activated_ended o [] out e = e
activated_ended o (c ∷ []) out e = ends_activated (is_activate c.callback) c.outcome (not (is_failed (Some o))) out e
activated_ended o (c ∷ d ∷ rest) out e =
    let here = is_activate c.callback && not (is_failed c.outcome) in
    elim (or_cases here (is_activated (ended o (d ∷ rest))) e) [
      | inl first ↦ or_left here (is_activated (d ∷ rest)) first
      | inr later ↦ or_right here (is_activated (d ∷ rest)) (activated_ended o (d ∷ rest) out later)
    ]

-- ---- an active one was activated

active_by_one : (callback : Callback) (outcome : Option Outcome) (phase : Phase) → is_active_phase (phase_by callback outcome phase) ≡ true
    → (is_active_phase phase ≡ true) ⊎ ((is_activate callback && not (is_failed outcome)) ≡ true)
active_by_one Create o phase e = inl e
active_by_one (Bind r s) o phase e = inl e
active_by_one (Updated r s) o phase e = inl e
active_by_one (Unbind r s) o phase e = inl e
active_by_one Activate None phase e = inl e
active_by_one Activate (Some Done) phase e = inr refl
active_by_one Activate (Some Refused) phase e = cc
active_by_one Activate (Some NoMemory) phase e = cc
active_by_one Modified o phase e = inl e
active_by_one Deactivate None phase e = inl e
active_by_one Deactivate (Some x) phase e = cc
active_by_one Destroy o phase e = inl e

active_after : (phase : Phase) (calls : List Called) → is_active_phase (phase_after phase calls) ≡ true → (is_active_phase phase ≡ true) ⊎ (is_activated calls ≡ true)
active_after phase [] e = inl e
active_after phase (c ∷ calls) e =
    let here = is_activate c.callback && not (is_failed c.outcome) in
    elim (active_after (phase_by c.callback c.outcome phase) calls e) [
      | inl before ↦ elim (active_by_one c.callback c.outcome phase before) [
        | inl earlier ↦ inl earlier
        | inr now ↦ inr (or_left here (is_activated calls) now)
      ]
      | inr later ↦ inr (or_right here (is_activated calls) later)
    ]

pub active_activated : (i : Instance) → is_active_instance i ≡ true → is_activated i.callbacks ≡ true
active_activated i e = elim (active_after Making i.callbacks e) [
  | inl making ↦ absurd (let both : false ≡ true = making in cc)
  | inr activated ↦ activated
]
