-- What is held when the callback that is under way has ended, and how that changes with the callbacks.
use Rattle.std.proofs.Common.{◌≡◌, ℕ, List, [], ◌∷◌, ◌++◌, ap, sym, ◌∙◌, refl, cond, Bool, true, false, inl, inr, ◌⊎◌, Option, Some, None}
use Rattle.std.specs.Prelude.{filter, is_none, not, ◌==◌}
use Rattle.std.specs.List.{slice_index_or}
use Rattle.std.specs.Option.{option_map_or}
use Rattle.std.specs.Str.{bytes_eq}
use Rattle.std.proofs.lemmas.Bool.{both_ways, or_left}
use Rattle.callback_orders.specs.declared.callback.Callback.{Callback}
use Rattle.callback_orders.specs.declared.callback.Callback.TheVariants.{Create, Bind, Updated, Unbind, Activate, Modified, Deactivate, Destroy}
use Rattle.callback_orders.specs.declared.callback.Outcome.{Outcome}
use Rattle.callback_orders.specs.declared.callback.Outcome.TheVariants.{Done}
use Rattle.callback_orders.specs.declared.due.DueRef.{DueRef}
use Rattle.callback_orders.specs.declared.due.DueRef.TheVariants.{Create as CreateDue, Bind as BindDue, Updated as UpdatedDue, Unbind as UnbindDue, Activate as ActivateDue, Modified as ModifiedDue, Deactivate as DeactivateDue, Destroy as DestroyDue}
use Rattle.callback_orders.specs.declared.instance_view.Phase.{Phase}
use Rattle.callback_orders.specs.declared.instance_view.Phase.TheVariants.{Making}
use Rattle.callback_orders.specs.declared.word.Called.{Called}
use Rattle.callback_orders.specs.Grammar.{is_activate}
use Rattle.callback_orders.specs.Lives.{callback_of, held_after, held_by, held_for, phase_after, phase_by, phase_of}
use Rattle.callback_orders.specs.Sequences.{begun, done_with, ended, is_outstanding}
use Rattle.component_state.proofs.Apart.{has_both, has_kept}
use Rattle.prop_map.specs.Words.{has}
use Rattle.scr_laws.proofs.NothingShut.{phase_stays}
use Rattle.scr_world.specs.Instances.{is_active_phase, last_callback, last_is}

-- ---- the end of what is under way

pub ended_onto : (o : Outcome) (calls : List Called) (c : Called) → ended o (calls ++ c ∷ []) ≡ calls ++ done_with c.callback o ∷ []
ended_onto o [] c = refl
ended_onto o (d ∷ []) c = refl
ended_onto o (d ∷ e ∷ rest) c = ap (λ (cs : List Called). d ∷ cs) (ended_onto o (e ∷ rest) c)

pub ended_twice : (a b : Outcome) (calls : List Called) → ended a (ended b calls) ≡ ended a calls
ended_twice a b [] = refl
ended_twice a b (c ∷ []) = refl
ended_twice a b (c ∷ d ∷ []) = refl
ended_twice a b (c ∷ d ∷ e ∷ rest) = ap (λ (cs : List Called). c ∷ cs) (ended_twice a b (d ∷ e ∷ rest))

ended_over : (o : Outcome) (calls : List Called) → is_outstanding (ended o calls) ≡ false
ended_over o [] = refl
ended_over o (c ∷ []) = refl
ended_over o (c ∷ d ∷ []) = refl
ended_over o (c ∷ d ∷ e ∷ rest) = ended_over o (d ∷ e ∷ rest)

-- what is held then
abbrev pub firm : List ℕ → List Called → List ℕ
firm name calls = held_for name (ended Done calls)

held_onto : (name : List ℕ) (calls : List Called) (held : List ℕ) (c : Called) → held_after name held (calls ++ c ∷ []) ≡ held_by name c.callback c.outcome (held_after name held calls)
held_onto name [] held c = refl
held_onto name (d ∷ calls) held c = held_onto name calls (held_by name d.callback d.outcome held) c

pub firm_begun : (name : List ℕ) (calls : List Called) (callback : Callback) → firm name (calls ++ begun callback ∷ []) ≡ held_by name callback (Some Done) (held_for name calls)
firm_begun name calls callback = ap (held_for name) (ended_onto Done calls (begun callback)) ∙ held_onto name calls [] (done_with callback Done)

-- it stays but for what is unbound
pub step_held : (name : List ℕ) (callback : Callback) (held : List ℕ) (s : ℕ) → has held s ≡ true → ((reference : List ℕ) (t : ℕ) → callback ≡ Unbind reference t → bytes_eq reference name ≡ true → (s == t) ≡ false) → has (held_by name callback (Some Done) held) s ≡ true
step_held name Create held s on other = on
step_held name (Bind r t) held s on other = go (bytes_eq r name)
  where
    go : (b : Bool) → has (cond b (held ++ t ∷ []) held) s ≡ true
    go true = has_both held (t ∷ []) s ∙ or_left (has held s) (has (t ∷ []) s) on
    go false = on
step_held name (Updated r t) held s on other = on
step_held name (Unbind r t) held s on other = go (bytes_eq r name) refl
  where
    go : (b : Bool) → bytes_eq r name ≡ b → has (cond b (filter (λ x. not (x == t)) held) held) s ≡ true
    go true is = has_kept (λ x. not (x == t)) held s (ap not (other r t refl is)) ∙ on
    go false is = on
step_held name Activate held s on other = on
step_held name Modified held s on other = on
step_held name Deactivate held s on other = on
step_held name Destroy held s on other = on

-- ---- from the beginning of Activate on

-- an instance is active, or its Activate is under way
abbrev pub IsClaimed : List Called → Type 0
IsClaimed calls = (is_active_phase (phase_of calls) ≡ true) ⊎ ((is_outstanding calls ≡ true) × (last_is is_activate calls ≡ true))

claimed_one : (o : Outcome) (callback : Callback) (outcome : Option Outcome) (phase : Phase) → is_none outcome ≡ true → is_active_phase (phase_by callback (Some o) phase) ≡ true → (is_active_phase (phase_by callback outcome phase) ≡ true) ⊎ (is_activate callback ≡ true)
claimed_one o callback (Some x) phase none on = cc
claimed_one o Create None phase none on = inl on
claimed_one o (Bind r s) None phase none on = inl on
claimed_one o (Updated r s) None phase none on = inl on
claimed_one o (Unbind r s) None phase none on = inl on
claimed_one o Activate None phase none on = inr refl
claimed_one o Modified None phase none on = inl on
claimed_one o Deactivate None phase none on = cc
claimed_one o Destroy None phase none on = inl on

claimed_from : (o : Outcome) (phase : Phase) (calls : List Called) → is_outstanding calls ≡ true → is_active_phase (phase_after phase (ended o calls)) ≡ true → (is_active_phase (phase_after phase calls) ≡ true) ⊎ (last_is is_activate calls ≡ true)
claimed_from o phase [] out on = cc
claimed_from o phase (c ∷ []) out on = claimed_one o c.callback c.outcome phase out on
claimed_from o phase (c ∷ d ∷ rest) out on = claimed_from o (phase_by c.callback c.outcome phase) (d ∷ rest) out on

pub claimed_before_end : (o : Outcome) (calls : List Called) → is_outstanding calls ≡ true → IsClaimed (ended o calls) → IsClaimed calls
claimed_before_end o calls out (inl on) = elim (claimed_from o Making calls out on) [
  | inl active ↦ inl active
  | inr last ↦ inr (out, last)
]
claimed_before_end o calls out (inr under_way) = (let none : false ≡ true = sym (ended_over o calls) ∙ under_way.0 in cc)

last_onto : (calls : List Called) (c : Called) → last_callback (calls ++ c ∷ []) ≡ Some c.callback
last_onto [] c = refl
last_onto (d ∷ []) c = refl
last_onto (d ∷ e ∷ rest) c = last_onto (e ∷ rest) c

activate_is : (callback : Callback) → is_activate callback ≡ true → callback ≡ Activate
activate_is Create on = cc
activate_is (Bind r s) on = cc
activate_is (Updated r s) on = cc
activate_is (Unbind r s) on = cc
activate_is Activate on = refl
activate_is Modified on = cc
activate_is Deactivate on = cc
activate_is Destroy on = cc

pub claimed_before_begin : (calls : List Called) (callback : Callback) → IsClaimed (calls ++ begun callback ∷ []) → (is_active_phase (phase_of calls) ≡ true) ⊎ (callback ≡ Activate)
claimed_before_begin calls callback (inl on) = inl (ap is_active_phase (sym (phase_stays callback Making calls)) ∙ on)
claimed_before_begin calls callback (inr under_way) = inr (activate_is callback (ap (λ (o : Option Callback). option_map_or is_activate o false) (sym (last_onto calls (begun callback))) ∙ under_way.1))

-- ---- what is due

pub due_activate : (names : List (List ℕ)) (d : DueRef) → callback_of names d ≡ Activate → (n : ℕ) × (d ≡ ActivateDue n)
due_activate names (CreateDue key) is = cc
due_activate names (BindDue i k s) is = cc
due_activate names (UpdatedDue i k s) is = cc
due_activate names (UnbindDue i k s) is = cc
due_activate names (ActivateDue i) is = (i, refl)
due_activate names (ModifiedDue i) is = cc
due_activate names (DeactivateDue i) is = cc
due_activate names (DestroyDue i) is = cc

pub due_unbind : (names : List (List ℕ)) (d : DueRef) (reference : List ℕ) (t : ℕ) → callback_of names d ≡ Unbind reference t → (n : ℕ) × (k : ℕ) × (d ≡ UnbindDue n k t) × (slice_index_or names k [] ≡ reference)
due_unbind names (CreateDue key) reference t is = cc
due_unbind names (BindDue i k s) reference t is = cc
due_unbind names (UpdatedDue i k s) reference t is = cc
due_unbind names (UnbindDue i k s) reference t is = let same : s ≡ t = cc in let at : slice_index_or names k [] ≡ reference = cc in (i, k, ap (UnbindDue i k) same, at)
due_unbind names (ActivateDue i) reference t is = cc
due_unbind names (ModifiedDue i) reference t is = cc
due_unbind names (DeactivateDue i) reference t is = cc
due_unbind names (DestroyDue i) reference t is = cc

-- an Unbind for the reference of a name is due, or none
pub unbinds_for : (names : List (List ℕ)) (d : DueRef) (name : List ℕ)
    → ((n : ℕ) × (k : ℕ) × (t : ℕ) × (d ≡ UnbindDue n k t) × (bytes_eq (slice_index_or names k []) name ≡ true)) ⊎ ((reference : List ℕ) (t : ℕ) → callback_of names d ≡ Unbind reference t → bytes_eq reference name ≡ true → ⊥)
unbinds_for names (CreateDue key) name = inr (λ reference t is named. cc)
unbinds_for names (BindDue i k s) name = inr (λ reference t is named. cc)
unbinds_for names (UpdatedDue i k s) name = inr (λ reference t is named. cc)
unbinds_for names (UnbindDue i k s) name = go (bytes_eq (slice_index_or names k []) name) refl
  where
    go : (b : Bool) → bytes_eq (slice_index_or names k []) name ≡ b
        → ((n : ℕ) × (l : ℕ) × (t : ℕ) × (UnbindDue i k s ≡ UnbindDue n l t) × (bytes_eq (slice_index_or names l []) name ≡ true)) ⊎ ((reference : List ℕ) (t : ℕ) → Unbind (slice_index_or names k []) s ≡ Unbind reference t → bytes_eq reference name ≡ true → ⊥)
    go true on = inl (i, k, s, refl, on)
    go false off = inr (λ reference t is named. (let at : slice_index_or names k [] ≡ reference = cc in both_ways (bytes_eq (slice_index_or names k []) name) off (ap (λ (x : List ℕ). bytes_eq x name) at ∙ named)))
unbinds_for names (ActivateDue i) name = inr (λ reference t is named. cc)
unbinds_for names (ModifiedDue i) name = inr (λ reference t is named. cc)
unbinds_for names (DeactivateDue i) name = inr (λ reference t is named. cc)
unbinds_for names (DestroyDue i) name = inr (λ reference t is named. cc)
