-- Which callbacks an instance was told of: an Activate, a Deactivate and a Destroy come once each, by the order of its callbacks.
use Rattle.std.proofs.Common.{◌≡◌, ℕ, List, [], ◌∷◌, ◌++◌, ap, sym, ◌∙◌, refl, cond, Bool, true, false, ◌||◌, inl, inr, ◌⊎◌}
use Rattle.std.specs.List.{list_any}
use Rattle.std.proofs.lemmas.Bool.{false≢true}
use Rattle.std.proofs.lemmas.List.Folds.{list_any-append}
use Rattle.callback_orders.specs.declared.callback.Callback.{Callback}
use Rattle.callback_orders.specs.declared.callback.Callback.TheVariants.{Create, Bind, Updated, Unbind, Activate, Modified, Deactivate, Destroy}
use Rattle.callback_orders.specs.declared.callback.Outcome.{Outcome}
use Rattle.callback_orders.specs.declared.word.Called.{Called}
use Rattle.callback_orders.specs.Grammar.{is_activate, is_deactivate, is_destroy, of}
use Rattle.callback_orders.specs.Sequences.{active, active_by, begun, created, created_by, ended, is_done, is_over, leaving, leaving_by, making, making_by}

-- a callback of a kind was begun
abbrev pub was_told : (Callback → Bool) → List Called → Bool
was_told kind calls = list_any (of kind) calls

or_none : (b : Bool) → (b || false) ≡ b
or_none true = refl
or_none false = refl

pub told_begun : (kind : Callback → Bool) (calls : List Called) (callback : Callback) → was_told kind (calls ++ begun callback ∷ []) ≡ (was_told kind calls || kind callback)
told_begun kind calls callback = list_any-append (of kind) calls (begun callback ∷ []) ∙ ap (λ b. was_told kind calls || b) (or_none (kind callback))

pub told_ended : (kind : Callback → Bool) (o : Outcome) (calls : List Called) → was_told kind (ended o calls) ≡ was_told kind calls
told_ended kind o [] = refl
told_ended kind o (c ∷ []) = refl
told_ended kind o (c ∷ d ∷ rest) = ap (λ b. kind c.callback || b) (told_ended kind o (d ∷ rest))

-- ---- what comes after which

over_onto : (calls : List Called) (c : Called) → is_over (calls ++ c ∷ []) ≡ false
over_onto [] c = refl
over_onto (d ∷ rest) c = refl

-- a kind of callback that comes at most once before the last one: neither Create nor what an active instance is told; where it is Activate or Deactivate, nothing that comes
-- behind that may end so
record IsLater (last : Callback) (kind : Callback → Bool) : Type 0 where
  create : kind Create ≡ false
  bind : (r : List ℕ) (s : ℕ) → kind (Bind r s) ≡ false
  updated : (r : List ℕ) (s : ℕ) → kind (Updated r s) ≡ false
  unbind : (r : List ℕ) (s : ℕ) → kind (Unbind r s) ≡ false
  modified : kind Modified ≡ false
  activate : (kind Activate ≡ false) ⊎ (((rest : List Called) → active (rest ++ begun last ∷ []) ≡ true → ⊥) × ((rest : List Called) → leaving (rest ++ begun last ∷ []) ≡ true → ⊥))
  deactivate : (kind Deactivate ≡ false) ⊎ ((rest : List Called) → leaving (rest ++ begun last ∷ []) ≡ true → ⊥)

-- after Deactivate, or a failed Activate: Unbinds and a Destroy
leaving_one : (last : Callback) (kind : Callback → Bool) → ((r : List ℕ) (s : ℕ) → kind (Unbind r s) ≡ false) → (calls : List Called) → leaving (calls ++ begun last ∷ []) ≡ true → was_told kind calls ≡ false
leaving_one last kind unbind [] on = refl
leaving_one last kind unbind (c ∷ rest) on = go (leaving_one last kind unbind rest) c.callback on
  where
    go : (leaving (rest ++ begun last ∷ []) ≡ true → was_told kind rest ≡ false) → (k : Callback) → leaving_by k (is_over (rest ++ begun last ∷ [])) (leaving (rest ++ begun last ∷ [])) ≡ true → (kind k || was_told kind rest) ≡ false
    go later (Unbind r s) is = ap (λ b. b || was_told kind rest) (unbind r s) ∙ later is
    go later Destroy is = absurd (false≢true (sym (over_onto rest (begun last)) ∙ is))
    go later Create is = cc
    go later (Bind r s) is = cc
    go later (Updated r s) is = cc
    go later Activate is = cc
    go later Modified is = cc
    go later Deactivate is = cc

-- where Activate was done
active_one : (last : Callback) (kind : Callback → Bool) → IsLater last kind → (calls : List Called) → active (calls ++ begun last ∷ []) ≡ true → was_told kind calls ≡ false
active_one last kind is_later [] on = refl
active_one last kind is_later (c ∷ rest) on = go (active_one last kind is_later rest) c.callback on
  where
    go : (active (rest ++ begun last ∷ []) ≡ true → was_told kind rest ≡ false) → (k : Callback) → active_by k (active (rest ++ begun last ∷ [])) (leaving (rest ++ begun last ∷ [])) ≡ true → (kind k || was_told kind rest) ≡ false
    go later (Bind r s) is = ap (λ b. b || was_told kind rest) (is_later.bind r s) ∙ later is
    go later (Updated r s) is = ap (λ b. b || was_told kind rest) (is_later.updated r s) ∙ later is
    go later (Unbind r s) is = ap (λ b. b || was_told kind rest) (is_later.unbind r s) ∙ later is
    go later Modified is = ap (λ b. b || was_told kind rest) is_later.modified ∙ later is
    go later Deactivate is = elim (is_later.deactivate) [
      | inl off ↦ ap (λ b. b || was_told kind rest) off ∙ leaving_one last kind is_later.unbind rest is
      | inr never ↦ absurd (never rest is)
    ]
    go later Create is = cc
    go later Activate is = cc
    go later Destroy is = cc

making_one : (last : Callback) (kind : Callback → Bool) → IsLater last kind → (calls : List Called) → making (calls ++ begun last ∷ []) ≡ true → was_told kind calls ≡ false
making_one last kind is_later [] on = refl
making_one last kind is_later (c ∷ rest) on = go (making_one last kind is_later rest) c.callback (is_done c.outcome) on
  where
    go : (making (rest ++ begun last ∷ []) ≡ true → was_told kind rest ≡ false) → (k : Callback) (d : Bool) → making_by k (is_over (rest ++ begun last ∷ [])) (making (rest ++ begun last ∷ [])) (cond d (active (rest ++ begun last ∷ [])) (leaving (rest ++ begun last ∷ []))) ≡ true → (kind k || was_told kind rest) ≡ false
    go later (Bind r s) d is = ap (λ b. b || was_told kind rest) (is_later.bind r s) ∙ later is
    go later (Unbind r s) d is = ap (λ b. b || was_told kind rest) (is_later.unbind r s) ∙ later is
    go later Activate true is = elim (is_later.activate) [
      | inl off ↦ ap (λ b. b || was_told kind rest) off ∙ active_one last kind is_later rest is
      | inr never ↦ absurd (never.0 rest is)
    ]
    go later Activate false is = elim (is_later.activate) [
      | inl off ↦ ap (λ b. b || was_told kind rest) off ∙ leaving_one last kind is_later.unbind rest is
      | inr never ↦ absurd (never.1 rest is)
    ]
    go later Destroy d is = absurd (false≢true (sym (over_onto rest (begun last)) ∙ is))
    go later Create d is = cc
    go later (Updated r s) d is = cc
    go later Modified d is = cc
    go later Deactivate d is = cc

created_one : (last : Callback) (kind : Callback → Bool) → IsLater last kind → (calls : List Called) → created (calls ++ begun last ∷ []) ≡ true → was_told kind calls ≡ false
created_one last kind is_later [] on = refl
created_one last kind is_later (c ∷ rest) on = go c.callback (is_done c.outcome) on
  where
    go : (k : Callback) (d : Bool) → created_by k (cond d (making (rest ++ begun last ∷ [])) (is_over (rest ++ begun last ∷ []))) ≡ true → (kind k || was_told kind rest) ≡ false
    go Create true is = ap (λ b. b || was_told kind rest) is_later.create ∙ making_one last kind is_later rest is
    go Create false is = absurd (false≢true (sym (over_onto rest (begun last)) ∙ is))
    go (Bind r s) d is = cc
    go (Updated r s) d is = cc
    go (Unbind r s) d is = cc
    go Activate d is = cc
    go Modified d is = cc
    go Deactivate d is = cc
    go Destroy d is = cc

-- ---- the three

never_leaving_activate : (calls : List Called) → leaving (calls ++ begun Activate ∷ []) ≡ true → ⊥
never_leaving_activate [] on = cc
never_leaving_activate (c ∷ rest) on = go (never_leaving_activate rest) c.callback on
  where
    go : (leaving (rest ++ begun Activate ∷ []) ≡ true → ⊥) → (k : Callback) → leaving_by k (is_over (rest ++ begun Activate ∷ [])) (leaving (rest ++ begun Activate ∷ [])) ≡ true → ⊥
    go later (Unbind r s) is = later is
    go later Destroy is = false≢true (sym (over_onto rest (begun Activate)) ∙ is)
    go later Create is = cc
    go later (Bind r s) is = cc
    go later (Updated r s) is = cc
    go later Activate is = cc
    go later Modified is = cc
    go later Deactivate is = cc

never_leaving_deactivate : (calls : List Called) → leaving (calls ++ begun Deactivate ∷ []) ≡ true → ⊥
never_leaving_deactivate [] on = cc
never_leaving_deactivate (c ∷ rest) on = go (never_leaving_deactivate rest) c.callback on
  where
    go : (leaving (rest ++ begun Deactivate ∷ []) ≡ true → ⊥) → (k : Callback) → leaving_by k (is_over (rest ++ begun Deactivate ∷ [])) (leaving (rest ++ begun Deactivate ∷ [])) ≡ true → ⊥
    go later (Unbind r s) is = later is
    go later Destroy is = false≢true (sym (over_onto rest (begun Deactivate)) ∙ is)
    go later Create is = cc
    go later (Bind r s) is = cc
    go later (Updated r s) is = cc
    go later Activate is = cc
    go later Modified is = cc
    go later Deactivate is = cc

never_active_activate : (calls : List Called) → active (calls ++ begun Activate ∷ []) ≡ true → ⊥
never_active_activate [] on = cc
never_active_activate (c ∷ rest) on = go (never_active_activate rest) c.callback on
  where
    go : (active (rest ++ begun Activate ∷ []) ≡ true → ⊥) → (k : Callback) → active_by k (active (rest ++ begun Activate ∷ [])) (leaving (rest ++ begun Activate ∷ [])) ≡ true → ⊥
    go later (Bind r s) is = later is
    go later (Updated r s) is = later is
    go later (Unbind r s) is = later is
    go later Modified is = later is
    go later Deactivate is = never_leaving_activate rest is
    go later Create is = cc
    go later Activate is = cc
    go later Destroy is = cc

pub one_activate : (calls : List Called) → created (calls ++ begun Activate ∷ []) ≡ true → was_told is_activate calls ≡ false
one_activate = created_one Activate is_activate (record { create = refl; bind = λ r s. refl; updated = λ r s. refl; unbind = λ r s. refl; modified = refl; activate = inr (never_active_activate, never_leaving_activate); deactivate = inl refl })

pub one_deactivate : (calls : List Called) → created (calls ++ begun Deactivate ∷ []) ≡ true → was_told is_deactivate calls ≡ false
one_deactivate = created_one Deactivate is_deactivate (record { create = refl; bind = λ r s. refl; updated = λ r s. refl; unbind = λ r s. refl; modified = refl; activate = inl refl; deactivate = inr never_leaving_deactivate })

pub one_destroy : (calls : List Called) → created (calls ++ begun Destroy ∷ []) ≡ true → was_told is_destroy calls ≡ false
one_destroy = created_one Destroy is_destroy (record { create = refl; bind = λ r s. refl; updated = λ r s. refl; unbind = λ r s. refl; modified = refl; activate = inl refl; deactivate = inl refl })
