-- What is held, when a callback begins and when one ends.
use Rattle.std.proofs.Common.{◌≡◌, ℕ, List, [], ◌∷◌, ◌++◌, ap, sym, ◌∙◌, refl, cond, Bool, true, false, inl, inr, ◌⊎◌, Option, Some, None}
use Rattle.std.specs.Prelude.{filter, not, ◌==◌}
use Rattle.std.specs.List.{slice_index_or}
use Rattle.std.specs.Str.{bytes_eq}
use Rattle.std.proofs.lemmas.Bool.{eqb-true, or_cases}
use Rattle.std.proofs.lemmas.List.Folds.{list_any-append}
use Rattle.callback_orders.specs.declared.callback.Callback.{Callback}
use Rattle.callback_orders.specs.declared.callback.Callback.TheVariants.{Create, Bind, Updated, Unbind, Activate, Modified, Deactivate, Destroy}
use Rattle.callback_orders.specs.declared.callback.Outcome.{Outcome}
use Rattle.callback_orders.specs.declared.due.DueRef.{DueRef}
use Rattle.callback_orders.specs.declared.due.DueRef.TheVariants.{Create as CreateDue, Bind as BindDue, Updated as UpdatedDue, Unbind as UnbindDue, Activate as ActivateDue, Modified as ModifiedDue, Deactivate as DeactivateDue, Destroy as DestroyDue}
use Rattle.callback_orders.specs.declared.word.Called.{Called}
use Rattle.callback_orders.specs.Lives.{callback_of, held_after, held_by}
use Rattle.callback_orders.specs.Sequences.{begun, ended}
use Rattle.callback_orders.proofs.HeldLemmas.{text_is}
use Rattle.component_state.proofs.Apart.{any_found, any_from, kept_was}
use Rattle.prop_map.specs.Words.{has}

grows : (name : List ℕ) (callback : Callback) (held : List ℕ) (s : ℕ) → has (held_by name callback None held) s ≡ true
    → (has held s ≡ true) ⊎ ((reference : List ℕ) × (callback ≡ Bind reference s) × (reference ≡ name))
grows name Create held s e = inl e
grows name (Bind r t) held s e = go (bytes_eq r name) refl e
  where
    go : (b : Bool) → bytes_eq r name ≡ b → has (cond b (held ++ t ∷ []) held) s ≡ true → (has held s ≡ true) ⊎ ((reference : List ℕ) × (Bind r t ≡ Bind reference s) × (reference ≡ name))
    go false is e = inl e
    go true is e = elim (or_cases (has held s) (has (t ∷ []) s) (sym (list_any-append (λ n. n == s) held (t ∷ [])) ∙ e)) [
      | inl before ↦ inl before
      | inr now ↦ elim (or_cases (t == s) false now) [
        | inl same ↦ inr (r, ap (Bind r) (eqb-true t s same), text_is r name is)
        | inr never ↦ cc
      ]
    ]
grows name (Updated r t) held s e = inl e
grows name (Unbind r t) held s e = inl e
grows name Activate held s e = inl e
grows name Modified held s e = inl e
grows name Deactivate held s e = inl e
grows name Destroy held s e = inl e

has_filter : (p : ℕ → Bool) (xs : List ℕ) (s : ℕ) → has (filter p xs) s ≡ true → has xs s ≡ true
has_filter p xs s e = let found = any_found (λ n. n == s) (filter p xs) e in any_from (λ n. n == s) xs found.0 (kept_was p xs found.0 found.1).0 found.2

shrinks : (name : List ℕ) (callback : Callback) (o : Outcome) (before : Option Outcome) (held : List ℕ) (s : ℕ) → has (held_by name callback (Some o) held) s ≡ true → has (held_by name callback before held) s ≡ true
shrinks name Create o before held s e = e
shrinks name (Bind r t) o before held s e = e
shrinks name (Updated r t) o before held s e = e
shrinks name (Unbind r t) o None held s e = go (bytes_eq r name) e
  where
    go : (b : Bool) → has (cond b (filter (λ n. not (n == t)) held) held) s ≡ true → has held s ≡ true
    go true e = has_filter (λ n. not (n == t)) held s e
    go false e = e
shrinks name (Unbind r t) o (Some x) held s e = e
shrinks name Activate o before held s e = e
shrinks name Modified o before held s e = e
shrinks name Deactivate o before held s e = e
shrinks name Destroy o before held s e = e

pub held_ended : (o : Outcome) (name : List ℕ) (calls : List Called) (held : List ℕ) (s : ℕ) → has (held_after name held (ended o calls)) s ≡ true → has (held_after name held calls) s ≡ true
held_ended o name [] held s e = e
held_ended o name (c ∷ []) held s e = shrinks name c.callback o c.outcome held s e
held_ended o name (c ∷ d ∷ rest) held s e = held_ended o name (d ∷ rest) (held_by name c.callback c.outcome held) s e

held_onto : (name : List ℕ) (calls : List Called) (held : List ℕ) (c : Called) → held_after name held (calls ++ c ∷ []) ≡ held_by name c.callback c.outcome (held_after name held calls)
held_onto name [] held c = refl
held_onto name (d ∷ calls) held c = held_onto name calls (held_by name d.callback d.outcome held) c

pub held_begun : (name : List ℕ) (calls : List Called) (callback : Callback) (s : ℕ) → has (held_after name [] (calls ++ begun callback ∷ [])) s ≡ true
    → (has (held_after name [] calls) s ≡ true) ⊎ ((reference : List ℕ) × (callback ≡ Bind reference s) × (reference ≡ name))
held_begun name calls callback s e = grows name callback (held_after name [] calls) s (ap (λ ns. has ns s) (sym (held_onto name calls [] (begun callback))) ∙ e)

pub due_bind : (names : List (List ℕ)) (d : DueRef) (reference : List ℕ) (s : ℕ) → callback_of names d ≡ Bind reference s → (i : ℕ) × (k : ℕ) × (d ≡ BindDue i k s) × (slice_index_or names k [] ≡ reference)
due_bind names (CreateDue key) reference s is = cc
due_bind names (BindDue i k t) reference s is = let same : t ≡ s = cc in let at : slice_index_or names k [] ≡ reference = cc in (i, k, ap (BindDue i k) same, at)
due_bind names (UpdatedDue i k t) reference s is = cc
due_bind names (UnbindDue i k t) reference s is = cc
due_bind names (ActivateDue i) reference s is = cc
due_bind names (ModifiedDue i) reference s is = cc
due_bind names (DeactivateDue i) reference s is = cc
due_bind names (DestroyDue i) reference s is = cc
