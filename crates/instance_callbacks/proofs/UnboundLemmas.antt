-- A service that was never bound isn't held. OSGi Compendium 8, chapter 112, "Binding Services".
use Rattle.std.proofs.Common.{◌≡◌, ◌∙◌, ap, sym, refl, ℕ, List, [], ◌∷◌, ◌++◌, Bool, true, false, ◌||◌, Option, Some, None, cond}
use Rattle.std.specs.Prelude.{◌==◌, filter, not}
use Rattle.std.specs.List.{list_any}
use Rattle.std.specs.Str.{bytes_eq}
use Rattle.std.proofs.lemmas.Bool.{false≢true}
use Rattle.std.proofs.lemmas.List.Folds.{list_any-append}
use Rattle.callback_orders.specs.declared.callback.Callback.{Callback}
use Rattle.callback_orders.specs.declared.callback.Callback.TheVariants.{Create, Bind, Updated, Unbind, Activate, Modified, Deactivate, Destroy}
use Rattle.callback_orders.specs.declared.callback.Outcome.{Outcome}
use Rattle.callback_orders.specs.declared.word.Called.{Called}
use Rattle.callback_orders.specs.Lives.{held_after, held_by, held_for}
use Rattle.prop_map.specs.Words.{has}
use Rattle.instance_callbacks.specs.Bound.{binds, was_bound}

kept_by : (p : ℕ → Bool) (s : ℕ) (x : ℕ) (held : List ℕ) (b : Bool) → (x == s) ≡ false → has (filter p held) s ≡ false → has (cond b (x ∷ filter p held) (filter p held)) s ≡ false
kept_by p s x held true e rest = ap (λ b. b || has (filter p held) s) e ∙ rest
kept_by p s x held false e rest = rest

parts : (a b : Bool) → (a || b) ≡ false → (a ≡ false) × (b ≡ false)
parts false b e = (refl, e)
parts true b e = (e, absurd (false≢true (sym e)))

filtered : (p : ℕ → Bool) (s : ℕ) (held : List ℕ) → has held s ≡ false → has (filter p held) s ≡ false
filtered p s [] e = refl
filtered p s (x ∷ held) e = let two = parts (x == s) (has held s) e in kept_by p s x held (p x) two.0 (filtered p s held two.1)

added : (s x : ℕ) (held : List ℕ) → has held s ≡ false → (x == s) ≡ false → has (held ++ x ∷ []) s ≡ false
added s x held e f = list_any-append (λ n. n == s) held (x ∷ []) ∙ (λ j. e j || (f j || false))

either : (s : ℕ) (a b : List ℕ) (t : Bool) → has a s ≡ false → has b s ≡ false → has (cond t a b) s ≡ false
either s a b true e f = e
either s a b false e f = f

unbound_by : (s : ℕ) (name : List ℕ) (callback : Callback) (o : Option Outcome) (held : List ℕ) → has held s ≡ false → binds s callback ≡ false → has (held_by name callback o held) s ≡ false
unbound_by s name Create o held e f = e
unbound_by s name (Bind r x) o held e f = either s (held ++ x ∷ []) held (bytes_eq r name) (added s x held e f) e
unbound_by s name (Updated r x) o held e f = e
unbound_by s name (Unbind r x) (Some outcome) held e f = either s (filter (λ n. not (n == x)) held) held (bytes_eq r name) (filtered (λ n. not (n == x)) s held e) e
unbound_by s name (Unbind r x) None held e f = e
unbound_by s name Activate o held e f = e
unbound_by s name Modified o held e f = e
unbound_by s name Deactivate o held e f = e
unbound_by s name Destroy o held e f = e

unbound_after : (s : ℕ) (name : List ℕ) (calls : List Called) (held : List ℕ) → has held s ≡ false → was_bound s calls ≡ false → has (held_after name held calls) s ≡ false
unbound_after s name [] held e f = e
unbound_after s name (c ∷ calls) held e f =
    let two = parts (binds s c.callback) (was_bound s calls) f in
    unbound_after s name calls (held_by name c.callback c.outcome held) (unbound_by s name c.callback c.outcome held e two.0) two.1

pub never_held : (s : ℕ) (calls : List Called) (name : List ℕ) → was_bound s calls ≡ false → has (held_for name calls) s ≡ false
never_held s calls name f = unbound_after s name calls [] refl f
