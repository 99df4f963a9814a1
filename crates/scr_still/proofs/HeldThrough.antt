-- What an instance holds stays held when a callback begins, and when one ends that isn't its Unbind.
use Rattle.std.proofs.Common.{◌≡◌, ℕ, List, [], ◌∷◌, ◌++◌, ap, arith, sym, ◌∙◌, refl, Bool, true, false, ◌&&◌, ◌||◌, inl, inr, Option, Some, None}
use Rattle.std.specs.Prelude.{not, filter, ◌==◌, if◌then◌else◌}
use Rattle.std.specs.Str.{bytes_eq}
use Rattle.std.proofs.lemmas.Bool.{and_parts, or_left, cases_Bool, both_ways}
use Rattle.callback_orders.specs.declared.callback.Callback.{Callback}
use Rattle.callback_orders.specs.declared.callback.Callback.TheVariants.{Create, Bind, Updated, Unbind, Activate, Modified, Deactivate, Destroy}
use Rattle.callback_orders.specs.declared.callback.Outcome.{Outcome}
use Rattle.callback_orders.specs.declared.word.Called.{Called}
use Rattle.callback_orders.specs.Lives.{held_after, held_by, held_for}
use Rattle.callback_orders.specs.Sequences.{begun, ended}
use Rattle.component_state.proofs.Apart.{has_both, has_kept}
use Rattle.prop_map.specs.Words.{has}
use Rattle.scr_world.specs.Instances.{last_is}

-- ---- one callback more

pub held_more : (name : List ℕ) (calls : List Called) (c : Called) (held : List ℕ) → held_after name held (calls ++ c ∷ []) ≡ held_by name c.callback c.outcome (held_after name held calls)
held_more name [] c held = refl
held_more name (d ∷ rest) c held = held_more name rest c (held_by name d.callback d.outcome held)

-- a callback that begins takes nothing away
begin_keeps : (name : List ℕ) (callback : Callback) (held : List ℕ) (s : ℕ) → has held s ≡ true → has (held_by name callback None held) s ≡ true
begin_keeps name Create held s is = is
begin_keeps name (Bind reference service) held s is = go (bytes_eq reference name)
  where
    go : (b : Bool) → has (if b then held ++ service ∷ [] else held) s ≡ true
    go true = has_both held (service ∷ []) s ∙ or_left (has held s) (has (service ∷ []) s) is
    go false = is
begin_keeps name (Updated reference service) held s is = is
begin_keeps name (Unbind reference service) held s is = is
begin_keeps name Activate held s is = is
begin_keeps name Modified held s is = is
begin_keeps name Deactivate held s is = is
begin_keeps name Destroy held s is = is

pub held_begins : (name : List ℕ) (calls : List Called) (callback : Callback) (s : ℕ) → has (held_for name calls) s ≡ true → has (held_for name (calls ++ begun callback ∷ [])) s ≡ true
held_begins name calls callback s is = ap (λ (held : List ℕ). has held s) (held_more name calls (begun callback) []) ∙ begin_keeps name callback (held_for name calls) s is

-- ---- a callback that ends

-- a callback unbinds a service
abbrev pub unbinds : ℕ → Callback → Bool
unbinds s (Unbind reference service) = service == s
unbinds s _ = false

turned : (a b : ℕ) → (a == b) ≡ false → (b == a) ≡ false
turned a b off = grind (arith)

other_kept : (s service : ℕ) (held : List ℕ) → (service == s) ≡ false → has (filter (λ n. not (n == service)) held) s ≡ has held s
other_kept s service held off = has_kept (λ n. not (n == service)) held s (ap not (turned service s off))

-- of a callback that unbinds another service or none, it doesn't matter for what is held whether it has ended
either_outcome : (name : List ℕ) (callback : Callback) (o p : Option Outcome) (held : List ℕ) (s : ℕ) → unbinds s callback ≡ false → has (held_by name callback o held) s ≡ has (held_by name callback p held) s
either_outcome name Create o p held s off = refl
either_outcome name (Bind reference service) o p held s off = refl
either_outcome name (Updated reference service) o p held s off = refl
either_outcome name (Unbind reference service) o p held s off = so o ∙ sym (so p)
  where
    so : (x : Option Outcome) → has (held_by name (Unbind reference service) x held) s ≡ has held s
    so None = refl
    so (Some y) = go (bytes_eq reference name)
      where
        go : (b : Bool) → has (if b then filter (λ n. not (n == service)) held else held) s ≡ has held s
        go true = other_kept s service held off
        go false = refl
either_outcome name Activate o p held s off = refl
either_outcome name Modified o p held s off = refl
either_outcome name Deactivate o p held s off = refl
either_outcome name Destroy o p held s off = refl

pub held_ends : (outcome : Outcome) (name : List ℕ) (calls : List Called) (held : List ℕ) (s : ℕ) → last_is (unbinds s) calls ≡ false
    → has (held_after name held (ended outcome calls)) s ≡ has (held_after name held calls) s
held_ends outcome name [] held s off = refl
held_ends outcome name (c ∷ []) held s off = either_outcome name c.callback (Some outcome) c.outcome held s off
held_ends outcome name (c ∷ d ∷ rest) held s off = held_ends outcome name (d ∷ rest) (held_by name c.callback c.outcome held) s off
