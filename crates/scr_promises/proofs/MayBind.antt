-- What a reference may still bind gets no more as services are added: a service that was known before and may be bound now might be bound then.
use Rattle.std.proofs.Common.{◌≡◌, ℕ, List, [], ◌∷◌, ap, sym, ◌∙◌, refl, subst, cond, Bool, true, false, ◌||◌, inl, inr}
use Rattle.std.specs.Prelude.{filter, take, ◌==◌}
use Rattle.std.specs.List.{Contains, list_any}
use Rattle.std.proofs.lemmas.Bool.{both_ways, eq-eqb, eqb-true, or_cases, or_left}
use Rattle.component_state.proofs.Apart.{any_found, any_from, kept_was}
use Rattle.prop_map.specs.Words.{has, is_empty}
use Rattle.prop_map.specs.declared.reference_words.Policy.{Policy}
use Rattle.prop_map.specs.declared.reference_words.Policy.TheVariants.{Static, Dynamic}
use Rattle.prop_map.specs.declared.reference_words.PolicyOption.{PolicyOption}
use Rattle.prop_map.specs.declared.reference_words.PolicyOption.TheVariants.{Reluctant, Greedy}
use Rattle.reference_match.specs.Targets.{desired_by}
use Rattle.scr_promises.proofs.Potentials.{may_bind}

false_from : (b : Bool) → (b ≡ true → ⊥) → b ≡ false
false_from true never = absurd (never refl)
false_from false never = refl

pub has_taken : (xs : List ℕ) (s : ℕ) → has (take 1 xs) s ≡ true → has xs s ≡ true
has_taken [] s on = on
has_taken (x ∷ xs) s on = elim (or_cases (x == s) false on) [
  | inl same ↦ or_left (x == s) (has xs s) same
  | inr never ↦ cc
]

in_has : (xs : List ℕ) (s : ℕ) → Contains xs s → has xs s ≡ true
in_has xs s h = any_from (λ n. n == s) xs s h (eq-eqb s s refl)

pub has_in : (xs : List ℕ) (s : ℕ) → has xs s ≡ true → Contains xs s
has_in xs s on = let n = any_found (λ m. m == s) xs on in subst (λ m. Contains xs m) (eqb-true n.0 s n.2) n.1

-- one of the targets is held
abbrev pub is_stuck : List ℕ → List ℕ → Bool
is_stuck held targets = list_any (has held) targets

pub stuck_by : (held targets : List ℕ) (u : ℕ) → has targets u ≡ true → has held u ≡ true → is_stuck held targets ≡ true
stuck_by held targets u there on = any_from (has held) targets u (has_in targets u there) on

pub stuck_at : (held targets : List ℕ) → is_stuck held targets ≡ true → (u : ℕ) × ((has targets u ≡ true) × (has held u ≡ true))
stuck_at held targets on = let u = any_found (has held) targets on in (u.0, (in_has targets u.0 u.1, u.2))

-- ---- over an entry

pub may_before : (policy : Policy) (option : PolicyOption) (multiple : Bool) (choice held held_then targets targets_then : List ℕ) (s : ℕ)
    → (has targets_then s ≡ true → has targets s ≡ true) → (has (take 1 targets_then) s ≡ true → has (take 1 targets) s ≡ true) → (policy ≡ Dynamic → option ≡ Reluctant → multiple ≡ false → is_stuck held targets ≡ true → is_stuck held_then targets_then ≡ true)
    → has (may_bind policy option multiple choice held_then targets_then) s ≡ true → has (may_bind policy option multiple choice held targets) s ≡ true
may_before Static option multiple choice held held_then targets targets_then s to best stuck on = on
may_before Dynamic option true choice held held_then targets targets_then s to best stuck on = to on
may_before Dynamic Greedy false choice held held_then targets targets_then s to best stuck on = best on
may_before Dynamic Reluctant false choice held held_then targets targets_then s to best stuck on = go (is_stuck held targets) refl (is_stuck held_then targets_then) refl on
  where
    go : (a : Bool) → is_stuck held targets ≡ a → (b : Bool) → is_stuck held_then targets_then ≡ b → has (cond b [] targets_then) s ≡ true → has (cond a [] targets) s ≡ true
    go a was true is k = cc
    go false was false is k = to k
    go true was false is k = absurd (both_ways (is_stuck held_then targets_then) is (stuck refl refl refl was))

-- ---- what is desired and not held may be bound

empty_filter : (held targets : List ℕ) → is_stuck held targets ≡ false → is_empty (filter (has held) targets) ≡ true
empty_filter held [] off = refl
empty_filter held (t ∷ ts) off = go (empty_filter held ts) (has held t) off
  where
    go : (list_any (has held) ts ≡ false → is_empty (filter (has held) ts) ≡ true) → (b : Bool) → (b || list_any (has held) ts) ≡ false → is_empty (cond b (t ∷ filter (has held) ts) (filter (has held) ts)) ≡ true
    go later true k = cc
    go later false k = later k

some_filter : (held targets : List ℕ) → is_stuck held targets ≡ true → is_empty (filter (has held) targets) ≡ false
some_filter held [] on = cc
some_filter held (t ∷ ts) on = go (some_filter held ts) (has held t) on
  where
    go : (list_any (has held) ts ≡ true → is_empty (filter (has held) ts) ≡ false) → (b : Bool) → (b || list_any (has held) ts) ≡ true → is_empty (cond b (t ∷ filter (has held) ts) (filter (has held) ts)) ≡ false
    go later true k = refl
    go later false k = later k

has_filter : (held targets : List ℕ) (s : ℕ) → has (filter (has held) targets) s ≡ true → (has held s ≡ true) × (has targets s ≡ true)
has_filter held targets s on = let kept = kept_was (has held) targets s (has_in (filter (has held) targets) s on) in (kept.1, in_has targets s kept.0)

pub desired_may : (policy : Policy) (option : PolicyOption) (multiple : Bool) (choice sorted held targets : List ℕ) (s : ℕ) → (has sorted s ≡ true → has choice s ≡ true) → has held s ≡ false
    → has (desired_by policy option multiple sorted held targets) s ≡ true → has (may_bind policy option multiple choice held targets) s ≡ true
desired_may Static option multiple choice sorted held targets s from off on = from on
desired_may Dynamic option true choice sorted held targets s from off on = on
desired_may Dynamic Greedy false choice sorted held targets s from off on = on
desired_may Dynamic Reluctant false choice sorted held targets s from off on = go (is_stuck held targets) refl
  where
    go : (b : Bool) → is_stuck held targets ≡ b → has (cond b [] targets) s ≡ true
    go false is = has_taken targets s (ap (λ (b : Bool). has (cond b (take 1 targets) (take 1 (filter (has held) targets))) s) (sym (empty_filter held targets is)) ∙ on)
    go true is = absurd (both_ways (has held s) off (has_filter held targets s (has_taken (filter (has held) targets) s
        (ap (λ (b : Bool). has (cond b (take 1 targets) (take 1 (filter (has held) targets))) s) (sym (some_filter held targets is)) ∙ on))).0)

-- ---- what isn't desired, where all that is desired is held, may not be bound once it is let go; and one of the held targets stays held

-- an Unbind that is due
pub record IsLetGo (policy : Policy) (option : PolicyOption) (multiple : Bool) (sorted held targets : List ℕ) (t : ℕ) : Type 0 where
  pub other : has (desired_by policy option multiple sorted held targets) t ≡ false
  pub holds : (u : ℕ) → has (desired_by policy option multiple sorted held targets) u ≡ true → has held u ≡ true

first_has : (xs : List ℕ) → is_empty xs ≡ false → (u : ℕ) × (has (take 1 xs) u ≡ true)
first_has [] some = cc
first_has (x ∷ xs) some = (x, or_left (x == x) false (eq-eqb x x refl))

empty_none : (xs : List ℕ) (s : ℕ) → is_empty xs ≡ true → has xs s ≡ true → ⊥
empty_none [] s none on = cc
empty_none (x ∷ xs) s none on = cc

-- a held target other than the one that is let go, where the reference is unary and reluctant
pub other_stuck : (sorted held targets : List ℕ) (t : ℕ) → IsLetGo Dynamic Reluctant false sorted held targets t → is_stuck held targets ≡ true → (u : ℕ) × ((has targets u ≡ true) × ((has held u ≡ true) × ((u == t) ≡ false)))
other_stuck sorted held targets t let_go stuck =
    let some = some_filter held targets stuck in
    let u = first_has (filter (has held) targets) some in
    let desired : has (desired_by Dynamic Reluctant false sorted held targets) u.0 ≡ true = ap (λ (b : Bool). has (cond b (take 1 targets) (take 1 (filter (has held) targets))) u.0) some ∙ u.1 in
    let both = has_filter held targets u.0 (has_taken (filter (has held) targets) u.0 u.1) in
    (u.0, (both.1, (both.0, false_from (u.0 == t) (λ same. both_ways (has (desired_by Dynamic Reluctant false sorted held targets) t) let_go.other (ap (has (desired_by Dynamic Reluctant false sorted held targets)) (sym (eqb-true u.0 t same)) ∙ desired)))))

-- where a unary reluctant reference lets go of a target, it holds another one
target_stuck : (sorted held targets : List ℕ) (t : ℕ) → IsLetGo Dynamic Reluctant false sorted held targets t → has targets t ≡ true → has held t ≡ true → is_stuck held targets ≡ true
target_stuck sorted held targets t let_go target on = stuck_by held targets t target on

pub let_go_closed : (policy : Policy) (option : PolicyOption) (multiple : Bool) (choice sorted held held_then targets targets_then : List ℕ) (t : ℕ) → IsLetGo policy option multiple sorted held targets t
    → (has choice t ≡ true → has sorted t ≡ true) → has held t ≡ true
    → (has targets_then t ≡ true → has targets t ≡ true) → (has (take 1 targets_then) t ≡ true → has (take 1 targets) t ≡ true) → ((u : ℕ) → has targets u ≡ true → has targets_then u ≡ true)
    → ((u : ℕ) → has held u ≡ true → (u == t) ≡ false → has held_then u ≡ true)
    → has (may_bind policy option multiple choice held_then targets_then) t ≡ false
let_go_closed policy option multiple choice sorted held held_then targets targets_then t let_go choose on to best grow stays = false_from (has (may_bind policy option multiple choice held_then targets_then) t) (go policy option multiple let_go)
  where
    go : (policy : Policy) (option : PolicyOption) (multiple : Bool) → IsLetGo policy option multiple sorted held targets t → has (may_bind policy option multiple choice held_then targets_then) t ≡ true → ⊥
    go Static option multiple is k = both_ways (has sorted t) is.other (choose k)
    go Dynamic option true is k = both_ways (has targets t) is.other (to k)
    go Dynamic Greedy false is k = both_ways (has (take 1 targets) t) is.other (best k)
    go Dynamic Reluctant false is k = by_stuck (is_stuck held_then targets_then) refl k
      where
        by_stuck : (b : Bool) → is_stuck held_then targets_then ≡ b → has (cond b [] targets_then) t ≡ true → ⊥
        by_stuck true now e = cc
        by_stuck false now e =
            let target = to e in
            let other = other_stuck sorted held targets t is (target_stuck sorted held targets t is target on) in
            both_ways (is_stuck held_then targets_then) now (stuck_by held_then targets_then other.0 (grow other.0 other.1.0) (stays other.0 other.1.1.0 other.1.1.1))
