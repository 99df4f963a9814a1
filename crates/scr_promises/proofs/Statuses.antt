-- Whether a service is known after events, by whether it was known before them.
use Rattle.std.proofs.Common.{◌≡◌, ℕ, List, [], ◌∷◌, ◌++◌, ap, sym, ◌∙◌, refl, cond, Bool, true, false, ◌||◌, inl, inr, ◌⊎◌}
use Rattle.std.specs.Prelude.{filter, flat_map, not, ◌==◌}
use Rattle.std.specs.List.{Contains}
use Rattle.std.proofs.lemmas.Bool.{both_ways, cases_Bool, eq-eqb, eqb-true}
use Rattle.component_state.proofs.Apart.{has_kept, in_cases, in_first, in_none, in_rest}
use Rattle.prop_map.specs.Words.{has}
use Rattle.scr_promises.specs.Events.{after_event, replayed, tells_match}
use Rattle.service_listeners.specs.declared.listener.ServiceEvent.{ServiceEvent}

-- whether a service is known after these events
abbrev pub status : ℕ → Bool → List ServiceEvent → Bool
status s known [] = known
status s known (e ∷ events) = status s (cond (e.service == s) (tells_match e) known) events

none_left : (ns : List ℕ) (s : ℕ) → has (filter (λ n. not (n == s)) ns) s ≡ false
none_left [] s = refl
none_left (n ∷ ns) s = go (n == s) refl (none_left ns s)
  where
    go : (b : Bool) → (n == s) ≡ b → has (filter (λ m. not (m == s)) ns) s ≡ false → has (cond (not b) (n ∷ filter (λ m. not (m == s)) ns) (filter (λ m. not (m == s)) ns)) s ≡ false
    go true is later = later
    go false is later = ap (λ b. b || has (filter (λ m. not (m == s)) ns) s) is ∙ later

other_way : (n k : ℕ) → (n == k) ≡ false → (k == n) ≡ false
other_way n k off = elim (cases_Bool (k == n)) [
  | inl same ↦ absurd (both_ways (n == k) off (eq-eqb n k (sym (eqb-true k n same))))
  | inr other ↦ other
]

event_status : (known : List ℕ) (e : ServiceEvent) (s : ℕ) → has (after_event known e) s ≡ cond (e.service == s) (tells_match e) (has known s)
event_status known e s = go (tells_match e) (e.service == s) refl
  where
    go : (t b : Bool) → (e.service == s) ≡ b → has (cond t (e.service ∷ known) (filter (λ n. not (n == e.service)) known)) s ≡ cond b t (has known s)
    go true true is = ap (λ k. k || has known s) is
    go true false is = ap (λ k. k || has known s) is
    go false true is = ap (λ m. has (filter (λ n. not (n == e.service)) known) m) (sym (eqb-true e.service s is)) ∙ none_left known e.service
    go false false is = has_kept (λ n. not (n == e.service)) known s (ap not (other_way e.service s is))

pub replayed_status : (known : List ℕ) (events : List ServiceEvent) (s : ℕ) → has (replayed known events) s ≡ status s (has known s) events
replayed_status known [] s = refl
replayed_status known (e ∷ events) s = replayed_status (after_event known e) events s ∙ ap (λ b. status s b events) (event_status known e s)

pub status_over : (s : ℕ) (known : Bool) (these those : List ServiceEvent) → status s known (these ++ those) ≡ status s (status s known these) those
status_over s known [] those = refl
status_over s known (e ∷ events) those = status_over s (cond (e.service == s) (tells_match e) known) events those

-- one event
pub told_it : (s : ℕ) (known : Bool) (e : ServiceEvent) → e.service ≡ s → status s known (e ∷ []) ≡ tells_match e
told_it s known e is = ap (λ b. cond b (tells_match e) known) (eq-eqb e.service s is)

-- ---- over many changes

same_or_not : (a b : Bool) → (a ≡ b) ⊎ (a ≡ not b)
same_or_not true true = inl refl
same_or_not true false = inr refl
same_or_not false true = inr refl
same_or_not false false = inl refl

not_same : (b : Bool) → b ≡ not b → ⊥
not_same true e = cc
not_same false e = cc

module _ {C : Type 0} (tell : C → List ServiceEvent) (s : ℕ) (then : Bool) where
  -- where each change keeps what is so afterwards, all do
  stays : (cs : List C) → ((c : C) → Contains cs c → status s then (tell c) ≡ then) → status s then (flat_map tell cs) ≡ then
  stays [] keeps = refl
  stays (c ∷ cs) keeps =
      status_over s then (tell c) (flat_map tell cs) ∙ ap (λ b. status s b (flat_map tell cs)) (keeps c (in_first c cs)) ∙ stays cs (λ d h. keeps d (in_rest c cs d h))

  -- and where it is so already, or some change makes it so, it is so after all of them
  pub status_of_all : (cs : List C) (was : Bool) → ((c : C) → Contains cs c → status s then (tell c) ≡ then) → (was ≡ then) ⊎ ((c : C) × Contains cs c × (status s was (tell c) ≡ then)) → status s was (flat_map tell cs) ≡ then
  status_of_all cs was keeps (inl same) = ap (λ b. status s b (flat_map tell cs)) same ∙ stays cs keeps
  status_of_all [] was keeps (inr made) = absurd (in_none made.0 made.1)
  status_of_all (c ∷ cs) was keeps (inr made) = status_over s was (tell c) (flat_map tell cs) ∙ elim (same_or_not (status s was (tell c)) then) [
    | inl now ↦ ap (λ b. status s b (flat_map tell cs)) now ∙ stays cs (λ d h. keeps d (in_rest c cs d h))
    | inr not_now ↦ elim (in_cases c cs made.0 made.1) [
      | inl here ↦ absurd (not_same then (sym (ap (λ (d : C). status s was (tell d)) here ∙ made.2) ∙ not_now))
      | inr later ↦ elim (same_or_not was then) [
        | inl same ↦ absurd (not_same then (sym (keeps c (in_first c cs)) ∙ ap (λ b. status s b (tell c)) (sym same) ∙ not_now))
        | inr other ↦ ap (λ b. status s b (flat_map tell cs)) (not_now ∙ sym other) ∙ status_of_all cs was (λ d h. keeps d (in_rest c cs d h)) (inr (made.0, later, made.2))
      ]
    ]
  ]
