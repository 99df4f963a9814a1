-- No two gets by token have one place.
use Rattle.std.proofs.Common.{◌≡◌, ◌<◌, ℕ, ◌+◌, List, [], ◌∷◌, ◌++◌, length, ap, sym, ◌∙◌, refl, cond, arith, Bool, true, false, ◌||◌, inl, inr}
use Rattle.std.specs.Prelude.{filter, map, not, ◌==◌}
use Rattle.std.specs.List.{Contains, list_any}
use Rattle.std.proofs.lemmas.Bool.{and_parts, eqb-true}
use Rattle.component_state.specs.Inside.Ready.{are_apart}
use Rattle.component_state.proofs.Apart.{apart_both, apart_kept, in_either, in_none, keyed, kept_was, not_true}
use Rattle.prop_map.specs.Words.{has}
use Rattle.scr_laws.proofs.InstanceLemmas.{alone, mapped_over}
use Rattle.scr_world.specs.Lists.{world_after_entry, world_of}
use Rattle.scr_world.specs.Steps.{History}
use Rattle.scr_world.specs.Stepping.{world_after_step}
use Rattle.scr_world.specs.Tables.{tokens_by}
use Rattle.scr_world.specs.declared.marks.Token.{Token}
use Rattle.scr_world.specs.declared.step.Step.{Step}
use Rattle.scr_world.specs.declared.step.Step.TheVariants.{Command as Commanded, Begin, End, Drained, Got, Released}

abbrev place_of : Token → ℕ
place_of t = t.place

pub record AreSpread (tokens : List Token) (here : ℕ) : Type 0 where
  pub apart : are_apart (map (λ (t : Token). t.place) tokens) ≡ true
  pub before : (t : Token) → Contains tokens t → t.place < here

later : (tokens : List Token) (here : ℕ) → AreSpread tokens here → AreSpread tokens (here + 1)
later tokens here was = record { apart = was.apart; before = λ t h. (let low = was.before t h in omega (arith, low)) }

kept : (p : Token → Bool) (tokens : List Token) (here : ℕ) → AreSpread tokens here → AreSpread (filter p tokens) here
kept p tokens here was = record { apart = apart_kept place_of p tokens was.apart; before = λ t h. was.before t (kept_was p tokens t h).0 }

one_more : (tokens : List Token) (here : ℕ) (t : Token) → t.place ≡ here → AreSpread tokens here → AreSpread (tokens ++ t ∷ []) (here + 1)
one_more tokens here t place was = record {
  apart = ap are_apart (mapped_over place_of tokens (t ∷ [])) ∙ apart_both (map place_of tokens) (t.place ∷ []) was.apart refl other;
  before = λ x h. elim (in_either tokens (t ∷ []) x h) [
    | inl old ↦ (let low = was.before x old in omega (arith, low))
    | inr new ↦ (let same = ap place_of (alone t x new) in omega (arith, same, place))
  ];
}
  where
    other : (n : ℕ) → has (map place_of tokens) n ≡ true → has (t.place ∷ []) n ≡ true → ⊥
    other n old here_too = go (t.place == n) refl here_too
      where
        go : (b : Bool) → (t.place == n) ≡ b → (b || false) ≡ true → ⊥
        go false off h = cc
        go true same h =
            let found = keyed place_of tokens n old in
            let low = was.before found.0 found.1 in
            let e = eqb-true t.place n same in
            let f = found.2 in
            omega (arith, low, e, f, place)

spread_by : (step : Step) (here : ℕ) (tokens : List Token) → AreSpread tokens here → AreSpread (tokens_by step here tokens) (here + 1)
spread_by (Commanded command) here tokens was = later tokens here was
spread_by (Begin turn instance configuration consumer callback chosen) here tokens was = later tokens here was
spread_by (End turn outcome) here tokens was = later tokens here was
spread_by (Drained instance) here tokens was = later tokens here was
spread_by (Got bundle service) here tokens was = one_more tokens here (record { place = here; bundle = bundle; service = service }) refl was
spread_by (Released place) here tokens was = later (filter (λ (t : Token). not (t.place == place)) tokens) here (kept (λ (t : Token). not (t.place == place)) tokens here was)

pub tokens_spread : (past : History) → AreSpread (world_of past).tokens (world_of past).entries
unfolding world_of world_after_entry world_after_step
tokens_spread [] = record { apart = refl; before = λ t h. absurd (in_none t h) }
tokens_spread (entry ∷ past) = kept _ (tokens_by entry.step (world_of past).entries (world_of past).tokens) ((world_of past).entries + 1) (spread_by entry.step (world_of past).entries (world_of past).tokens (tokens_spread past))

-- just one has a place
pub one_released : (place : ℕ) (tokens : List Token) → are_apart (map (λ (t : Token). t.place) tokens) ≡ true → list_any (λ (t : Token). t.place == place) tokens ≡ true → length (filter (λ (t : Token). not (t.place == place)) tokens) + 1 ≡ length tokens
one_released place [] apart some = cc
one_released place (t ∷ ts) apart some = go (t.place == place) refl some (λ h. one_released place ts parts.1 h)
  where
    parts : (not (has (map place_of ts) t.place) ≡ true) × (are_apart (map place_of ts) ≡ true)
    parts = and_parts (not (has (map place_of ts) t.place)) (are_apart (map place_of ts)) apart

    rest_same : (us : List Token) → has (map place_of us) place ≡ false → filter (λ (u : Token). not (u.place == place)) us ≡ us
    rest_same [] none = refl
    rest_same (u ∷ us) none = at (u.place == place) none (rest_same us)
      where
        at : (b : Bool) → (b || has (map place_of us) place) ≡ false → (has (map place_of us) place ≡ false → filter (λ (v : Token). not (v.place == place)) us ≡ us)
            → cond (not b) (u ∷ filter (λ (v : Token). not (v.place == place)) us) (filter (λ (v : Token). not (v.place == place)) us) ≡ u ∷ us
        at true h tail = cc
        at false h tail = ap (λ xs. u ∷ xs) (tail h)

    go : (b : Bool) → (t.place == place) ≡ b → (b || list_any (λ (u : Token). u.place == place) ts) ≡ true
        → (list_any (λ (u : Token). u.place == place) ts ≡ true → length (filter (λ (u : Token). not (u.place == place)) ts) + 1 ≡ length ts)
        → length (cond (not b) (t ∷ filter (λ (u : Token). not (u.place == place)) ts) (filter (λ (u : Token). not (u.place == place)) ts)) + 1 ≡ length (t ∷ ts)
    go true its h rest = let same = ap length (rest_same ts (ap (has (map place_of ts)) (sym (eqb-true t.place place its)) ∙ not_true (has (map place_of ts) t.place) parts.0)) in omega (arith, same)
    go false off h rest = let less = rest h in omega (arith, less)

-- what is kept and what isn't
pub kept_and_dropped : {X : Type 0} (p : X → Bool) (xs : List X) → length (filter p xs) + length (filter (λ x. not (p x)) xs) ≡ length xs
kept_and_dropped p [] = omega arith
kept_and_dropped p (x ∷ xs) = go (p x) (kept_and_dropped p xs)
  where
    go : (b : Bool) → length (filter p xs) + length (filter (λ y. not (p y)) xs) ≡ length xs
        → length (cond b (x ∷ filter p xs) (filter p xs)) + length (cond (not b) (x ∷ filter (λ y. not (p y)) xs) (filter (λ y. not (p y)) xs)) ≡ length (x ∷ xs)
    go true rest = omega (arith, rest)
    go false rest = omega (arith, rest)
