-- The turns of a journal stand at their numbers.
use Rattle.std.proofs.Common.{◌≡◌, ◌<◌, ◌≤◌, ℕ, ◌+◌, ◌-◌, zero, suc, length, get_or, drop, List, [], ◌∷◌, refl, ap, sym, ◌∙◌, Bool, true, false, cond, ◌⊎◌, inl, inr, Some, arith}
use Rattle.std.specs.Prelude.{filter, map, nat_lt, slice_set}
use Rattle.std.proofs.lemmas.Bool.{eq-eqb, lt-ltb, ne_eqb}
use borrow.Author.Tests.{ltb-true}
use Rattle.callback_orders.specs.declared.callback.Outcome.{Outcome}
use Rattle.scr_readers.specs.Turns.{AreCounted}
use Rattle.scr_world.specs.TurnLines.{ended_line}
use Rattle.scr_world.specs.declared.lines.TurnLine.{TurnLine}

-- ---- those above a number

abbrev above : ℕ → TurnLine → Bool
above m line = nat_lt m line.turn

not_above : (a b : ℕ) → b ≤ a → nat_lt a b ≡ false
not_above a b low = go (nat_lt a b) refl
  where
    go : (c : Bool) → nat_lt a b ≡ c → nat_lt a b ≡ false
    go true e = (let high = ltb-true a b e in absurd (omega (arith, high, low)))
    go false e = e

all_above : (m n : ℕ) (lines : List TurnLine) → AreCounted n lines → m < n → filter (above m) lines ≡ lines
all_above m n [] counted low = refl
all_above m n (l ∷ lines) counted low =
    let first = counted.0 in
    ap (λ b. cond b (l ∷ filter (above m) lines) (filter (above m) lines)) (lt-ltb m l.turn (omega (arith, low, first)))
    ∙ ap (λ (ls : List TurnLine). l ∷ ls) (all_above m (n + 1) lines counted.1 (omega (arith, low)))

pub kept_above : (m n k : ℕ) (lines : List TurnLine) → AreCounted n lines → m + 1 ≡ n + k → filter (above m) lines ≡ drop k lines
kept_above m n zero [] counted at = refl
kept_above m n (suc k) [] counted at = refl
kept_above m n zero (l ∷ lines) counted at = all_above m n (l ∷ lines) counted (omega (arith, at))
kept_above m n (suc k) (l ∷ lines) counted at =
    let first = counted.0 in
    ap (λ b. cond b (l ∷ filter (above m) lines) (filter (above m) lines)) (not_above m l.turn (omega (arith, at, first)))
    ∙ kept_above m (n + 1) k lines counted.1 (omega (arith, at))

-- ---- one that ends

abbrev done_with : Outcome → TurnLine → TurnLine
done_with outcome line = record line { outcome = Some outcome }

this_line : (turn : ℕ) (outcome : Outcome) (line : TurnLine) → line.turn ≡ turn → ended_line turn outcome line ≡ done_with outcome line
this_line turn outcome line same = ap (λ b. cond b (done_with outcome line) line) (eq-eqb line.turn turn same)

other_line : (turn : ℕ) (outcome : Outcome) (line : TurnLine) → (line.turn ≡ turn → ⊥) → ended_line turn outcome line ≡ line
other_line turn outcome line differs = ap (λ b. cond b (done_with outcome line) line) (ne_eqb line.turn turn differs)

none_end : (turn n : ℕ) (outcome : Outcome) (lines : List TurnLine) → AreCounted n lines → turn < n → map (ended_line turn outcome) lines ≡ lines
none_end turn n outcome [] counted low = refl
none_end turn n outcome (l ∷ lines) counted low =
    ap (λ (x : TurnLine). x ∷ map (ended_line turn outcome) lines) (other_line turn outcome l (λ same. omega (arith, low, counted.0, same)))
    ∙ ap (λ (ls : List TurnLine). l ∷ ls) (none_end turn (n + 1) outcome lines counted.1 (omega (arith, low)))

none_end_later : (turn n : ℕ) (outcome : Outcome) (lines : List TurnLine) → AreCounted n lines → n + length lines ≤ turn → map (ended_line turn outcome) lines ≡ lines
none_end_later turn n outcome [] counted high = refl
none_end_later turn n outcome (l ∷ lines) counted high =
    ap (λ (x : TurnLine). x ∷ map (ended_line turn outcome) lines) (other_line turn outcome l (λ same. omega (arith, high, counted.0, same)))
    ∙ ap (λ (ls : List TurnLine). l ∷ ls) (none_end_later turn (n + 1) outcome lines counted.1 (omega (arith, high)))

set_end : (turn n k : ℕ) (outcome : Outcome) (lines : List TurnLine) (d : TurnLine) → AreCounted n lines → k < length lines → turn ≡ n + k
    → slice_set lines k (done_with outcome (get_or lines k d)) ≡ map (ended_line turn outcome) lines
set_end turn n k outcome [] d counted within at = absurd (omega (arith, within))
set_end turn n zero outcome (l ∷ lines) d counted within at =
    ap (λ (x : TurnLine). x ∷ lines) (sym (this_line turn outcome l (omega (arith, counted.0, at))))
    ∙ ap (λ (ls : List TurnLine). ended_line turn outcome l ∷ ls) (sym (none_end turn (n + 1) outcome lines counted.1 (omega (arith, at))))
set_end turn n (suc k) outcome (l ∷ lines) d counted within at =
    ap (λ (ls : List TurnLine). l ∷ ls) (set_end turn (n + 1) k outcome lines d counted.1 (omega (arith, within)) (omega (arith, at)))
    ∙ ap (λ (x : TurnLine). x ∷ map (ended_line turn outcome) lines) (sym (other_line turn outcome l (λ same. omega (arith, at, counted.0, same))))

pub end_set : (turn : ℕ) (outcome : Outcome) (lines : List TurnLine) (d : TurnLine) → AreCounted 1 lines → 0 < turn → turn ≤ length lines
    → slice_set lines (turn - 1) (done_with outcome (get_or lines (turn - 1) d)) ≡ map (ended_line turn outcome) lines
end_set turn outcome lines d counted some within = set_end turn 1 (turn - 1) outcome lines d counted (omega (arith, some, within)) (omega (arith, some))

pub end_none : (turn : ℕ) (outcome : Outcome) (lines : List TurnLine) → AreCounted 1 lines → (turn ≡ 0) ⊎ (length lines < turn) → lines ≡ map (ended_line turn outcome) lines
end_none turn outcome lines counted (inl none) = sym (none_end turn 1 outcome lines counted (omega (arith, none)))
end_none turn outcome lines counted (inr later) = sym (none_end_later turn 1 outcome lines counted (omega (arith, later)))
