-- The last callback, and the callbacks before it.
use Rattle.std.proofs.Common.{◌≡◌, ℕ, ◌-◌, suc, length, take, List, [], ◌∷◌, false, refl, ap, sym, subst, arith}
use Rattle.std.specs.Prelude.{is_none}
use Rattle.std.specs.List.{slice_get}
use Rattle.std.specs.Option.{option_map_or}
use Rattle.callback_orders.specs.declared.word.Called.{Called}
use Rattle.callback_orders.specs.Sequences.{all_but_last, is_outstanding}

outstanding_at : (c : Called) (rest : List Called) → is_outstanding (c ∷ rest) ≡ option_map_or (λ (c : Called). is_none c.outcome) (slice_get (c ∷ rest) (length rest)) false
outstanding_at c [] = refl
outstanding_at c (d ∷ rest) = outstanding_at d rest

pub outstanding_last : (calls : List Called) → is_outstanding calls ≡ option_map_or (λ (c : Called). is_none c.outcome) (slice_get calls (length calls - 1)) false
outstanding_last [] = refl
outstanding_last (c ∷ rest) =
    let e : length rest ≡ suc (length rest) - 1 = omega arith in
    subst (λ (i : ℕ). is_outstanding (c ∷ rest) ≡ option_map_or (λ (c : Called). is_none c.outcome) (slice_get (c ∷ rest) i) false) e (outstanding_at c rest)

take_before : (c : Called) (rest : List Called) → take (length rest) (c ∷ rest) ≡ all_but_last (c ∷ rest)
take_before c [] = refl
take_before c (d ∷ rest) = ap (λ (l : List Called). c ∷ l) (take_before d rest)

take_before_length : (calls : List Called) → take (length calls - 1) calls ≡ all_but_last calls
take_before_length [] = refl
take_before_length (c ∷ rest) =
    let e : length rest ≡ suc (length rest) - 1 = omega arith in
    subst (λ (i : ℕ). take i (c ∷ rest) ≡ all_but_last (c ∷ rest)) e (take_before c rest)

pub all_but_last-taken : (calls : List Called) (n : ℕ) → n ≡ length calls → take (n - 1) calls ≡ all_but_last calls
all_but_last-taken calls n e = subst (λ (m : ℕ). take (m - 1) calls ≡ all_but_last calls) (sym e) (take_before_length calls)
