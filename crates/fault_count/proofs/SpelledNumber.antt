-- The number that digits spell, read from the front.
use Rattle.std.proofs.Common.{◌≡◌, ℕ, suc, ◌+◌, ◌-◌, ◌*◌, ◌^◌, ◌<◌, ◌≤◌, List, [], ◌∷◌, length, get_or, drop, add-one, drop-cons, sym, ◌∙◌, arith}
use Rattle.std.proofs.Math.Nat.{add-mul, mul_assoc, pow-suc}
use Rattle.fault_count.specs.DecimalText.{number_of}

-- the number that the digits spell when they follow those of n
abbrev pub number_after : ℕ → List ℕ → ℕ
number_after n [] = n
number_after n (d ∷ ds) = number_after (10 * n + (d - 48)) ds

-- a digit weighs ten to the power of its place
pub weight : (n digit place rest : ℕ) → (10 * n + digit) * 10 ^ place + rest ≡ n * 10 ^ suc place + (digit * 10 ^ place + rest)
weight n digit place rest = rw (pow-suc 10 place) (weighs (10 ^ place)) where
  weighs : (power : ℕ) → (10 * n + digit) * power + rest ≡ n * (power * 10) + (digit * power + rest)
  weighs power = rw (add-mul (10 * n) digit power, mul_assoc 10 n power, ← mul_assoc n power 10) (omega arith)

pub number_after-weighs : (n : ℕ) (ds : List ℕ) → number_after n ds ≡ n * 10 ^ length ds + number_of ds
number_after-weighs n [] = grind arith
number_after-weighs n (d ∷ ds) = number_after-weighs (10 * n + (d - 48)) ds ∙ weight n (d - 48) (length ds) (number_of ds)

pub number_of-after : (ds : List ℕ) → number_of ds ≡ number_after 0 ds
number_of-after ds = sym (number_after-weighs 0 ds ∙ grind arith)

-- more digits spell no lower number
pub number_after-grows : (n : ℕ) (ds : List ℕ) → n ≤ number_after n ds
number_after-grows n [] = omega arith
number_after-grows n (d ∷ ds) = omega (arith, number_after-grows (10 * n + (d - 48)) ds)

-- the number goes on with the next digit
pub number_after-step : (ds : List ℕ) (i n : ℕ) → i < length ds → number_after n (drop i ds) ≡ number_after (10 * n + (get_or ds i 0 - 48)) (drop (i + 1) ds)
number_after-step ds i n within = rw (add-one, drop-cons ds i 0 within)
