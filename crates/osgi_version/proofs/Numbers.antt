-- Numbers, digit by digit.
use Rattle.std.proofs.Common.{◌≡◌, ℕ, ◌+◌, ◌*◌, ◌<◌, ◌≤◌, List, [], ◌∷◌, ◌++◌, Some, sym, ap, ◌∙◌, arith}
use Rattle.std.specs.Char.{digit_value}
use Rattle.std.specs.Str.Parse.{digits_value_after}
use Rattle.std.proofs.lemmas.Bool.Decides.{nat_tests}
use Rattle.std.proofs.lemmas.Int.Digits.{digits_push, digits_value_push}
use Rattle.std.proofs.lemmas.List.{length-append}
use Rattle.osgi_version.specs.Numbers.{IsNumber, with_digit}

-- digits never make a number smaller
pub grows : (n : ℕ) (ds : List ℕ) → n ≤ digits_value_after 10 n ds
grows n [] = omega arith
grows n (d ∷ ds) = let more = grows (n * 10 + digit_value d) ds in omega arith

pub takes_digit : (n b : ℕ) → digit_value b < 10 → n * 10 + digit_value b ≤ 2147483647 → with_digit n b ≡ Some (n * 10 + digit_value b)
takes_digit n b small fits = grind (arith, nat_tests)

pub took_digit : (n b m : ℕ) → with_digit n b ≡ Some m → (digit_value b < 10) × (m ≡ n * 10 + digit_value b) × (m ≤ 2147483647)
took_digit n b m e = grind (arith, nat_tests)

-- a number with one digit more
pub longer : (ds : List ℕ) (n b m : ℕ) → IsNumber ds n → with_digit n b ≡ Some m → IsNumber (ds ++ b ∷ []) m
longer ds n b m (numeral, value, _) e =
    let took = took_digit n b m e in
    ((rw length-append (omega arith), digits_push 10 ds b numeral.1 took.0), digits_value_push 10 ds b ∙ (ap (λ k. k * 10 + digit_value b) value ∙ sym took.1), took.2)

pub one_digit : (b m : ℕ) → with_digit 0 b ≡ Some m → IsNumber (b ∷ []) m
one_digit b m e =
    let took = took_digit 0 b m e in
    ((omega arith, (took.0, tt)), sym took.1, took.2)
