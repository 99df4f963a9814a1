-- What `parse` reads as a whole number is what the definition says.
use Rattle.std.proofs.Common.{◌≡◌, refl, ap, ℕ, ◌^◌, List, [], ◌∷◌, Bool, true, false, cond, ltb, length, Some, None, ℤ, pos, negsuc, Decides, w64}
use Rattle.std.specs.Prelude.{Result, Ok, Err}
use Rattle.std.specs.Result.{OkIff, result_ok}
use Rattle.std.specs.Char.{digit_value}
use Rattle.std.specs.Str.Parse.{AllDigits, IsNumeral, ParsesSigned, signed_digits_value, without_leading_sign}
use Rattle.std.proofs.lemmas.Bool.{false≢true}
use Rattle.std.proofs.lemmas.Bool.Decides.{Decides-and, Decides-ltb}
use mir.Val.{SFits}
use Rattle.ldap_filter.specs.Matching.{are_digits, is_i64, is_whole, whole_of}

digits_decide : (cs : List ℕ) → Decides (are_digits cs) (AllDigits 10 cs)
digits_decide [] = (λ _. tt, λ _. refl)
digits_decide (c ∷ cs) = Decides-and (ltb (digit_value c) 10) (are_digits cs) (Decides-ltb (digit_value c) 10) (digits_decide cs)

fits_decide : (z : ℤ) → Decides (is_i64 z) (SFits w64 z)
fits_decide (pos n) = (λ e. record { sfits = (Decides-ltb n (2 ^ 63)).0 e }, λ f. (Decides-ltb n (2 ^ 63)).1 f.sfits)
fits_decide (negsuc n) = (λ e. record { sfits = (Decides-ltb n (2 ^ 63)).0 e }, λ f. (Decides-ltb n (2 ^ 63)).1 f.sfits)

whole_decides : (text : List ℕ) → Decides (is_whole text) (IsNumeral 10 (without_leading_sign text) × SFits w64 (signed_digits_value 10 text))
whole_decides text = Decides-and _ (is_i64 (signed_digits_value 10 text)) (Decides-and (ltb 0 (length (without_leading_sign text))) (are_digits (without_leading_sign text)) (Decides-ltb 0 (length (without_leading_sign text))) (digits_decide (without_leading_sign text))) (fits_decide (signed_digits_value 10 text))

by_test : {E : Type 0} {P : Type 0} (b : Bool) (v : ℤ) (r : Result ℤ E) → Decides b P → OkIff r P v → result_ok r ≡ cond b (Some v) None
by_test true v (Ok x) d h = ap Some h.1
by_test false v (Ok x) d h = absurd (false≢true (d.1 h.0))
by_test true v (Err e) d h = absurd (h (d.0 refl))
by_test false v (Err e) d h = refl

pub parsed : {E : Type 0} (text : List ℕ) (r : Result ℤ E) → ParsesSigned w64 10 text r → result_ok r ≡ whole_of text
parsed text r h = by_test (is_whole text) (signed_digits_value 10 text) r (whole_decides text) h
