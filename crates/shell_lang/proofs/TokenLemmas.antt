-- A token is known by its test.
use Rattle.std.proofs.Common.{◌≡◌, ℕ, List, length, refl, sym, Bool, true, false, Some, None, Ok, Err, subst}
use Rattle.std.specs.Prelude.{◌&&◌, IfOk, MatchOption, Option, Result, nat_lt}
use Rattle.std.specs.List.{list_all}
use Rattle.std.proofs.lemmas.Bool.{and_from, and_parts, lt-ltb, ltb-true}
use Rattle.httparse.specs.Grammar.{IsToken, is_token, is_token_byte}
use Rattle.http_wire.proofs.InsideTargetLemmas.{all_from_test, test_from_all}

tested : (word : List ℕ) → IsToken word → is_token word ≡ true
tested word token = and_from (nat_lt 0 (length word)) (list_all is_token_byte word) (lt-ltb 0 (length word) token.0) (test_from_all is_token_byte word token.1)

from_test : (word : List ℕ) → is_token word ≡ true → IsToken word
from_test word is =
    let both = and_parts (nat_lt 0 (length word)) (list_all is_token_byte word) is in
    (ltb-true 0 (length word) both.0, all_from_test is_token_byte word both.1)

untested : (word : List ℕ) → ¬ (IsToken word) → is_token word ≡ false
untested word none = cases (is_token word) refl where
  cases : (b : Bool) → b ≡ is_token word → b ≡ false
  cases true is = absurd (none (from_test word (sym is)))
  cases false is = refl

abbrev Found : List ℕ → Option (List ℕ) → Type 0
Found word found = MatchOption found (¬ (IsToken word)) (λ method. IsToken word × (method ≡ word))

abbrev FoundByTest : List ℕ → Option (List ℕ) → Type 0
FoundByTest word found = MatchOption found (is_token word ≡ false) (λ method. (is_token word ≡ true) × (method ≡ word))

by_test : (word : List ℕ) (found : Option (List ℕ)) → Found word found → FoundByTest word found
by_test word None none = untested word none
by_test word (Some method) (token, is) = (tested word token, is)

-- the method that a word names, by its test
pub found_by_test : {E : Type 0} (bytes word : List ℕ) → bytes ≡ word → (r : Result (Option (List ℕ)) E) → IfOk r (Found bytes) → IfOk r (FoundByTest word)
found_by_test bytes word is (Ok found) read = by_test word found (subst (λ (w : List ℕ). Found w found) is read)
found_by_test bytes word is (Err fault) read = read
