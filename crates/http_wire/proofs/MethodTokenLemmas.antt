-- The two words for a token are one, and a token is known by its test.
use Rattle.std.proofs.Common.{◌≡◌, ℕ, ◌<◌, Bool, true, false, List, [], ◌∷◌, length, refl, sym, ◌∙◌, arith}
use Rattle.std.specs.List.{list_all}
use Rattle.std.proofs.lemmas.Bool.{false≢true}
use Rattle.std.proofs.lemmas.List.Elements.{All-nil, All-cons, All-head, All-tail}
use Rattle.httparse.specs.Grammar.{is_token_byte, IsToken, AllPass}
use Rattle.http_header.specs.Token.{is_token_byte as is_header_byte, IsToken as IsHeaderToken}
use Rattle.http_wire.proofs.InsideTargetLemmas.{all_from_test, test_from_all}

same_byte : (b : ℕ) → is_header_byte b ≡ is_token_byte b
unfolding is_header_byte is_token_byte
same_byte b = refl

from_header : (bs : List ℕ) → AllPass is_header_byte bs → AllPass is_token_byte bs
from_header [] h = All-nil _
from_header (b ∷ bs) h =
    All-cons (λ x. is_token_byte x ≡ true) b bs (sym (same_byte b) ∙ All-head (λ x. is_header_byte x ≡ true) b bs h)
    (from_header bs (All-tail (λ x. is_header_byte x ≡ true) b bs h))

to_header : (bs : List ℕ) → AllPass is_token_byte bs → AllPass is_header_byte bs
to_header [] h = All-nil _
to_header (b ∷ bs) h =
    All-cons (λ x. is_header_byte x ≡ true) b bs (same_byte b ∙ All-head (λ x. is_token_byte x ≡ true) b bs h)
    (to_header bs (All-tail (λ x. is_token_byte x ≡ true) b bs h))

pub header_token : (bs : List ℕ) → IsToken bs → IsHeaderToken bs
header_token bs t = (t.0, to_header bs t.1)

by_test : (bs : List ℕ) (t : Bool) → list_all is_token_byte bs ≡ t → ¬ (¬ (IsHeaderToken bs)) → AllPass is_token_byte bs
by_test bs true q some = all_from_test is_token_byte bs q
by_test bs false q some =
    absurd (some (λ t. false≢true (sym q ∙ test_from_all is_token_byte bs (from_header bs t.1))))

some_byte : (bs : List ℕ) → ¬ (¬ (IsHeaderToken bs)) → 0 < length bs
some_byte [] some = absurd (some (λ t. absurd (omega (arith, t.0))))
some_byte (b ∷ bs) some = omega arith

-- what is not refused is a token
pub token_unless : (bs : List ℕ) → ¬ (¬ (IsHeaderToken bs)) → IsToken bs
token_unless bs some = (some_byte bs some, by_test bs (list_all is_token_byte bs) refl some)
