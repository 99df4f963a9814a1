-- The test for bytes that end inside a target is the definition.
use Rattle.std.proofs.Common.{◌≡◌, ◌≢◌, ℕ, ◌<◌, Bool, true, false, not, ◌&&◌, cond, List, [], ◌∷◌, ◌++◌, length, refl, sym, ap, ◌∙◌, subst, arith, append_assoc, length-append}
use Rattle.std.specs.Prelude.{◌==◌}
use Rattle.std.specs.List.{list_all}
use Rattle.std.proofs.lemmas.List.Elements.{All-nil, All-cons, All-head, All-tail}
use Rattle.std.proofs.lemmas.Bool.{ne_eqb, false≢true}
use Rattle.std.proofs.lemmas.Bool.Decides.{Decides-eqb}
use Rattle.httparse.proofs.PieceLemmas.{space_ends_token}
use Rattle.httparse.specs.Grammar.{is_token_byte, AllPass, LineEnd, crlf, lf, print_end, print_blank}
use Rattle.http_wire.specs.Heads.{EndsInside, is_target_byte}
use Rattle.http_wire.specs.InsideTarget.{is_target_front, is_inside_rest, is_inside_line, is_inside}

pub all_from_test : (test : ℕ → Bool) (bs : List ℕ) → list_all test bs ≡ true → AllPass test bs
all_from_test test [] e = All-nil _
all_from_test test (b ∷ bs) e = All-cons (λ x. test x ≡ true) b bs (both e).0 (all_from_test test bs (both e).1)
  where
    both : {x y : Bool} → (x && y) ≡ true → (x ≡ true) × (y ≡ true)
    both {x} {y} e = split x y e
      where
        split : (x y : Bool) → (x && y) ≡ true → (x ≡ true) × (y ≡ true)
        split true true e = (refl, refl)
        split true false e = absurd (cc)
        split false y e = absurd (cc)

pub test_from_all : (test : ℕ → Bool) (bs : List ℕ) → AllPass test bs → list_all test bs ≡ true
test_from_all test [] h = refl
test_from_all test (b ∷ bs) h =
    ap (λ t. t && list_all test bs) (All-head (λ x. test x ≡ true) b bs h) ∙ test_from_all test bs (All-tail (λ x. test x ≡ true) b bs h)

both : (x y : Bool) → (x && y) ≡ true → (x ≡ true) × (y ≡ true)
both true true e = (refl, refl)
both true false e = absurd (cc)
both false y e = absurd (cc)

-- a method and a target that is cut
record Parts (bs : List ℕ) : Type 0 where
  method : List ℕ
  target : List ℕ
  tokens : AllPass is_token_byte method
  some : 0 < length target
  clear : AllPass is_target_byte target
  is : bs ≡ method ++ 32 ∷ target

-- (the test of the length computes at a list that is not empty)
front_sound : (bs : List ℕ) → is_target_front bs ≡ true → (0 < length bs) × AllPass is_target_byte bs
front_sound [] e = absurd (cc)
front_sound (b ∷ bs) e =
    let two = both (not (length (b ∷ bs) == 0)) (list_all is_target_byte (b ∷ bs)) e in
    (omega arith, all_from_test is_target_byte (b ∷ bs) two.1)

front_complete : (bs : List ℕ) → 0 < length bs → AllPass is_target_byte bs → is_target_front bs ≡ true
front_complete bs some all =
    let no_zero : length bs ≢ 0 = λ e. omega arith in
    ap (λ t. not t && list_all is_target_byte bs) (ne_eqb (length bs) 0 no_zero) ∙ test_from_all is_target_byte bs all

rest_by : (b : ℕ) (bs : List ℕ) → (is_inside_rest bs ≡ true → Parts bs)
    → (t : Bool) → (b == 32) ≡ t → cond t (is_target_front bs) (is_token_byte b && is_inside_rest bs) ≡ true → Parts (b ∷ bs)
rest_by b bs next true q e =
    let f = front_sound bs e in
    let blank : b ≡ 32 = (Decides-eqb b 32).0 q in
    record { method = []; target = bs; tokens = All-nil _; some = f.0; clear = f.1; is = ap (λ (x : ℕ). x ∷ bs) blank }
rest_by b bs next false q e =
    let two = both (is_token_byte b) (is_inside_rest bs) e in
    let p = next two.1 in
    record {
      method = b ∷ p.method;
      target = p.target;
      tokens = All-cons (λ x. is_token_byte x ≡ true) b p.method two.0 p.tokens;
      some = p.some;
      clear = p.clear;
      is = ap (λ (t : List ℕ). b ∷ t) p.is;
    }

rest_sound : (bs : List ℕ) → is_inside_rest bs ≡ true → Parts bs
rest_sound [] e = absurd (cc)
rest_sound (b ∷ bs) e = rest_by b bs (rest_sound bs) (b == 32) refl e

rest_complete : (method target : List ℕ) → AllPass is_token_byte method → 0 < length target → AllPass is_target_byte target → is_inside_rest (method ++ 32 ∷ target) ≡ true
rest_complete [] target tokens some clear = front_complete target some clear
rest_complete (b ∷ method) target tokens some clear =
    let token = All-head (λ x. is_token_byte x ≡ true) b method tokens in
    let no_blank : b ≢ 32 = λ e. false≢true (sym space_ends_token ∙ subst (λ (v : ℕ). is_token_byte v ≡ true) e token) in
    ap (λ t. cond t (is_target_front (method ++ 32 ∷ target)) (is_token_byte b && is_inside_rest (method ++ 32 ∷ target))) (ne_eqb b 32 no_blank)
    ∙ ap (λ t. t && is_inside_rest (method ++ 32 ∷ target)) token
    ∙ rest_complete method target (All-tail (λ x. is_token_byte x ≡ true) b method tokens) some clear

line_sound : (bs : List ℕ) → is_inside_line bs ≡ true → EndsInside bs
line_sound [] e = absurd (cc)
line_sound (b ∷ bs) e =
    let two = both (is_token_byte b) (is_inside_rest bs) e in
    let p = rest_sound bs two.1 in
    record {
      blank = [];
      method = b ∷ p.method;
      target = p.target;
      token = (omega arith, All-cons (λ x. is_token_byte x ≡ true) b p.method two.0 p.tokens);
      some = p.some;
      clear = p.clear;
      is = ap (λ (t : List ℕ). b ∷ t) p.is;
    }

prepend : (e : LineEnd) (bs : List ℕ) → EndsInside bs → EndsInside (print_end e ++ bs)
prepend e bs p = record {
  blank = e ∷ p.blank;
  method = p.method;
  target = p.target;
  token = p.token;
  some = p.some;
  clear = p.clear;
  is = ap (λ (t : List ℕ). print_end e ++ t) p.is ∙ sym (append_assoc (print_end e) (print_blank p.blank) (p.method ++ 32 ∷ p.target));
}

by_crlf : (b c : ℕ) (bs : List ℕ) → (is_inside bs ≡ true → EndsInside bs)
    → (t : Bool) → (b == 13 && c == 10) ≡ t → cond t (is_inside bs) (is_inside_line (b ∷ c ∷ bs)) ≡ true → EndsInside (b ∷ c ∷ bs)
by_crlf b c bs next true q e =
    let two = both (b == 13) (c == 10) q in
    let cr : b ≡ 13 = (Decides-eqb b 13).0 two.0 in
    let nl : c ≡ 10 = (Decides-eqb c 10).0 two.1 in
    let same : 13 ∷ 10 ∷ bs ≡ b ∷ c ∷ bs = cc in
    subst EndsInside same (prepend crlf bs (next e))
by_crlf b c bs next false q e = line_sound (b ∷ c ∷ bs) e

by_lf : (b c : ℕ) (bs : List ℕ) → (is_inside (c ∷ bs) ≡ true → EndsInside (c ∷ bs)) → (is_inside bs ≡ true → EndsInside bs)
    → (t : Bool) → (b == 10) ≡ t → cond t (is_inside (c ∷ bs)) (cond (b == 13 && c == 10) (is_inside bs) (is_inside_line (b ∷ c ∷ bs))) ≡ true → EndsInside (b ∷ c ∷ bs)
by_lf b c bs one two true q e =
    let nl : b ≡ 10 = (Decides-eqb b 10).0 q in
    let same : 10 ∷ c ∷ bs ≡ b ∷ c ∷ bs = cc in
    subst EndsInside same (prepend lf (c ∷ bs) (one e))
by_lf b c bs one two false q e = by_crlf b c bs two (b == 13 && c == 10) refl e

pub inside_sound : (bs : List ℕ) → is_inside bs ≡ true → EndsInside bs
inside_sound [] e = absurd (cc)
inside_sound (b ∷ []) e = absurd (cc)
inside_sound (b ∷ c ∷ bs) e = by_lf b c bs (inside_sound (c ∷ bs)) (inside_sound bs) (b == 10) refl e

lf_step : (bs : List ℕ) → is_inside (10 ∷ bs) ≡ is_inside bs
lf_step [] = refl
lf_step (c ∷ bs) = refl

lf_is_no_token : is_token_byte 10 ≡ false
unfolding is_token_byte
lf_is_no_token = refl

cr_is_no_token : is_token_byte 13 ≡ false
unfolding is_token_byte
cr_is_no_token = refl

token_step : (b : ℕ) (bs : List ℕ) → is_token_byte b ≡ true → 0 < length bs → is_inside (b ∷ bs) ≡ is_inside_line (b ∷ bs)
token_step b [] token some = absurd (omega arith)
token_step b (c ∷ bs) token some =
    let no_lf : b ≢ 10 = λ e. false≢true (sym (lf_is_no_token) ∙ subst (λ (v : ℕ). is_token_byte v ≡ true) e token) in
    let no_cr : b ≢ 13 = λ e. false≢true (sym (cr_is_no_token) ∙ subst (λ (v : ℕ). is_token_byte v ≡ true) e token) in
    ap (λ t. cond t (is_inside (c ∷ bs)) (cond (b == 13 && c == 10) (is_inside bs) (is_inside_line (b ∷ c ∷ bs)))) (ne_eqb b 10 no_lf)
    ∙ ap (λ t. cond (t && c == 10) (is_inside bs) (is_inside_line (b ∷ c ∷ bs))) (ne_eqb b 13 no_cr)

blank_complete : (es : List LineEnd) (method target : List ℕ) → 0 < length method → AllPass is_token_byte method → 0 < length target → AllPass is_target_byte target
    → is_inside (print_blank es ++ (method ++ 32 ∷ target)) ≡ true
blank_complete [] [] target word tokens some clear = absurd (omega arith)
blank_complete [] (b ∷ method) target word tokens some clear =
    let token = All-head (λ x. is_token_byte x ≡ true) b method tokens in
    token_step b (method ++ 32 ∷ target) token (omega (arith, length-append method (32 ∷ target)))
    ∙ ap (λ t. t && is_inside_rest (method ++ 32 ∷ target)) token
    ∙ rest_complete method target (All-tail (λ x. is_token_byte x ≡ true) b method tokens) some clear
blank_complete (crlf ∷ es) method target word tokens some clear = blank_complete es method target word tokens some clear
blank_complete (lf ∷ es) method target word tokens some clear =
    lf_step (print_blank es ++ (method ++ 32 ∷ target)) ∙ blank_complete es method target word tokens some clear

pub inside_complete : (bs : List ℕ) → EndsInside bs → is_inside bs ≡ true
inside_complete bs p = ap is_inside p.is ∙ blank_complete p.blank p.method p.target p.token.0 p.token.1 p.some p.clear
