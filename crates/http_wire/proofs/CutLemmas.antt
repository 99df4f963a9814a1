-- A head that is cut short has a shortest end.
use Rattle.std.proofs.Common.{◌≡◌, ℕ, suc, ◌+◌, ◌<◌, ◌≤◌, Bool, true, List, [], ◌∷◌, ◌++◌, length, drop, refl, sym, ap, ◌∙◌, subst, arith, append_assoc, append-nil, length-append, length-drop, inl, inr, ◌⊎◌}
use Rattle.std.proofs.lemmas.List.Elements.{All-nil, All-cons, All-head, All-tail, All-weaker}
use Rattle.std.proofs.lemmas.Bool.Decides.{nat_tests}
use Rattle.std.proofs.lemmas.Bool.{cases_lt}
use Rattle.std.proofs.lemmas.Grind.{flat_map-append}
use Rattle.std.proofs.lemmas.Str.{IsUtf8-from_ascii}
use Rattle.std.proofs.lemmas.Str.Ascii.{IsAscii-cons, IsAscii-nil}
use Rattle.std.specs.Prelude.{All}
use Rattle.std.specs.List.{flat_map}
use Rattle.httparse.specs.Grammar.{is_token_byte, is_uri_byte, is_value_byte, AllPass, LineEnd, crlf, lf, IsField, print_end, print_blank, Field, print_field, print_section, print_version, RequestHead, IsRequestHead, print_request, ReadsRequest}
use Rattle.httparse.proofs.GrammarLemmas.{print_request-append, cons-append}
use Rattle.httparse.proofs.OpenLemmas.{letter_is_token}
use Rattle.http_wire.specs.Heads.{EndsInside, is_target_byte}
use Rattle.http_wire.specs.Continuation.{ending, IsTail, after_name, part, Shortens}

-- two ways to part a text
pub levi : (a b c d : List ℕ) → a ++ b ≡ c ++ d → ((x : List ℕ) × (c ≡ a ++ x) × (b ≡ x ++ d)) ⊎ ((x : List ℕ) × (a ≡ c ++ x) × (x ++ b ≡ d))
levi [] b c d e = inl (c, refl, e)
levi (x ∷ a) b [] d e = inr (x ∷ a, refl, e)
levi (x ∷ a) b (y ∷ c) d e =
    elim (levi a b c d (cc)) [ inl r ↦ inl (r.0, cc, r.2) | inr r ↦ inr (r.0, cc, r.2) ]

pub All-front : {A : Type 0} (P : A → Type 0) (xs ys : List A) → All P (xs ++ ys) → All P xs
All-front P [] ys h = All-nil P
All-front P (x ∷ xs) ys h = All-cons P x xs (All-head P x (xs ++ ys) h) (All-front P xs ys (All-tail P x (xs ++ ys) h))

pub pass_front : (test : ℕ → Bool) (xs ys : List ℕ) → AllPass test (xs ++ ys) → AllPass test xs
pass_front test xs ys h = All-front (λ b. test b ≡ true) xs ys h

pub end_some : (e : LineEnd) → 0 < length (print_end e)
end_some crlf = omega arith
end_some lf = omega arith

pub section_some : (fs : List Field) (last : LineEnd) → 0 < length (print_section fs last)
section_some fs last = omega (arith, length-append (flat_map print_field fs) (print_end last), end_some last)

-- ---- sections

-- the shortest ends of a section that is cut short
pub data IsSectionEnd (tail : List ℕ) : Type 0 where
  one_line : tail ≡ 10 ∷ [] → IsSectionEnd tail
  two_lines : tail ≡ 10 ∷ 10 ∷ [] → IsSectionEnd tail
  behind_name : tail ≡ 58 ∷ 10 ∷ 10 ∷ [] → IsSectionEnd tail

pub record ShortSection (text : List ℕ) (most fields : ℕ) : Type 0 where
  pub tail : List ℕ
  pub is_tail : IsSectionEnd tail
  pub lines : List Field
  pub last : LineEnd
  pub valid : All IsField lines
  pub is : text ++ tail ≡ print_section lines last
  pub shorter : length tail ≤ most
  pub fewer : length lines ≤ fields

one_end : IsTail (10 ∷ [])
unfolding ending
one_end = part 14 (omega arith) refl

two_ends : IsTail (10 ∷ 10 ∷ [])
unfolding ending
two_ends = part 13 (omega arith) refl

section_tail : (tail : List ℕ) → IsSectionEnd tail → IsTail tail
unfolding ending
section_tail tail (one_line e) = part 14 (omega arith) e
section_tail tail (two_lines e) = part 13 (omega arith) e
section_tail tail (behind_name e) = after_name e

section_end : (last : LineEnd) (v more : List ℕ) (m : ℕ) → v ++ more ≡ print_end last → 0 < length more → ShortSection v (length more) m
section_end last [] more m e some = record {
  tail = 10 ∷ [];
  is_tail = one_line refl;
  lines = [];
  last = lf;
  valid = All-nil IsField;
  is = refl;
  shorter = omega arith;
  fewer = omega arith;
}
section_end crlf (a ∷ []) more m e some = record {
  tail = 10 ∷ [];
  is_tail = one_line refl;
  lines = [];
  last = crlf;
  valid = All-nil IsField;
  is = cc;
  shorter = omega arith;
  fewer = omega arith;
}
section_end crlf (a ∷ b ∷ v) more m e some = absurd (omega (arith, ap length e, length-append v more))
section_end lf (a ∷ v) more m e some = absurd (omega (arith, ap length e, length-append v more))

-- one whole line, and then less than a section
line_first : (f : Field) (v : List ℕ) (n m : ℕ) → IsField f → ShortSection v n m → ShortSection (print_field f ++ v) n (suc m)
line_first f v n m valid s = record {
  tail = s.tail;
  is_tail = s.is_tail;
  lines = f ∷ s.lines;
  last = s.last;
  valid = All-cons IsField f s.lines valid s.valid;
  is = append_assoc (print_field f) v s.tail ∙ ap (λ (t : List ℕ). print_field f ++ t) s.is ∙ sym (append_assoc (print_field f) (flat_map print_field s.lines) (print_end s.last));
  shorter = s.shorter;
  fewer = omega (arith, s.fewer);
}

field_text : (f : Field) (rest : List ℕ) → print_field f ++ rest ≡ f.name ++ 58 ∷ (f.raw ++ (print_end f.end ++ rest))
field_text f rest = simp append_assoc

-- a line that is cut behind its name or in its value, and ends so
line_cut : (f : Field) (v tail : List ℕ) (n m : ℕ) → IsField f → IsSectionEnd tail → v ++ tail ≡ print_field f ++ 10 ∷ [] → length tail ≤ n → ShortSection v n (suc m)
line_cut f v tail n m valid is_tail e short = record {
  tail = tail;
  is_tail = is_tail;
  lines = f ∷ [];
  last = lf;
  valid = All-cons IsField f [] valid (All-nil IsField);
  is = e ∙ ap (λ (t : List ℕ). t ++ 10 ∷ []) (sym (append-nil (print_field f)));
  shorter = short;
  fewer = omega arith;
}

plain_field : List ℕ → List ℕ → LineEnd → Field
plain_field name raw end = record { name = name; raw = raw; end = end }

name_cut : (v : List ℕ) (x : List ℕ) (n m : ℕ) → AllPass is_token_byte (v ++ x) → 3 ≤ n → ShortSection v n (suc m)
name_cut [] x n m all short = record {
  tail = 10 ∷ [];
  is_tail = one_line refl;
  lines = [];
  last = lf;
  valid = All-nil IsField;
  is = refl;
  shorter = omega arith;
  fewer = omega arith;
}
name_cut (b ∷ v) x n m all short =
    line_cut (record { name = b ∷ v; raw = []; end = lf }) (b ∷ v) (58 ∷ 10 ∷ 10 ∷ []) n m
    (record { name = (omega arith, pass_front is_token_byte (b ∷ v) x all); raw = All-nil _ }) (behind_name refl) (simp append_assoc) short

value_cut : (f : Field) (v w x : List ℕ) (n m : ℕ) → IsField f → f.raw ≡ w ++ x → v ≡ f.name ++ 58 ∷ w → 2 ≤ n → ShortSection v n (suc m)
value_cut f v w x n m valid raw is short =
    line_cut (record { name = f.name; raw = w; end = lf }) v (10 ∷ 10 ∷ []) n m
    (record { name = valid.name; raw = pass_front is_value_byte w x (subst (AllPass is_value_byte) raw valid.raw) }) (two_lines refl) (rw is (simp append_assoc)) short

-- a line that is cut in its end, or read whole
value_read : (name raw : List ℕ) (end : LineEnd) (v u more rest : List ℕ) (m : ℕ) → IsField (record { name = name; raw = raw; end = end })
    → v ≡ name ++ 58 ∷ (raw ++ u) → u ++ more ≡ print_end end ++ rest → 0 < length rest
    → ((w : List ℕ) → v ≡ print_field (record { name = name; raw = raw; end = end }) ++ w → w ++ more ≡ rest → ShortSection v (length more) (suc m))
    → ShortSection v (length more) (suc m)
value_read name raw end v [] more rest m valid is e some next =
    value_cut (record { name = name; raw = raw; end = end }) v raw [] (length more) m valid (sym (append-nil raw)) (rw append-nil at is)
    (omega (arith, ap length e, length-append (print_end end) rest, end_some end))
value_read name raw crlf v (a ∷ []) more rest m valid is e some next =
    let f : Field = record { name = name; raw = raw; end = crlf } in
    let cr : a ≡ 13 = cc in
    line_cut f v (10 ∷ 10 ∷ []) (length more) m valid (two_lines refl) (rw (is, cr) (simp append_assoc)) (omega (arith, ap length e))
value_read name raw crlf v (a ∷ b ∷ u) more rest m valid is e some next =
    let f : Field = record { name = name; raw = raw; end = crlf } in
    let same : a ∷ b ∷ u ≡ 13 ∷ 10 ∷ u = cc in
    next u (is ∙ ap (λ (t : List ℕ). name ++ 58 ∷ (raw ++ t)) same ∙ sym (field_text f u)) (cc)
value_read name raw lf v (a ∷ u) more rest m valid is e some next =
    let f : Field = record { name = name; raw = raw; end = lf } in
    let same : a ∷ u ≡ 10 ∷ u = cc in
    next u (is ∙ ap (λ (t : List ℕ). name ++ 58 ∷ (raw ++ t)) same ∙ sym (field_text f u)) (cc)

-- a line that is cut behind its colon
colon_read : (f : Field) (v u more rest : List ℕ) (m : ℕ) → IsField f
    → v ≡ f.name ++ u → u ++ more ≡ 58 ∷ (f.raw ++ (print_end f.end ++ rest)) → 0 < length rest
    → ((w : List ℕ) → v ≡ print_field f ++ w → w ++ more ≡ rest → ShortSection v (length more) (suc m))
    → ShortSection v (length more) (suc m)
colon_read f v [] more rest m valid is e some next =
    let whole : v ≡ f.name = is ∙ append-nil f.name in
    subst (λ (t : List ℕ). ShortSection t (length more) (suc m)) (sym whole)
    (name_cut f.name [] (length more) m (subst (AllPass is_token_byte) (sym (append-nil f.name)) valid.name.1)
    (omega (arith, ap length e, length-append f.raw (print_end f.end ++ rest), length-append (print_end f.end) rest, end_some f.end)))
colon_read f v (c ∷ u) more rest m valid is e some next =
    let colon : c ≡ 58 = cc in
    let after : u ++ more ≡ f.raw ++ (print_end f.end ++ rest) = cc in
    let text : v ≡ f.name ++ 58 ∷ u = rw colon at is in
    elim (levi u more f.raw (print_end f.end ++ rest) after) [
      | inl r ↦ value_cut f v u r.0 (length more) m valid r.1 text
          (omega (arith, ap length r.2, length-append r.0 (print_end f.end ++ rest), length-append (print_end f.end) rest, end_some f.end))
      | inr r ↦ value_read f.name f.raw f.end v r.0 more rest m valid (text ∙ ap (λ (t : List ℕ). f.name ++ 58 ∷ t) r.1) r.2 some next
    ]

pub section_cut : (fs : List Field) (last : LineEnd) (v more : List ℕ) → All IsField fs → v ++ more ≡ print_section fs last → 0 < length more
    → ShortSection v (length more) (length fs)
section_cut [] last v more all e some = section_end last v more 0 e some
section_cut (f ∷ fs) last v more all e some =
    let rest = print_section fs last in
    let valid = All-head IsField f fs all in
    let more_lines = λ (u : List ℕ) (is : v ≡ print_field f ++ u) (g : u ++ more ≡ rest).
    subst (λ (t : List ℕ). ShortSection t (length more) (suc (length fs))) (sym is)
    (line_first f u (length more) (length fs) valid (section_cut fs last u more (All-tail IsField f fs all) g some)) in
    let text : v ++ more ≡ f.name ++ 58 ∷ (f.raw ++ (print_end f.end ++ rest)) =
    e ∙ append_assoc (print_field f) (flat_map print_field fs) (print_end last) ∙ field_text f rest in
    elim (levi v more f.name (58 ∷ (f.raw ++ (print_end f.end ++ rest))) text) [
      | inl r ↦ name_cut v r.0 (length more) (length fs) (subst (AllPass is_token_byte) r.1 valid.name.1)
          (omega (arith, ap length r.2, length-append r.0 (58 ∷ (f.raw ++ (print_end f.end ++ rest))), length-append f.raw (print_end f.end ++ rest), length-append (print_end f.end) rest, end_some f.end, section_some fs last))
      | inr r ↦ colon_read f v r.0 more rest (length fs) valid r.1 r.2 (section_some fs last) more_lines
    ]

-- ---- heads

pub head_text : (h : RequestHead) → print_request h ++ []
    ≡ print_blank h.blank ++ (h.method ++ 32 ∷ (h.target ++ 32 ∷ (print_version h.minor ++ (print_end h.line_end ++ print_section h.fields h.last))))
head_text h = print_request-append h [] ∙ simp append-nil

-- the head is valid, and its text is the bytes with that end
done : (h : RequestHead) (bytes tail : List ℕ) (n m : ℕ) → IsRequestHead h → IsTail tail
    → bytes ++ tail ≡ print_blank h.blank ++ (h.method ++ 32 ∷ (h.target ++ 32 ∷ (print_version h.minor ++ (print_end h.line_end ++ print_section h.fields h.last))))
    → length tail ≤ n → length h.fields ≤ m → Shortens bytes n m
done h bytes tail n m valid is_tail e short few =
    record { tail = tail; is_tail = is_tail; head = h; reads = (valid, e ∙ sym (head_text h)); shorter = short; fewer = few }

pub a_token : AllPass is_token_byte (65 ∷ [])
a_token = All-cons (λ b. is_token_byte b ≡ true) 65 [] letter_is_token (All-nil _)

slash_target : AllPass is_uri_byte (47 ∷ [])
slash_target = All-cons (λ b. is_uri_byte b ≡ true) 47 [] refl (All-nil _)

-- the least head with that method behind these empty lines
abbrev pub least_head : List LineEnd → List ℕ → RequestHead
least_head blank method = record { blank = blank; method = method; target = 47 ∷ []; minor = 0; line_end = lf; fields = []; last = lf }

pub least_valid : (blank : List LineEnd) (method : List ℕ) → 0 < length method → AllPass is_token_byte method → IsRequestHead (least_head blank method)
least_valid blank method some all = record {
  method = (some, all);
  target = (omega arith, slash_target);
  target_text = IsUtf8-from_ascii _ (IsAscii-cons 47 [] (omega arith) IsAscii-nil);
  minor = omega arith;
  fields = All-nil IsField;
}

-- the ends by their places
ending_14 : IsTail (65 ∷ 32 ∷ 47 ∷ 32 ∷ 72 ∷ 84 ∷ 84 ∷ 80 ∷ 47 ∷ 49 ∷ 46 ∷ 48 ∷ 10 ∷ 10 ∷ [])
unfolding ending
ending_14 = part 1 (omega arith) refl

ending_15 : IsTail (10 ∷ 65 ∷ 32 ∷ 47 ∷ 32 ∷ 72 ∷ 84 ∷ 84 ∷ 80 ∷ 47 ∷ 49 ∷ 46 ∷ 48 ∷ 10 ∷ 10 ∷ [])
unfolding ending
ending_15 = part 0 (omega arith) refl

ending_13 : IsTail (32 ∷ 47 ∷ 32 ∷ 72 ∷ 84 ∷ 84 ∷ 80 ∷ 47 ∷ 49 ∷ 46 ∷ 48 ∷ 10 ∷ 10 ∷ [])
unfolding ending
ending_13 = part 2 (omega arith) refl

ending_12 : IsTail (47 ∷ 32 ∷ 72 ∷ 84 ∷ 84 ∷ 80 ∷ 47 ∷ 49 ∷ 46 ∷ 48 ∷ 10 ∷ 10 ∷ [])
unfolding ending
ending_12 = part 3 (omega arith) refl

-- at the start of a line
at_start : (blank : List LineEnd) (bytes : List ℕ) (n m : ℕ) → bytes ≡ print_blank blank → 14 ≤ n → Shortens bytes n m
at_start blank bytes n m is short =
    done (least_head blank (65 ∷ [])) bytes _ n m (least_valid blank (65 ∷ []) (omega arith) a_token) ending_14 (rw is) short (omega arith)

blank_more : (es : List LineEnd) → print_blank (es ++ crlf ∷ []) ≡ print_blank es ++ 13 ∷ 10 ∷ []
blank_more es = flat_map-append print_end es (crlf ∷ [])

-- behind the CR of an empty line
in_blank : (blank : List LineEnd) (bytes : List ℕ) (n m : ℕ) → bytes ≡ print_blank blank ++ 13 ∷ [] → 15 ≤ n → Shortens bytes n m
in_blank blank bytes n m is short =
    done (least_head (blank ++ crlf ∷ []) (65 ∷ [])) bytes _ n m (least_valid (blank ++ crlf ∷ []) (65 ∷ []) (omega arith) a_token) ending_15
    (rw (is, blank_more) (simp append_assoc)) short (omega arith)

blank_cut : (es : List LineEnd) (bytes x : List ℕ) (n m : ℕ) → print_blank es ≡ bytes ++ x → 14 + length x ≤ n
    → (before : List LineEnd) (whole : List ℕ) → whole ≡ print_blank before ++ bytes → Shortens whole n m
blank_cut es [] x n m e short before whole is = at_start before whole n m (rw append-nil at is) (omega arith)
blank_cut [] (b ∷ bs) x n m e short before whole is = absurd (cc)
blank_cut (crlf ∷ es) (a ∷ []) x n m e short before whole is =
    let cr : a ≡ 13 = cc in
    in_blank before whole n m (rw cr at is) (omega (arith, ap length e))
blank_cut (crlf ∷ es) (a ∷ b ∷ bs) x n m e short before whole is =
    let same : a ∷ b ∷ bs ≡ 13 ∷ 10 ∷ bs = cc in
    blank_cut es bs x n m (cc) short (before ++ crlf ∷ []) whole
    (is ∙ ap (λ (t : List ℕ). print_blank before ++ t) same ∙ sym (append_assoc (print_blank before) (13 ∷ 10 ∷ []) bs)
    ∙ ap (λ (t : List ℕ). t ++ bs) (sym (flat_map-append print_end before (crlf ∷ []))))
blank_cut (lf ∷ es) (a ∷ bs) x n m e short before whole is =
    let same : a ∷ bs ≡ 10 ∷ bs = cc in
    blank_cut es bs x n m (cc) short (before ++ lf ∷ []) whole
    (is ∙ ap (λ (t : List ℕ). print_blank before ++ t) same ∙ sym (append_assoc (print_blank before) (10 ∷ []) bs)
    ∙ ap (λ (t : List ℕ). t ++ bs) (sym (flat_map-append print_end before (lf ∷ []))))

-- inside a method
in_method : (blank : List LineEnd) (method bytes : List ℕ) (n m : ℕ) → 0 < length method → AllPass is_token_byte method
    → bytes ≡ print_blank blank ++ method → 13 ≤ n → Shortens bytes n m
in_method blank method bytes n m some all is short =
    done (least_head blank method) bytes _ n m (least_valid blank method some all) ending_13 (rw is (simp append_assoc)) short (omega arith)

-- before a target
before_target : (blank : List LineEnd) (method bytes : List ℕ) (n m : ℕ) → 0 < length method → AllPass is_token_byte method
    → bytes ≡ print_blank blank ++ (method ++ 32 ∷ []) → 12 ≤ n → Shortens bytes n m
before_target blank method bytes n m some all is short =
    done (least_head blank method) bytes _ n m (least_valid blank method some all) ending_12 (rw is (simp append_assoc)) short (omega arith)

uri_is_target : (b : ℕ) → is_uri_byte b ≡ true → is_target_byte b ≡ true
uri_is_target b uri = grind (arith, nat_tests)

-- inside a target, or before it
pub in_target : (blank : List LineEnd) (method target x bytes : List ℕ) (n m : ℕ) → 0 < length method → AllPass is_token_byte method
    → AllPass is_uri_byte (target ++ x) → bytes ≡ print_blank blank ++ (method ++ 32 ∷ target) → (target ≡ [] → 12 ≤ n) → 11 ≤ n
    → Shortens bytes n m ⊎ (EndsInside bytes × (11 ≤ n))
in_target blank method [] x bytes n m some all uri is none short = inl (before_target blank method bytes n m some all is (none refl))
in_target blank method (b ∷ target) x bytes n m some all uri is none short = inr (
  record {
    blank = blank;
    method = method;
    target = b ∷ target;
    token = (some, all);
    some = omega arith;
    clear = All-weaker (λ b. is_uri_byte b ≡ true) (λ b. is_target_byte b ≡ true) uri_is_target (b ∷ target) (pass_front is_uri_byte (b ∷ target) x uri);
    is = is;
  },
  short,
)

abbrev with_version : RequestHead → RequestHead
with_version h = record h { minor = 0; line_end = lf; fields = []; last = lf }

version_valid : (h : RequestHead) → IsRequestHead h → IsRequestHead (with_version h)
version_valid h valid = record { method = valid.method; target = valid.target; target_text = valid.target_text; minor = omega arith; fields = All-nil IsField }

-- what is there of the version, and what of the shortest end is left
version_front : (minor : ℕ) (w x : List ℕ) → print_version minor ≡ w ++ x → 0 < length x
    → (k : ℕ) × (k < 8) × (k + length x ≡ 8) × (w ++ drop (5 + k) (10 ∷ 65 ∷ 32 ∷ 47 ∷ 32 ∷ 72 ∷ 84 ∷ 84 ∷ 80 ∷ 47 ∷ 49 ∷ 46 ∷ 48 ∷ 10 ∷ 10 ∷ []) ≡ print_version 0 ++ (10 ∷ 10 ∷ []))
version_front minor [] x e some = (0, omega arith, omega (arith, ap length e), refl)
version_front minor (a ∷ []) x e some = (1, omega arith, omega (arith, ap length e), cc)
version_front minor (a ∷ b ∷ []) x e some = (2, omega arith, omega (arith, ap length e), cc)
version_front minor (a ∷ b ∷ c ∷ []) x e some = (3, omega arith, omega (arith, ap length e), cc)
version_front minor (a ∷ b ∷ c ∷ d ∷ []) x e some = (4, omega arith, omega (arith, ap length e), cc)
version_front minor (a ∷ b ∷ c ∷ d ∷ f ∷ []) x e some = (5, omega arith, omega (arith, ap length e), cc)
version_front minor (a ∷ b ∷ c ∷ d ∷ f ∷ g ∷ []) x e some = (6, omega arith, omega (arith, ap length e), cc)
version_front minor (a ∷ b ∷ c ∷ d ∷ f ∷ g ∷ h ∷ []) x e some = (7, omega arith, omega (arith, ap length e), cc)
version_front minor (a ∷ b ∷ c ∷ d ∷ f ∷ g ∷ h ∷ i ∷ w) x e some = absurd (omega (arith, ap length e, length-append w x))

-- inside the version
in_version : (h : RequestHead) (w x bytes : List ℕ) (n m : ℕ) → IsRequestHead h → print_version h.minor ≡ w ++ x → 0 < length x
    → bytes ≡ print_blank h.blank ++ (h.method ++ 32 ∷ (h.target ++ 32 ∷ w)) → length x + 2 ≤ n → Shortens bytes n m
unfolding ending
in_version h w x bytes n m valid e some is short =
    let r = version_front h.minor w x e some in
    done (with_version h) bytes (drop (5 + r.0) ending) n m (version_valid h valid) (part (5 + r.0) (omega (arith, r.1)) refl)
    (rw is (simp (append_assoc, cons-append, r.3))) (omega (arith, length-drop (5 + r.0) ending, r.2)) (omega arith)

-- behind the version
in_line_end : (h : RequestHead) (end : LineEnd) (u more bytes rest : List ℕ) (m : ℕ) → IsRequestHead h → 0 < length rest
    → bytes ≡ print_blank h.blank ++ (h.method ++ 32 ∷ (h.target ++ 32 ∷ (print_version h.minor ++ u))) → u ++ more ≡ print_end end ++ rest
    → ((v : List ℕ) → bytes ≡ print_blank h.blank ++ (h.method ++ 32 ∷ (h.target ++ 32 ∷ (print_version h.minor ++ (print_end end ++ v)))) → v ++ more ≡ rest → Shortens bytes (length more) m)
    → Shortens bytes (length more) m
in_line_end h end [] more bytes rest m valid some is e next =
    done (record h { line_end = lf; fields = []; last = lf }) bytes (10 ∷ 10 ∷ []) (length more) m
    (record { method = valid.method; target = valid.target; target_text = valid.target_text; minor = valid.minor; fields = All-nil IsField }) two_ends
    (rw is (simp (append_assoc, cons-append))) (omega (arith, ap length e, length-append (print_end end) rest, end_some end)) (omega arith)
in_line_end h crlf (a ∷ []) more bytes rest m valid some is e next =
    let cr : a ≡ 13 = cc in
    done (record h { line_end = crlf; fields = []; last = lf }) bytes (10 ∷ 10 ∷ []) (length more) m
    (record { method = valid.method; target = valid.target; target_text = valid.target_text; minor = valid.minor; fields = All-nil IsField }) two_ends
    (rw (is, cr) (simp (append_assoc, cons-append))) (omega (arith, ap length e)) (omega arith)
in_line_end h crlf (a ∷ b ∷ u) more bytes rest m valid some is e next =
    let same : a ∷ b ∷ u ≡ 13 ∷ 10 ∷ u = cc in
    next u (rw same at is) (cc)
in_line_end h lf (a ∷ u) more bytes rest m valid some is e next =
    let same : a ∷ u ≡ 10 ∷ u = cc in
    next u (rw same at is) (cc)

-- in the section
in_section : (h : RequestHead) (v more bytes : List ℕ) → IsRequestHead h → v ++ more ≡ print_section h.fields h.last → 0 < length more
    → bytes ≡ print_blank h.blank ++ (h.method ++ 32 ∷ (h.target ++ 32 ∷ (print_version h.minor ++ (print_end h.line_end ++ v))))
    → Shortens bytes (length more) (length h.fields)
in_section h v more bytes valid e some is =
    let s = section_cut h.fields h.last v more valid.fields e some in
    done (record h { fields = s.lines; last = s.last }) bytes s.tail (length more) (length h.fields)
    (record { method = valid.method; target = valid.target; target_text = valid.target_text; minor = valid.minor; fields = s.valid }) (section_tail s.tail s.is_tail)
    (rw is (simp (append_assoc, cons-append, s.is))) s.shorter s.fewer

-- what stands behind the target has ten bytes at least
rest_long : (h : RequestHead) → 10 ≤ length (print_version h.minor ++ (print_end h.line_end ++ print_section h.fields h.last))
rest_long h =
    omega (arith, length-append (print_version h.minor) (print_end h.line_end ++ print_section h.fields h.last), length-append (print_end h.line_end) (print_section h.fields h.last), end_some h.line_end, section_some h.fields h.last, version_long h.minor)
  where
    version_long : (minor : ℕ) → length (print_version minor) ≡ 8
    version_long minor = refl

-- behind the target
after_target : (h : RequestHead) (w more bytes : List ℕ) → IsRequestHead h
    → bytes ≡ print_blank h.blank ++ (h.method ++ 32 ∷ (h.target ++ 32 ∷ w))
    → w ++ more ≡ print_version h.minor ++ (print_end h.line_end ++ print_section h.fields h.last) → 0 < length more
    → Shortens bytes (length more) (length h.fields)
after_target h w more bytes valid is e some =
    let section = print_section h.fields h.last in
    let behind = λ (u : List ℕ) (text : bytes ≡ print_blank h.blank ++ (h.method ++ 32 ∷ (h.target ++ 32 ∷ (print_version h.minor ++ u)))) (g : u ++ more ≡ print_end h.line_end ++ section).
    in_line_end h h.line_end u more bytes section (length h.fields) valid (section_some h.fields h.last) text g
    (λ v v_is v_e. in_section h v more bytes valid v_e some v_is) in
    elim (levi w more (print_version h.minor) (print_end h.line_end ++ section) e) [
      | inl r ↦ elim (cases_lt 0 (length r.0)) [
        | inl inside ↦ in_version h w r.0 bytes (length more) (length h.fields) valid r.1 inside is
            (omega (arith, ap length r.2, length-append r.0 (print_end h.line_end ++ section), length-append (print_end h.line_end) section, end_some h.line_end, section_some h.fields h.last))
        | inr none ↦
            let empty : r.0 ≡ [] = empty_from_length r.0 none in
            let whole : w ≡ print_version h.minor ++ [] = sym (r.1 ∙ ap (λ (t : List ℕ). w ++ t) empty ∙ append-nil w) ∙ sym (append-nil (print_version h.minor)) in
            behind [] (rw whole at is) (rw empty at r.2)
      ]
      | inr r ↦ behind r.0 (rw r.1 at is) r.2
    ]
  where
    empty_from_length : (xs : List ℕ) → length xs ≤ 0 → xs ≡ []
    empty_from_length [] h = refl
    empty_from_length (x ∷ xs) h = absurd (omega arith)

-- behind the method and its blank
after_method : (h : RequestHead) (z more bytes : List ℕ) → IsRequestHead h
    → bytes ≡ print_blank h.blank ++ (h.method ++ 32 ∷ z)
    → z ++ more ≡ h.target ++ 32 ∷ (print_version h.minor ++ (print_end h.line_end ++ print_section h.fields h.last)) → 0 < length more
    → Shortens bytes (length more) (length h.fields) ⊎ (EndsInside bytes × (11 ≤ length more))
after_method h z more bytes valid is e some =
    let rest = print_version h.minor ++ (print_end h.line_end ++ print_section h.fields h.last) in
    elim (levi z more h.target (32 ∷ rest) e) [
      | inl r ↦ in_target h.blank h.method z r.0 bytes (length more) (length h.fields) valid.method.0 valid.method.1
          (subst (AllPass is_uri_byte) r.1 valid.target.1) is
          (λ empty. omega (arith, valid.target.0, ap length r.1, ap length empty, length-append z r.0, ap length r.2, length-append r.0 (32 ∷ rest), rest_long h))
          (omega (arith, ap length r.2, length-append r.0 (32 ∷ rest), rest_long h))
      | inr r ↦ whole r.0 r.1 r.2
    ]
  where
    whole : (w : List ℕ) → z ≡ h.target ++ w → w ++ more ≡ 32 ∷ (print_version h.minor ++ (print_end h.line_end ++ print_section h.fields h.last))
        → Shortens bytes (length more) (length h.fields) ⊎ (EndsInside bytes × (11 ≤ length more))
    whole [] w_is g =
        let z_is : z ≡ h.target = w_is ∙ append-nil h.target in
        in_target h.blank h.method z [] bytes (length more) (length h.fields) valid.method.0 valid.method.1
        (subst (AllPass is_uri_byte) (sym (append-nil z ∙ z_is)) valid.target.1) is
        (λ empty. absurd (omega (arith, valid.target.0, ap length z_is, ap length empty)))
        (omega (arith, ap length g, rest_long h))
    whole (a ∷ w) w_is g =
        let blank : a ≡ 32 = cc in
        let z_is : z ≡ h.target ++ 32 ∷ w = rw blank at w_is in
        inl (after_target h w more bytes valid (rw z_is at is) (cc) some)

-- Less than a head has one of the ends, or ends inside the target.
pub request_cut : (bytes more : List ℕ) (h : RequestHead) → ReadsRequest (bytes ++ more) h [] → 0 < length more
    → Shortens bytes (length more) (length h.fields) ⊎ (EndsInside bytes × (11 ≤ length more))
request_cut bytes more h reads some =
    let rest = print_version h.minor ++ (print_end h.line_end ++ print_section h.fields h.last) in
    elim (levi bytes more (print_blank h.blank) (h.method ++ 32 ∷ (h.target ++ 32 ∷ rest)) (reads.1 ∙ head_text h)) [
      | inl r ↦ inl (blank_cut h.blank bytes r.0 (length more) (length h.fields) r.1
          (omega (arith, ap length r.2, length-append r.0 (h.method ++ 32 ∷ (h.target ++ 32 ∷ rest)), length-append h.method (32 ∷ (h.target ++ 32 ∷ rest)), length-append h.target (32 ∷ rest), rest_long h, reads.0.method.0, reads.0.target.0))
          [] bytes refl)
      | inr r ↦ in_head r.0 r.1 r.2
    ]
  where
    tail_of : List ℕ
    tail_of = print_version h.minor ++ (print_end h.line_end ++ print_section h.fields h.last)

    method_done : (y : List ℕ) → bytes ≡ print_blank h.blank ++ y → y ≡ h.method → 13 ≤ length more → Shortens bytes (length more) (length h.fields)
    method_done y is y_is long =
        in_method h.blank h.method bytes (length more) (length h.fields) reads.0.method.0 reads.0.method.1 (rw y_is at is) long

    behind : (y z : List ℕ) → bytes ≡ print_blank h.blank ++ y → y ≡ h.method ++ z
        → z ++ more ≡ 32 ∷ (h.target ++ 32 ∷ (print_version h.minor ++ (print_end h.line_end ++ print_section h.fields h.last)))
        → Shortens bytes (length more) (length h.fields) ⊎ (EndsInside bytes × (11 ≤ length more))
    behind y [] is y_is g =
        inl (method_done y is (y_is ∙ append-nil h.method)
        (omega (arith, ap length g, length-append h.target (32 ∷ (print_version h.minor ++ (print_end h.line_end ++ print_section h.fields h.last))), rest_long h, reads.0.target.0)))
    behind y (a ∷ z) is y_is g =
        let blank : a ≡ 32 = cc in
        after_method h z more bytes reads.0 (is ∙ ap (λ (t : List ℕ). print_blank h.blank ++ t) (rw blank at y_is)) (cc) some

    in_head : (y : List ℕ) → bytes ≡ print_blank h.blank ++ y
        → y ++ more ≡ h.method ++ 32 ∷ (h.target ++ 32 ∷ (print_version h.minor ++ (print_end h.line_end ++ print_section h.fields h.last)))
        → Shortens bytes (length more) (length h.fields) ⊎ (EndsInside bytes × (11 ≤ length more))
    in_head [] is g =
        inl (at_start h.blank bytes (length more) (length h.fields) (is ∙ append-nil (print_blank h.blank))
        (omega (arith, ap length g, length-append h.method (32 ∷ (h.target ++ 32 ∷ (print_version h.minor ++ (print_end h.line_end ++ print_section h.fields h.last)))), length-append h.target (32 ∷ (print_version h.minor ++ (print_end h.line_end ++ print_section h.fields h.last))), rest_long h, reads.0.method.0, reads.0.target.0)))
    in_head (b ∷ y) is g =
        let rest = print_version h.minor ++ (print_end h.line_end ++ print_section h.fields h.last) in
        elim (levi (b ∷ y) more h.method (32 ∷ (h.target ++ 32 ∷ rest)) g) [
          | inl r ↦ inl (in_method h.blank (b ∷ y) bytes (length more) (length h.fields) (omega arith)
              (pass_front is_token_byte (b ∷ y) r.0 (subst (AllPass is_token_byte) r.1 reads.0.method.1)) is
              (omega (arith, ap length r.2, length-append r.0 (32 ∷ (h.target ++ 32 ∷ rest)), length-append h.target (32 ∷ rest), rest_long h, reads.0.target.0)))
          | inr r ↦ behind (b ∷ y) r.0 is r.1 r.2
        ]
