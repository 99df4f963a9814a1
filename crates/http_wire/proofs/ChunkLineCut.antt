-- A chunk line that is cut short has a shortest end, which gives the least size.
use Rattle.std.proofs.Common.{◌≡◌, ℕ, ◌+◌, ◌*◌, ◌<◌, ◌≤◌, Bool, true, false, List, [], ◌∷◌, ◌++◌, length, refl, sym, ap, ◌∙◌, subst, arith, append_assoc, append-nil, length-append, inl, inr, Option, Some, None}
use Rattle.std.specs.Prelude.{not, ◌==◌}
use Rattle.std.proofs.lemmas.Bool.Decides.{nat_tests}
use Rattle.std.proofs.lemmas.List.Elements.{All-nil, All-cons, All-push, All-append, All-head, All-tail, All-weaker}
use Rattle.std.specs.Char.{is_ascii_hexdigit, digit_value}
use Rattle.std.specs.Str.Parse.{digits_value, digits_value_after}
use Rattle.httparse.specs.Ascii.{crlf_bytes}
use Rattle.httparse.specs.Grammar.{AllPass, is_ows, is_extension_byte, ChunkLine, IsChunkLine, IsExtension, print_chunk_line, print_extension, chunk_size, HasNoChunkLine}
use Rattle.httparse.proofs.GrammarLemmas.{cons-append}
use Rattle.http_wire.specs.ChunkContinuation.{ends_in_cr, line_ending}
use Rattle.http_wire.proofs.CutLemmas.{levi, pass_front}

pub record ShortLine (text : List ℕ) (most size : ℕ) : Type 0 where
  pub line : ChunkLine
  pub valid : IsChunkLine line
  pub is : text ++ line_ending text ≡ print_chunk_line line
  pub shorter : length (line_ending text) ≤ most
  pub smaller : chunk_size line ≤ size

-- ---- the last byte

no_cr : ℕ → Bool
no_cr b = not (b == 13)

not_cr : (b : ℕ) → no_cr b ≡ true → (b == 13) ≡ false
unfolding no_cr
not_cr b h = grind (arith, nat_tests)

digit_no_cr : (b : ℕ) → is_ascii_hexdigit b ≡ true → no_cr b ≡ true
unfolding no_cr
digit_no_cr b h = grind (arith, nat_tests)

ows_no_cr : (b : ℕ) → is_ows b ≡ true → no_cr b ≡ true
unfolding no_cr
ows_no_cr b h = grind (arith, nat_tests)

extension_no_cr : (b : ℕ) → is_extension_byte b ≡ true → no_cr b ≡ true
unfolding no_cr
extension_no_cr b h = grind (arith, nat_tests)

semicolon_no_cr : no_cr 59 ≡ true
unfolding no_cr
semicolon_no_cr = refl

clear_end : (text : List ℕ) → AllPass no_cr text → ends_in_cr text ≡ false
clear_end [] all = refl
clear_end (b ∷ []) all = not_cr b (All-head (λ v. no_cr v ≡ true) b [] all)
clear_end (b ∷ c ∷ text) all = clear_end (c ∷ text) (All-tail (λ v. no_cr v ≡ true) b (c ∷ text) all)

clear_ending : (text : List ℕ) → 0 < length text → AllPass no_cr text → 13 ∷ 10 ∷ [] ≡ line_ending text
clear_ending [] some all = absurd (omega arith)
clear_ending (b ∷ text) some all = rw (clear_end (b ∷ text) all) refl

cr_end : (text : List ℕ) → ends_in_cr (text ++ 13 ∷ []) ≡ true
cr_end [] = refl
cr_end (b ∷ []) = refl
cr_end (b ∷ c ∷ text) = cr_end (c ∷ text)

cr_ending : (text : List ℕ) → 10 ∷ [] ≡ line_ending (text ++ 13 ∷ [])
cr_ending [] = refl
cr_ending (b ∷ text) = rw (cr_end (b ∷ text)) refl

extension_clear : (ext : Option (List ℕ)) → IsExtension ext → AllPass no_cr (print_extension ext)
extension_clear None valid = All-nil _
extension_clear (Some shown) valid =
    All-cons (λ v. no_cr v ≡ true) 59 shown semicolon_no_cr (All-weaker (λ b. is_extension_byte b ≡ true) (λ b. no_cr b ≡ true) extension_no_cr shown valid)

-- no CR stands in a line before its end
line_clear : (digits pad : List ℕ) (ext : Option (List ℕ)) → AllPass is_ascii_hexdigit digits → AllPass is_ows pad → IsExtension ext
    → AllPass no_cr (digits ++ (pad ++ print_extension ext))
line_clear digits pad ext d p e =
    All-append (λ b. no_cr b ≡ true) digits (pad ++ print_extension ext) (All-weaker (λ b. is_ascii_hexdigit b ≡ true) (λ b. no_cr b ≡ true) digit_no_cr digits d)
    (All-append (λ b. no_cr b ≡ true) pad (print_extension ext) (All-weaker (λ b. is_ows b ≡ true) (λ b. no_cr b ≡ true) ows_no_cr pad p) (extension_clear ext e))

line_front_ending : (digits pad : List ℕ) (ext : Option (List ℕ)) (text : List ℕ) → 0 < length digits → AllPass is_ascii_hexdigit digits → AllPass is_ows pad → IsExtension ext
    → text ≡ digits ++ (pad ++ print_extension ext) → 13 ∷ 10 ∷ [] ≡ line_ending text
line_front_ending digits pad ext text some d p e is =
    clear_ending text (omega (arith, ap length is, length-append digits (pad ++ print_extension ext))) (subst (AllPass no_cr) (sym is) (line_clear digits pad ext d p e))

-- ---- the cut

pub line_text : (l : ChunkLine) → print_chunk_line l ≡ l.digits ++ (l.pad ++ (print_extension l.extension ++ crlf_bytes))
unfolding print_chunk_line
line_text l = simp append_assoc

value_grows : (ds : List ℕ) (n : ℕ) → n ≤ digits_value_after 16 n ds
value_grows [] n = omega arith
value_grows (d ∷ ds) n = omega (arith, value_grows ds (n * 16 + digit_value d))

value_of_append : (ds es : List ℕ) (n : ℕ) → digits_value_after 16 n (ds ++ es) ≡ digits_value_after 16 (digits_value_after 16 n ds) es
value_of_append [] es n = refl
value_of_append (d ∷ ds) es n = value_of_append ds es (n * 16 + digit_value d)

value_front : (ds es : List ℕ) → digits_value 16 ds ≤ digits_value 16 (ds ++ es)
value_front ds es = omega (arith, value_of_append ds es 0, value_grows es (digits_value_after 16 0 ds))

-- the line ends behind what is there of it
ended : (l : ChunkLine) (text end : List ℕ) (n m : ℕ) → IsChunkLine l → end ≡ line_ending text → text ++ end ≡ l.digits ++ (l.pad ++ (print_extension l.extension ++ crlf_bytes))
    → length end ≤ n → chunk_size l ≤ m → ShortLine text n m
ended l text end n m valid is_end e short small = record {
  line = l;
  valid = valid;
  is = ap (λ (t : List ℕ). text ++ t) (sym is_end) ∙ e ∙ sym (line_text l);
  shorter = omega (arith, ap length is_end);
  smaller = small;
}

in_digits : (text x : List ℕ) (n m : ℕ) → AllPass is_ascii_hexdigit (text ++ x) → length (text ++ x) ≤ 16 → digits_value 16 (text ++ x) ≤ m → (text ≡ [] → 3 ≤ n) → 2 ≤ n → ShortLine text n m
in_digits [] x n m all few small none short =
    ended (record { digits = 48 ∷ []; pad = []; extension = None }) [] (48 ∷ 13 ∷ 10 ∷ []) n m
    (record { digits = (omega arith, omega arith, All-push (λ v. is_ascii_hexdigit v ≡ true) [] 48 (All-nil _) refl); pad = All-nil _; extension = tt })
    refl refl (none refl) (omega arith)
in_digits (d ∷ ds) x n m all few small none short =
    let digits = pass_front is_ascii_hexdigit (d ∷ ds) x all in
    ended (record { digits = d ∷ ds; pad = []; extension = None }) (d ∷ ds) (13 ∷ 10 ∷ []) n m
    (record { digits = (omega arith, omega (arith, length-append (d ∷ ds) x), digits); pad = All-nil _; extension = tt })
    (line_front_ending (d ∷ ds) [] None (d ∷ ds) (omega arith) digits (All-nil _) tt (sym (append-nil (d ∷ ds)))) refl short (omega (arith, value_front (d ∷ ds) x))

in_pad : (digits pad x text : List ℕ) (n m : ℕ) → (0 < length digits) × (length digits ≤ 16) × AllPass is_ascii_hexdigit digits → AllPass is_ows (pad ++ x)
    → text ≡ digits ++ pad → digits_value 16 digits ≤ m → 2 ≤ n → ShortLine text n m
in_pad digits pad x text n m valid blank is small short =
    let pads = pass_front is_ows pad x blank in
    ended (record { digits = digits; pad = pad; extension = None }) text (13 ∷ 10 ∷ []) n m
    (record { digits = valid; pad = pads; extension = tt })
    (line_front_ending digits pad None text valid.0 valid.2 pads tt (is ∙ ap (λ (t : List ℕ). digits ++ t) (sym (append-nil pad))))
    (rw is (simp append_assoc)) short small

in_extension : (digits pad shown x text : List ℕ) (n m : ℕ) → (0 < length digits) × (length digits ≤ 16) × AllPass is_ascii_hexdigit digits → AllPass is_ows pad
    → AllPass is_extension_byte (shown ++ x) → text ≡ digits ++ (pad ++ 59 ∷ shown) → digits_value 16 digits ≤ m → 2 ≤ n → ShortLine text n m
in_extension digits pad shown x text n m valid blank clear is small short =
    let front = pass_front is_extension_byte shown x clear in
    ended (record { digits = digits; pad = pad; extension = Some shown }) text (13 ∷ 10 ∷ []) n m
    (record { digits = valid; pad = blank; extension = front })
    (line_front_ending digits pad (Some shown) text valid.0 valid.2 blank front is) (rw is (simp (append_assoc, cons-append))) short small

-- behind all but the end of the line
in_line_end : (l : ChunkLine) (z more tail text : List ℕ) (m : ℕ) → IsChunkLine l → z ++ more ≡ crlf_bytes ++ tail → text ≡ l.digits ++ (l.pad ++ (print_extension l.extension ++ z))
    → length text < length (print_chunk_line l) → chunk_size l ≤ m → ShortLine text (length more) m
in_line_end l [] more tail text m valid e is short small =
    ended l text (13 ∷ 10 ∷ []) (length more) m valid
    (line_front_ending l.digits l.pad l.extension text valid.digits.0 valid.digits.2 valid.pad valid.extension
    (is ∙ ap (λ (t : List ℕ). l.digits ++ (l.pad ++ t)) (append-nil (print_extension l.extension))))
    (rw is (simp (append_assoc, append-nil))) (omega (arith, ap length e)) small
in_line_end l (a ∷ []) more tail text m valid e is short small =
    let cr : a ≡ 13 = cc in
    let front : text ≡ (l.digits ++ (l.pad ++ print_extension l.extension)) ++ 13 ∷ [] = rw (is, cr) (simp append_assoc) in
    ended l text (10 ∷ []) (length more) m valid (cr_ending (l.digits ++ (l.pad ++ print_extension l.extension)) ∙ ap line_ending (sym front)) (rw (is, cr) (simp append_assoc)) (omega (arith, ap length e)) small
in_line_end l (a ∷ b ∷ z) more tail text m valid e is short small =
    absurd (omega (
      arith,
      short,
      ap length is,
      ap length (line_text l),
      length-append l.digits (l.pad ++ (print_extension l.extension ++ a ∷ b ∷ z)),
      length-append l.pad (print_extension l.extension ++ a ∷ b ∷ z),
      length-append (print_extension l.extension) (a ∷ b ∷ z),
      length-append l.digits (l.pad ++ (print_extension l.extension ++ crlf_bytes)),
      length-append l.pad (print_extension l.extension ++ crlf_bytes),
      length-append (print_extension l.extension) crlf_bytes,
    ))

-- behind the pad
after_pad : (digits pad : List ℕ) (ext : Option (List ℕ)) (z more tail text : List ℕ) → IsChunkLine (record { digits = digits; pad = pad; extension = ext })
    → z ++ more ≡ print_extension ext ++ (crlf_bytes ++ tail) → text ≡ digits ++ (pad ++ z)
    → length text < length (print_chunk_line (record { digits = digits; pad = pad; extension = ext })) → ShortLine text (length more) (digits_value 16 digits)
after_pad digits pad None z more tail text valid e is short =
    in_line_end (record { digits = digits; pad = pad; extension = None }) z more tail text (digits_value 16 digits) valid e is short (omega arith)
after_pad digits pad (Some shown) [] more tail text valid e is short =
    in_pad digits pad [] text (length more) (digits_value 16 digits) valid.digits (subst (AllPass is_ows) (sym (append-nil pad)) valid.pad) (rw append-nil at is) (omega arith)
    (omega (arith, ap length e, length-append shown (crlf_bytes ++ tail)))
after_pad digits pad (Some shown) (a ∷ z) more tail text valid e is short =
    let semi : a ≡ 59 = cc in
    let text_is : text ≡ digits ++ (pad ++ 59 ∷ z) = rw semi at is in
    elim (levi z more shown (crlf_bytes ++ tail) (cc)) [
      | inl r ↦ in_extension digits pad z r.0 text (length more) (digits_value 16 digits) valid.digits valid.pad (subst (AllPass is_extension_byte) r.1 valid.extension) text_is (omega arith)
          (omega (arith, ap length r.2, length-append r.0 (crlf_bytes ++ tail)))
      | inr r ↦ in_line_end (record { digits = digits; pad = pad; extension = Some shown }) r.0 more tail text (digits_value 16 digits) valid r.2
          (text_is ∙ ap (λ (t : List ℕ). digits ++ (pad ++ 59 ∷ t)) r.1) short (omega arith)
    ]

-- Less than a chunk line has one of the three ends, which gives no greater size and no longer a line.
pub line_cut : (text more tail : List ℕ) (l : ChunkLine) → IsChunkLine l → text ++ more ≡ print_chunk_line l ++ tail → length text < length (print_chunk_line l)
    → ShortLine text (length more) (chunk_size l)
line_cut text more tail l valid e short =
    let whole : text ++ more ≡ l.digits ++ (l.pad ++ (print_extension l.extension ++ (crlf_bytes ++ tail))) =
    e ∙ ap (λ (t : List ℕ). t ++ tail) (line_text l) ∙ (simp append_assoc) in
    let end_two : 2 ≤ length (l.pad ++ (print_extension l.extension ++ (crlf_bytes ++ tail))) =
    omega (arith, length-append l.pad (print_extension l.extension ++ (crlf_bytes ++ tail)), length-append (print_extension l.extension) (crlf_bytes ++ tail)) in
    elim (levi text more l.digits (l.pad ++ (print_extension l.extension ++ (crlf_bytes ++ tail))) whole) [
      | inl r ↦ in_digits text r.0 (length more) (chunk_size l) (subst (AllPass is_ascii_hexdigit) r.1 valid.digits.2) (omega (arith, valid.digits.1, ap length r.1))
          (omega (arith, ap (digits_value 16) r.1))
          (λ empty. omega (arith, valid.digits.0, ap length r.1, ap length empty, length-append text r.0, ap length r.2, length-append r.0 (l.pad ++ (print_extension l.extension ++ (crlf_bytes ++ tail))), end_two))
          (omega (arith, ap length r.2, length-append r.0 (l.pad ++ (print_extension l.extension ++ (crlf_bytes ++ tail))), end_two))
      | inr r ↦ elim (levi r.0 more l.pad (print_extension l.extension ++ (crlf_bytes ++ tail)) r.2) [
        | inl s ↦ in_pad l.digits r.0 s.0 text (length more) (chunk_size l) valid.digits (subst (AllPass is_ows) s.1 valid.pad) r.1 (omega arith)
            (omega (arith, ap length s.2, length-append s.0 (print_extension l.extension ++ (crlf_bytes ++ tail)), length-append (print_extension l.extension) (crlf_bytes ++ tail)))
        | inr s ↦ after_pad l.digits l.pad l.extension s.0 more tail text valid s.2 (r.1 ∙ ap (λ (t : List ℕ). l.digits ++ t) s.1) short
      ]
    ]

-- the end of a line that is cut is no longer than what makes it one, and what stands behind the line comes on top
pub line_lacks : (text more tail : List ℕ) (l : ChunkLine) → HasNoChunkLine text → IsChunkLine l → text ++ more ≡ print_chunk_line l ++ tail
    → (s : ShortLine text (length more) (chunk_size l)) × (length (line_ending text) + length tail ≤ length more)
line_lacks text more tail l none valid e =
    elim (levi text more (print_chunk_line l) tail e) [
      | inl r ↦ behind r.0 r.1 r.2
      | inr r ↦ absurd (none l r.0 (valid, r.1))
    ]
  where
    behind : (x : List ℕ) → print_chunk_line l ≡ text ++ x → more ≡ x ++ tail
        → (s : ShortLine text (length more) (chunk_size l)) × (length (line_ending text) + length tail ≤ length more)
    behind [] is split = absurd (none l [] (valid, sym (is ∙ append-nil text) ∙ sym (append-nil (print_chunk_line l))))
    behind (a ∷ x) is split =
        let s = line_cut text (a ∷ x) [] l valid (sym is ∙ sym (append-nil (print_chunk_line l))) (omega (arith, ap length is, length-append text (a ∷ x))) in
        let sum = ap length split ∙ length-append (a ∷ x) tail in (
          record { line = s.line; valid = s.valid; is = s.is; shorter = omega (arith, s.shorter, sum); smaller = s.smaller },
          omega (arith, s.shorter, sum),
        )
