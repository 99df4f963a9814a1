-- A header as a text.
use Rattle.std.proofs.Common.{◌≡◌, ℕ, ◌+◌, ◌&&◌, List, [], ◌∷◌, ◌++◌, Bool, true, false, eqb, eqb-true, refl, sym, ap, ◌∙◌, arith, drop, subst, IsUtf8, Option, Some, None, take-append-drop, leb, nat_lt, cond}
use Rattle.std.specs.Str.{is_utf8}
use Rattle.std.specs.Str.Lossy.{utf8_valid_len}
use Rattle.std.proofs.lemmas.Bool.{and_parts, false_from_ne_true}
use Rattle.std.proofs.lemmas.List.{drop-drop}
use Rattle.std.proofs.lemmas.Str.{IsUtf8-from_is_utf8, is_utf8-from_IsUtf8}
use Rattle.bundle_headers.specs.Headers.{is_begun, later_fault, name_length, name_of, place_in, starts_value, value_of}
use Rattle.bundle_headers.specs.declared.fault.HeaderFault.{HeaderFault}
use Rattle.bundle_headers.specs.declared.fault.HeaderFault.TheVariants.{DuplicateHeader, NotUtf8}
use Rattle.bundle_headers.specs.declared.folding.Folded.{Folded}
use Rattle.bundle_headers.proofs.TextLemmas.{cut_after, cut_before, text_without_blanks}

abbrev fault_at : Bool → Bool → Folded → ℕ → Option HeaderFault
fault_at text repeats folded n = later_fault text repeats folded.first.number (place_in (folded.first ∷ folded.more) n)

pub fault_of_no_text : (text : List ℕ) (repeats : Bool) (folded : Folded) (n : ℕ) (fault : HeaderFault) → ¬ IsUtf8 text → n ≡ utf8_valid_len text
    → Some fault ≡ fault_at false repeats folded n → Some fault ≡ fault_at (is_utf8 text) repeats folded (utf8_valid_len text)
fault_of_no_text text repeats folded n fault h place e =
    let is : is_utf8 text ≡ false = false_from_ne_true (is_utf8 text) (λ t. h (IsUtf8-from_is_utf8 text t)) in
    e ∙ (ap (λ k. fault_at false repeats folded k) place ∙ ap (λ t. fault_at t repeats folded (utf8_valid_len text)) (sym is))

pub fault_of_repeated : (text : List ℕ) (repeats : Bool) (folded : Folded) → IsUtf8 text → repeats ≡ true
    → Some (DuplicateHeader folded.first.number) ≡ fault_at (is_utf8 text) repeats folded (utf8_valid_len text)
fault_of_repeated text repeats folded u e = rw (is_utf8-from_IsUtf8 text u, e) refl

pub fault_of_none : (text : List ℕ) (repeats : Bool) (folded : Folded) → IsUtf8 text → repeats ≡ false
    → None ≡ fault_at (is_utf8 text) repeats folded (utf8_valid_len text)
fault_of_none text repeats folded u e = rw (is_utf8-from_IsUtf8 text u, e) refl

text_where_no_fault : (text repeats : Bool) (number : ℕ) (place : ℕ × ℕ) → later_fault text repeats number place ≡ None → text ≡ true
text_where_no_fault true repeats number place e = refl
text_where_no_fault false false number place e = absurd (cc)
text_where_no_fault false true number place e = elim (nat_lt number place.0) as (λ t. cond t (Some (DuplicateHeader number)) (Some (NotUtf8 place.1)) ≡ None → false ≡ true) [
  | true ↦ λ h. absurd (cc)
  | false ↦ λ h. absurd (cc)
] e

pub text_without_fault : (text : List ℕ) (repeats : Bool) (folded : Folded) → fault_at (is_utf8 text) repeats folded (utf8_valid_len text) ≡ None → IsUtf8 text
text_without_fault text repeats folded e = IsUtf8-from_is_utf8 text (text_where_no_fault (is_utf8 text) repeats folded.first.number (place_in (folded.first ∷ folded.more) (utf8_valid_len text)) e)

value_split : (bs : List ℕ) → starts_value bs ≡ true → bs ≡ 58 ∷ 32 ∷ drop 2 bs
value_split [] e = absurd (cc)
value_split (a ∷ []) e = absurd (cc)
value_split (a ∷ b ∷ bs) e =
    let parts = and_parts (eqb a 58) (eqb b 32) e in
    let first = eqb-true a 58 parts.0 in
    let second = eqb-true b 32 parts.1 in
    ap (λ x. x ∷ b ∷ bs) first ∙ ap (λ x. 58 ∷ x ∷ bs) second

begun_split : (text : List ℕ) → is_begun text ≡ true → text ≡ name_of text ++ (58 ∷ 32 ∷ drop (name_length text + 2) text)
begun_split text e =
    let n = name_length text in
    let starts = (and_parts (leb 1 (name_length text) && leb (name_length text) 70) (starts_value (drop (name_length text) text)) e).1 in
    sym (take-append-drop (name_length text) text)
    ∙ ap (λ xs. name_of text ++ xs) (value_split (drop (name_length text) text) starts ∙ ap (λ xs. 58 ∷ 32 ∷ xs) (drop-drop 2 (name_length text) text))

pub name_text : (text : List ℕ) → is_begun text ≡ true → IsUtf8 text → IsUtf8 (name_of text)
name_text text e u = cut_before (name_of text) (32 ∷ drop (name_length text + 2) text) 58 (omega arith) (subst IsUtf8 (begun_split text e) u)

pub value_text : (text : List ℕ) → is_begun text ≡ true → IsUtf8 text → IsUtf8 (value_of text)
value_text text e u =
    let rest = drop (name_length text + 2) text in
    let behind_colon = cut_after (name_of text) (32 ∷ drop (name_length text + 2) text) 58 (omega arith) (subst IsUtf8 (begun_split text e) u) in
    text_without_blanks (drop (name_length text + 2) text) (cut_after [] (drop (name_length text + 2) text) 32 (omega arith) behind_colon)
