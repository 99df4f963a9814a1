-- What is left of a piece and of the text after a step is a text.
use Rattle.std.proofs.Common.{◌≡◌, ℕ, ◌+◌, ◌<◌, List, [], ◌∷◌, ◌++◌, length, true, false, cond, if◌then◌else◌, eqb, Some, None, option_map, sym, ap, ◌∙◌, arith, subst, append_assoc, inl, inr}
use Rattle.std.proofs.lemmas.List.{append-nil}
use Rattle.osgi_version.proofs.Options.{chosen, chosen_eq, map_gives, same_some}
use Rattle.bundle_headers.specs.Blanks.{is_blank}
use Rattle.bundle_headers.specs.ClauseSteps.{after_part, buffer_of, clauses_step, empty_clause, name_in, open_other, open_step, reading, token, typed_step, value_step, quoted_step, behind_step, colon_step, with_argument, with_path}
use Rattle.bundle_headers.specs.Clauses.{ends_part, is_token_byte}
use Rattle.bundle_headers.specs.declared.clause_reading.ClausesReading.{ClausesReading}
use Rattle.bundle_headers.specs.declared.clause_reading.Front.{Front}
use Rattle.bundle_headers.specs.declared.clause_reading.Kind.{Kind}
use Rattle.bundle_headers.specs.declared.clause_reading.Kind.TheVariants.{Attribute, Directive}
use Rattle.bundle_headers.specs.declared.clause_reading.Part.{Part}
use Rattle.bundle_headers.specs.declared.clause_reading.Part.TheVariants.{Open, Colon, Typed, Value, Quoted, Escaped, Behind}
use Rattle.std.proofs.Common.{IsUtf8, drop, get_or, suc, ◌≤◌, drop-cons}
use Rattle.std.proofs.lemmas.List.{drop_all}
use Rattle.std.proofs.lemmas.Str.{IsUtf8-append}
use Rattle.bundle_headers.proofs.ClauseBytes.{ends_cases}
use Rattle.bundle_headers.proofs.TextLemmas.{cut_after, cut_before}

abbrev Keeps : ClausesReading → List ℕ → Type 0
Keeps t rest = IsUtf8 (buffer_of t.part ++ rest)

small_end : (b : ℕ) → ends_part b ≡ true → b < 128
small_end b e = elim (ends_cases b e) [ inl comma ↦ omega arith | inr semicolon ↦ omega arith ]

after_keeps : (s : Front) (b : ℕ) (rest : List ℕ) → IsUtf8 rest → Keeps (after_part s b) rest
after_keeps s b rest u = elim (eqb b 44) as (λ t. IsUtf8 (buffer_of (cond t (reading (record { whole = s.whole ++ s.clause ∷ []; clause = empty_clause }) (Open [])) (reading s (Open []))).part ++ rest)) [ true ↦ u | false ↦ u ]

pushed : (raw rest : List ℕ) (b : ℕ) → IsUtf8 (raw ++ b ∷ rest) → IsUtf8 ((raw ++ b ∷ []) ++ rest)
pushed raw rest b u = subst IsUtf8 (sym (append_assoc raw (b ∷ []) rest)) u

rest_text : (raw rest : List ℕ) (b c : ℕ) → c < 128 → b ≡ c → IsUtf8 (raw ++ b ∷ rest) → IsUtf8 rest
rest_text raw rest b c small e u = cut_after raw rest b (subst (λ n. n < 128) (sym e) small) u

open_keeps : (s : Front) (raw rest : List ℕ) (t : ClausesReading) (b : ℕ) → open_step s raw b ≡ Some t → IsUtf8 (raw ++ b ∷ rest) → Keeps t rest
open_keeps s raw rest t b e u =
    elim (chosen (ends_part b) (option_map (λ next. after_part next b) (with_path s raw)) (open_other s raw b) (Some t) e) [
      | inl is_end ↦
          let some = map_gives (λ next. after_part next b) (with_path s raw) t is_end.1 in
          subst (λ r. Keeps r rest) some.2 (after_keeps some.0 b rest (cut_after raw rest b (small_end b is_end.0) u))
      | inr other ↦ elim (chosen_eq b 61 (option_map (λ name. reading s (Value Attribute name [])) (name_in s raw))
          (if eqb b 58 then option_map (λ name. reading s (Colon name)) (name_in s raw) else (if eqb b 34 then None else Some (reading s (Open (raw ++ b ∷ []))))) (Some t) other.1) [
            | inl equals ↦
                let some = map_gives (λ name. reading s (Value Attribute name [])) (name_in s raw) t equals.1 in
                subst (λ r. Keeps r rest) some.2 (rest_text raw rest b 61 (omega arith) equals.0 u)
            | inr second ↦ elim (chosen_eq b 58 (option_map (λ name. reading s (Colon name)) (name_in s raw)) (if eqb b 34 then None else Some (reading s (Open (raw ++ b ∷ [])))) (Some t) second.1) [
              | inl colon ↦
                  let some = map_gives (λ name. reading s (Colon name)) (name_in s raw) t colon.1 in
                  subst (λ r. Keeps r rest) some.2 (rest_text raw rest b 58 (omega arith) colon.0 u)
              | inr third ↦ elim (chosen_eq b 34 None (Some (reading s (Open (raw ++ b ∷ [])))) (Some t) third.1) [
                | inl quote ↦ absurd (let none = quote.1 in cc)
                | inr last ↦ subst (λ r. Keeps r rest) (same_some last.1) (pushed raw rest b u)
              ]
            ]
          ]
    ]

colon_keeps : (s : Front) (name rest : List ℕ) (t : ClausesReading) (b : ℕ) → colon_step s name b ≡ Some t → IsUtf8 (b ∷ rest) → Keeps t rest
colon_keeps s name rest t b e u =
    elim (chosen_eq b 61 (Some (reading s (Value Directive name []))) (if is_token_byte b then Some (reading s (Typed name (b ∷ []))) else None) (Some t) e) [
      | inl equals ↦ subst (λ r. Keeps r rest) (same_some equals.1) (rest_text [] rest b 61 (omega arith) equals.0 u)
      | inr other ↦ elim (chosen (is_token_byte b) (Some (reading s (Typed name (b ∷ [])))) None (Some t) other.1) [
        | inl byte ↦ subst (λ r. Keeps r rest) (same_some byte.1) u
        | inr refused ↦ absurd (let none = refused.1 in cc)
      ]
    ]

typed_keeps : (s : Front) (name raw rest : List ℕ) (t : ClausesReading) (b : ℕ) → typed_step s name raw b ≡ Some t → IsUtf8 (raw ++ b ∷ rest) → Keeps t rest
typed_keeps s name raw rest t b e u =
    elim (chosen_eq b 61 (if is_blank raw then None else Some (reading s (Value Attribute name []))) (if is_token_byte b then Some (reading s (Typed name (raw ++ b ∷ []))) else None) (Some t) e) [
      | inl equals ↦ elim (chosen (is_blank raw) None (Some (reading s (Value Attribute name []))) (Some t) equals.1) [
        | inl blank ↦ absurd (let none = blank.1 in cc)
        | inr filled ↦ subst (λ r. Keeps r rest) (same_some filled.1) (rest_text raw rest b 61 (omega arith) equals.0 u)
      ]
      | inr other ↦ elim (chosen (is_token_byte b) (Some (reading s (Typed name (raw ++ b ∷ [])))) None (Some t) other.1) [
        | inl byte ↦ subst (λ r. Keeps r rest) (same_some byte.1) (pushed raw rest b u)
        | inr refused ↦ absurd (let none = refused.1 in cc)
      ]
    ]

value_keeps : (s : Front) (kind : Kind) (name raw rest : List ℕ) (t : ClausesReading) (b : ℕ) → value_step s kind name raw b ≡ Some t → IsUtf8 (raw ++ b ∷ rest) → Keeps t rest
value_keeps s kind name raw rest t b e u =
    elim (chosen (ends_part b) (option_map (λ value. after_part (with_argument s kind name value) b) (token raw))
    (if eqb b 34 then (if is_blank raw then Some (reading s (Quoted kind name [])) else None) else Some (reading s (Value kind name (raw ++ b ∷ [])))) (Some t) e) [
      | inl is_end ↦
          let some = map_gives (λ value. after_part (with_argument s kind name value) b) (token raw) t is_end.1 in
          subst (λ r. Keeps r rest) some.2 (after_keeps (with_argument s kind name some.0) b rest (cut_after raw rest b (small_end b is_end.0) u))
      | inr other ↦ elim (chosen_eq b 34 (if is_blank raw then Some (reading s (Quoted kind name [])) else None) (Some (reading s (Value kind name (raw ++ b ∷ [])))) (Some t) other.1) [
        | inl quote ↦ elim (chosen (is_blank raw) (Some (reading s (Quoted kind name []))) None (Some t) quote.1) [
          | inl blank ↦ subst (λ r. Keeps r rest) (same_some blank.1) (rest_text raw rest b 34 (omega arith) quote.0 u)
          | inr filled ↦ absurd (let none = filled.1 in cc)
        ]
        | inr last ↦ subst (λ r. Keeps r rest) (same_some last.1) (pushed raw rest b u)
      ]
    ]

quoted_keeps : (s : Front) (kind : Kind) (name raw rest : List ℕ) (t : ClausesReading) (b : ℕ) → quoted_step s kind name raw b ≡ Some t → IsUtf8 (raw ++ b ∷ rest) → Keeps t rest
quoted_keeps s kind name raw rest t b e u =
    elim (chosen_eq b 34 (Some (reading s (Behind kind name raw))) (if eqb b 92 then Some (reading s (Escaped kind name raw)) else Some (reading s (Quoted kind name (raw ++ b ∷ [])))) (Some t) e) [
      | inl end ↦ subst (λ r. Keeps r rest) (same_some end.1) (rest_text raw rest b 34 (omega arith) end.0 u)
      | inr other ↦ elim (chosen_eq b 92 (Some (reading s (Escaped kind name raw))) (Some (reading s (Quoted kind name (raw ++ b ∷ [])))) (Some t) other.1) [
        | inl escape ↦ subst (λ r. Keeps r rest) (same_some escape.1)
            (IsUtf8-append raw rest (cut_before raw rest b (subst (λ n. n < 128) (sym escape.0) (omega arith)) u) (rest_text raw rest b 92 (omega arith) escape.0 u))
        | inr last ↦ subst (λ r. Keeps r rest) (same_some last.1) (pushed raw rest b u)
      ]
    ]

behind_keeps : (s : Front) (kind : Kind) (name value rest : List ℕ) (t : ClausesReading) (b : ℕ) → behind_step s kind name value b ≡ Some t → IsUtf8 (b ∷ rest) → Keeps t rest
behind_keeps s kind name value rest t b e u =
    elim (chosen (ends_part b) (Some (after_part (with_argument s kind name value) b)) (if eqb b 32 then Some (reading s (Behind kind name value)) else None) (Some t) e) [
      | inl is_end ↦ subst (λ r. Keeps r rest) (same_some is_end.1) (after_keeps (with_argument s kind name value) b rest (cut_after [] rest b (small_end b is_end.0) u))
      | inr other ↦ elim (chosen_eq b 32 (Some (reading s (Behind kind name value))) None (Some t) other.1) [
        | inl blank ↦ subst (λ r. Keeps r rest) (same_some blank.1) (rest_text [] rest b 32 (omega arith) blank.0 u)
        | inr refused ↦ absurd (let none = refused.1 in cc)
      ]
    ]

part_keeps : (s : Front) (part : Part) (rest : List ℕ) (t : ClausesReading) (b : ℕ) → clauses_step (reading s part) b ≡ Some t → IsUtf8 (buffer_of part ++ b ∷ rest) → Keeps t rest
part_keeps s (Open raw) rest t b e u = open_keeps s raw rest t b e u
part_keeps s (Colon name) rest t b e u = colon_keeps s name rest t b e u
part_keeps s (Typed name raw) rest t b e u = typed_keeps s name raw rest t b e u
part_keeps s (Value kind name raw) rest t b e u = value_keeps s kind name raw rest t b e u
part_keeps s (Quoted kind name raw) rest t b e u = quoted_keeps s kind name raw rest t b e u
part_keeps s (Escaped kind name raw) rest t b e u = subst (λ r. Keeps r rest) (same_some e) (pushed raw rest b u)
part_keeps s (Behind kind name value) rest t b e u = behind_keeps s kind name value rest t b e u

-- the byte at a place, and then the rest
at_place : (front bytes : List ℕ) (at : ℕ) → at < length bytes → IsUtf8 (front ++ drop at bytes) → IsUtf8 (front ++ (get_or bytes at 0 ∷ drop (at + 1) bytes))
at_place front bytes at h u =
    let here : suc at ≡ at + 1 = omega arith in
    subst (λ xs. IsUtf8 (front ++ xs)) (drop-cons bytes at 0 h ∙ ap (λ n. get_or bytes at 0 ∷ drop n bytes) here) u

pub text_before : (r : ClausesReading) (bytes : List ℕ) (at : ℕ) → at < length bytes → IsUtf8 (buffer_of r.part ++ drop at bytes) → get_or bytes at 0 < 128 → IsUtf8 (buffer_of r.part)
text_before r bytes at h u small = cut_before (buffer_of r.part) (drop (at + 1) bytes) (get_or bytes at 0) small (at_place (buffer_of r.part) bytes at h u)

pub text_behind : (r t : ClausesReading) (bytes : List ℕ) (at : ℕ) → at < length bytes → clauses_step r (get_or bytes at 0) ≡ Some t → IsUtf8 (buffer_of r.part ++ drop at bytes) → IsUtf8 (buffer_of t.part ++ drop (at + 1) bytes)
text_behind r t bytes at h e u = part_keeps r.front r.part (drop (at + 1) bytes) t (get_or bytes at 0) e (at_place (buffer_of r.part) bytes at h u)

pub text_at_end : (r : ClausesReading) (bytes : List ℕ) (at : ℕ) → length bytes ≤ at → IsUtf8 (buffer_of r.part ++ drop at bytes) → IsUtf8 (buffer_of r.part)
text_at_end r bytes at h u = subst IsUtf8 (ap (λ xs. buffer_of r.part ++ xs) (drop_all at bytes h) ∙ append-nil (buffer_of r.part)) u
