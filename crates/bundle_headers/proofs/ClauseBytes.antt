-- The bytes of clauses, and pieces of them.
use Rattle.std.proofs.Common.{◌≡◌, ℕ, ◌&&◌, ◌||◌, ◌⊎◌, List, [], ◌∷◌, ◌++◌, length, Bool, true, false, not, eqb, eqb-true, Some, None, option_map, refl, sym, ap, inl, inr}
use Rattle.std.specs.List.{list_all}
use Rattle.std.proofs.lemmas.List.Folds.{list_all-append}
use Rattle.osgi_version.proofs.Options.{chosen, map_gives, same_some}
use Rattle.bundle_headers.specs.Blanks.{is_blank, without_blanks}
use Rattle.bundle_headers.specs.ClauseSteps.{add_path, has_arguments, name_in, token, with_path}
use Rattle.bundle_headers.specs.Clauses.{ends_part, is_token_byte, is_value_byte}
use Rattle.bundle_headers.specs.declared.clause_reading.Front.{Front}

refused_all : (a b c d : Bool) → not (((a || b) || c) || d) ≡ true → (a ≡ false) × (b ≡ false) × (c ≡ false) × (d ≡ false)
refused_all true b c d e = absurd (cc)
refused_all false true c d e = absurd (cc)
refused_all false false true d e = absurd (cc)
refused_all false false false true e = absurd (cc)
refused_all false false false false e = (refl, refl, refl, refl)

refused_both : (a b : Bool) → not (a || b) ≡ true → (a ≡ false) × (b ≡ false)
refused_both true b e = absurd (cc)
refused_both false true e = absurd (cc)
refused_both false false e = (refl, refl)

pub token_byte : (b : ℕ) → is_token_byte b ≡ true → (ends_part b ≡ false) × (eqb b 61 ≡ false) × (eqb b 58 ≡ false) × (eqb b 34 ≡ false)
token_byte b e = refused_all (ends_part b) (eqb b 61) (eqb b 58) (eqb b 34) e

pub value_byte : (b : ℕ) → is_value_byte b ≡ true → (ends_part b ≡ false) × (eqb b 34 ≡ false)
value_byte b e = refused_both (ends_part b) (eqb b 34) e

pub plain_quoted_byte : (b : ℕ) → not (eqb b 34 || eqb b 92) ≡ true → (eqb b 34 ≡ false) × (eqb b 92 ≡ false)
plain_quoted_byte b e = refused_both (eqb b 34) (eqb b 92) e

pub not_gives : (b : Bool) → not b ≡ false → b ≡ true
not_gives true e = refl
not_gives false e = absurd (cc)

pub ends_cases : (b : ℕ) → ends_part b ≡ true → (b ≡ 44) ⊎ (b ≡ 59)
ends_cases b e = elim (eqb b 44) as (λ t. eqb b 44 ≡ t → (t || eqb b 59) ≡ true → (b ≡ 44) ⊎ (b ≡ 59)) [
  | true ↦ λ h _. inl (eqb-true b 44 h)
  | false ↦ λ _ h. inr (eqb-true b 59 h)
] refl e

pub all_more : (p : ℕ → Bool) (xs : List ℕ) (b : ℕ) → list_all p xs ≡ true → p b ≡ true → list_all p (xs ++ b ∷ []) ≡ true
all_more p xs b all here = rw (list_all-append p xs (b ∷ []), all, here) refl

pub not_blank_more : (xs : List ℕ) → is_blank (xs ++ 97 ∷ []) ≡ false
not_blank_more xs = rw (list_all-append (λ b. eqb b 32) xs (97 ∷ [])) (elim (is_blank xs) as (λ t. (t && false) ≡ false) [ true ↦ refl | false ↦ refl ])

pub token_gives : (bytes text : List ℕ) → token bytes ≡ Some text → (is_blank bytes ≡ false) × (text ≡ without_blanks bytes)
token_gives bytes text e = elim (chosen (is_blank bytes) None (Some (without_blanks bytes)) (Some text) e) [
  | inl blank ↦ absurd (let none = blank.1 in cc)
  | inr other ↦ (other.0, sym (same_some other.1))
]

pub token_here : (bytes text : List ℕ) → is_blank bytes ≡ false → text ≡ without_blanks bytes → token bytes ≡ Some text
token_here bytes text e same = rw e (ap Some (sym same))

pub name_gives : (s : Front) (bytes name : List ℕ) → name_in s bytes ≡ Some name → (eqb (length s.clause.paths) 0 ≡ false) × (is_blank bytes ≡ false) × (name ≡ without_blanks bytes)
name_gives s bytes name e = elim (chosen (eqb (length s.clause.paths) 0) None (token bytes) (Some name) e) [
  | inl none ↦ absurd (let no_name = none.1 in cc)
  | inr some ↦ let is = token_gives bytes name some.1 in (some.0, is.0, is.1)
]

pub path_gives : (s t : Front) (bytes : List ℕ) → with_path s bytes ≡ Some t → (path : List ℕ) × (has_arguments s.clause ≡ false) × (is_blank bytes ≡ false) × (path ≡ without_blanks bytes) × (add_path s path ≡ t)
path_gives s t bytes e = elim (chosen (has_arguments s.clause) None (option_map (add_path s) (token bytes)) (Some t) e) [
  | inl refused ↦ absurd (let none = refused.1 in cc)
  | inr may ↦
      let some = map_gives (add_path s) (token bytes) t may.1 in
      let is = token_gives bytes some.0 some.1 in
      (some.0, may.0, is.0, is.1, some.2)
]
