-- A part stands first where a search of the text finds it first.
use Rattle.std.proofs.Common.{◌≡◌, refl, sym, ap, ◌∙◌, ℕ, zero, suc, ◌+◌, ◌<◌, ◌≤◌, List, [], ◌∷◌, Bool, true, false, ◌&&◌, cond, length, drop, Some, None, arith}
use Rattle.std.specs.Prelude.{nat_eq, slice_index}
use Rattle.std.proofs.lemmas.Bool.{false≢true, eqb-true, eq-eqb}
use Rattle.memchr.specs.Find.{FindsNeedle, OccursAt}
use Rattle.ldap_filter.specs.Matching.{begins}
use Rattle.ldap_filter.specs.Searching.{behind_first}
use Rattle.ldap_filter.proofs.Greedy.{behind_here, both}

-- the same of each byte
reads_of : (text part : List ℕ) → begins text part ≡ true → (j : ℕ) → j < length part → slice_index text j ≡ slice_index part j
reads_of text [] e j h = absurd (omega (arith, h))
reads_of [] (p ∷ ps) e j h = absurd (false≢true e)
reads_of (t ∷ ts) (p ∷ ps) e zero h = sym (eqb-true p t (both (nat_eq p t) (begins ts ps) e).0)
reads_of (t ∷ ts) (p ∷ ps) e (suc j) h = reads_of ts ps (both (nat_eq p t) (begins ts ps) e).1 j (omega (arith, h))

fits_of : (text part : List ℕ) → begins text part ≡ true → length part ≤ length text
fits_of text [] e = omega arith
fits_of [] (p ∷ ps) e = absurd (false≢true e)
fits_of (t ∷ ts) (p ∷ ps) e = let h = fits_of ts ps (both (nat_eq p t) (begins ts ps) e).1 in omega arith

occurs_of : (text part : List ℕ) → begins text part ≡ true → OccursAt text part 0
occurs_of text part e = record {
  fits = let h = fits_of text part e in omega arith;
  reads = λ j h. let at : 0 + j ≡ j = omega arith in ap (slice_index text) at ∙ reads_of text part e j h;
}

begins_of : (text part : List ℕ) → length part ≤ length text → ((j : ℕ) → j < length part → slice_index text j ≡ slice_index part j) → begins text part ≡ true
begins_of text [] fits reads = refl
begins_of [] (p ∷ ps) fits reads = absurd (omega (arith, fits))
begins_of (t ∷ ts) (p ∷ ps) fits reads = ap (λ b. b && begins ts ps) (eq-eqb p t (sym (reads 0 (omega arith)))) ∙ begins_of ts ps (omega (arith, fits)) (λ j h. reads (suc j) (omega (arith, h)))

begins_from : (text part : List ℕ) → OccursAt text part 0 → begins text part ≡ true
begins_from text part at = begins_of text part (let h = at.fits in omega arith) (λ j h. let z : j ≡ 0 + j = omega arith in ap (slice_index text) z ∙ at.reads j h)

-- a place behind the first byte, and that place in the rest
in_rest : (b : ℕ) (text part : List ℕ) (k : ℕ) → OccursAt (b ∷ text) part (suc k) → OccursAt text part k
in_rest b text part k at = record {
  fits = let h = at.fits in omega arith;
  reads = λ j h. let z : suc (k + j) ≡ suc k + j = omega arith in ap (slice_index (b ∷ text)) z ∙ at.reads j h;
}

in_whole : (b : ℕ) (text part : List ℕ) (k : ℕ) → OccursAt text part k → OccursAt (b ∷ text) part (suc k)
in_whole b text part k at = record {
  fits = let h = at.fits in omega arith;
  reads = λ j h. let z : suc k + j ≡ suc (k + j) = omega arith in ap (slice_index (b ∷ text)) z ∙ at.reads j h;
}

passed_over : (text part : List ℕ) → (OccursAt text part 0 → ⊥) → begins text part ≡ false
passed_over text part none = by_case (begins text part) refl where
  by_case : (v : Bool) → begins text part ≡ v → v ≡ false
  by_case true e = absurd (none (occurs_of text part e))
  by_case false e = refl

found_first : (part text : List ℕ) (k : ℕ) → OccursAt text part k → ((j : ℕ) → j < k → OccursAt text part j → ⊥) → behind_first part text ≡ Some (drop (k + length part) text)
found_first part text zero at none =
    let z : length part ≡ 0 + length part = omega arith in
    behind_here part text (begins_from text part at) ∙ ap (λ n. Some (drop n text)) z
found_first part [] (suc k) at none = let h = at.fits in absurd (omega arith)
found_first part (b ∷ text) (suc k) at none =
    let z : suc (k + length part) ≡ suc k + length part = omega arith in
    ap (λ v. cond v (Some (drop (length part) (b ∷ text))) (behind_first part text)) (passed_over (b ∷ text) part (none 0 (omega arith)))
    ∙ found_first part text k (in_rest b text part k at) (λ j h there. none (suc j) (omega (arith, h)) (in_whole b text part j there))
    ∙ ap (λ n. Some (drop n (b ∷ text))) z

found_nowhere : (part text : List ℕ) → ((j : ℕ) → j ≤ length text → OccursAt text part j → ⊥) → behind_first part text ≡ None
found_nowhere part [] none = ap (λ v. cond v (Some (drop (length part) [])) None) (passed_over [] part (none 0 (omega arith)))
found_nowhere part (b ∷ text) none =
    ap (λ v. cond v (Some (drop (length part) (b ∷ text))) (behind_first part text)) (passed_over (b ∷ text) part (none 0 (omega arith)))
    ∙ found_nowhere part text (λ j h there. none (suc j) (omega (arith, h)) (in_whole b text part j there))

-- what a search answers
pub first_found : (text part : List ℕ) (k : ℕ) → FindsNeedle text part 0 (Some k) → behind_first part text ≡ Some (drop (k + length part) text)
first_found text part k h = found_first part text k h.1 (λ j low at. h.0.before j (omega arith) low at)

pub none_found : (text part : List ℕ) → FindsNeedle text part 0 None → behind_first part text ≡ None
none_found text part h = found_nowhere part text (λ j low at. h j (omega arith) (omega (arith, low)) at)
