-- What matches a name with stars begins with what stands before its first star, and ends with what stands behind its last one.
use Rattle.std.proofs.Common.{◌≡◌, ℕ, suc, ◌-◌, List, [], ◌∷◌, ◌++◌, length, take, drop, ap, sym, ◌∙◌, refl, Bool, true, ◌&&◌, arith, inl, inr, append_assoc, append-nil, take-append-drop, not}
use Rattle.std.specs.Prelude.{reverse, unwrap_or}
use Rattle.std.specs.List.{slice_get}
use Rattle.std.specs.Str.{bytes_eq}
use Rattle.std.proofs.lemmas.Bool.{and_from, and_parts, eq-eqb, false≢true, or_cases}
use Rattle.std.proofs.lemmas.List.{reverse-append}
use Rattle.std.proofs.lemmas.Slice.Eq.{bytes_eq-Decides}
use Rattle.ldap_filter.specs.Matching.{begins, consists_of, ends_with_parts, some_rest}
use Rattle.bundle_doc.specs.Inside.{first_of, last_of}
use Rattle.bundle_doc.specs.Names.{folder, has_byte, last_part, matches, parted, rest_matches}

begins_before : (p x : List ℕ) → begins (p ++ x) p ≡ true
begins_before [] x = refl
begins_before (b ∷ p) x = ap (λ t. t && begins (p ++ x) p) (eq-eqb b b refl) ∙ begins_before p x

begins_itself : (text p : List ℕ) → bytes_eq text p ≡ true → begins text p ≡ true
begins_itself text p e = ap (λ t. begins t p) ((bytes_eq-Decides text p).0 e ∙ sym (append-nil p)) ∙ begins_before p []

begins_both : (front p text : List ℕ) → begins text front ≡ true → begins (drop (length front) text) p ≡ true → begins text (front ++ p) ≡ true
begins_both [] p text e rest = rest
begins_both (f ∷ front) p [] e rest = absurd (false≢true e)
begins_both (f ∷ front) p (b ∷ text) e rest = (let both = and_parts _ _ e in and_from _ _ both.0 (begins_both front p text both.1 rest))

some_rest_where : (test : List ℕ → Bool) (text : List ℕ) → some_rest test text ≡ true → (u : List ℕ) × (v : List ℕ) × (text ≡ u ++ v) × (test v ≡ true)
some_rest_where test [] e = ([], [], refl, e)
some_rest_where test (b ∷ text) e = elim (or_cases (test (b ∷ text)) (some_rest test text) e) [
  | inl here ↦ ([], b ∷ text, refl, here)
  | inr later ↦ (let rest = some_rest_where test text later in (b ∷ rest.0, rest.1, ap (λ w. b ∷ w) rest.2, rest.3))
]

last_more : (p q : List ℕ) (ps : List (List ℕ)) → last_of (p ∷ q ∷ ps) ≡ last_of (q ∷ ps)
last_more p q ps = ap (λ n. unwrap_or (slice_get (p ∷ q ∷ ps) n) []) {x = length (p ∷ q ∷ ps) - 1} {y = suc (length (q ∷ ps) - 1)} (omega arith)

last_alone : (p : List ℕ) → last_of (p ∷ []) ≡ p
last_alone p = ap (λ n. unwrap_or (slice_get (p ∷ []) n) []) {x = length (p ∷ []) - 1} {y = 0} (omega arith)

-- a text ends with what stands behind a part of it
behind : (n : ℕ) (text u v : List ℕ) → drop n text ≡ u ++ v → text ≡ (take n text ++ u) ++ v
behind n text u v e = sym (take-append-drop n text) ∙ ap (λ w. take n text ++ w) e ∙ sym (append_assoc (take n text) u v)

ends_parts : (part : List ℕ) (parts : List (List ℕ)) (text : List ℕ) → ends_with_parts part parts text ≡ true → (u : List ℕ) × (text ≡ u ++ last_of (part ∷ parts))
ends_parts part [] text e =
    let rest = some_rest_where (λ w. bytes_eq w part) text e in
    (rest.0, rest.2 ∙ ap (λ w. rest.0 ++ w) ((bytes_eq-Decides rest.1 part).0 rest.3 ∙ sym (last_alone part)))
ends_parts part (next ∷ parts) text e =
    let rest = some_rest_where (λ w. begins w part && ends_with_parts next parts (drop (length part) w)) text e in
    let both = and_parts (begins rest.1 part) (ends_with_parts next parts (drop (length part) rest.1)) rest.3 in
    let last = ends_parts next parts (drop (length part) rest.1) both.1 in (
      rest.0 ++ (take (length part) rest.1 ++ last.0),
      rest.2 ∙ ap (λ w. rest.0 ++ w) (behind (length part) rest.1 last.0 (last_of (next ∷ parts)) last.1)
          ∙ sym (append_assoc rest.0 (take (length part) rest.1 ++ last.0) (last_of (next ∷ parts))) ∙ ap (λ w. (rest.0 ++ (take (length part) rest.1 ++ last.0)) ++ w) (sym (last_more part next parts)),
    )

consists_first : (parts : List (List ℕ)) (text : List ℕ) → consists_of parts text ≡ true → begins text (first_of parts) ≡ true
consists_first [] text e = absurd (false≢true e)
consists_first (p ∷ []) text e = begins_itself text p e
consists_first (p ∷ q ∷ ps) text e = (and_parts (begins text p) (ends_with_parts q ps (drop (length p) text)) e).0

consists_last : (parts : List (List ℕ)) (text : List ℕ) → consists_of parts text ≡ true → (u : List ℕ) × (text ≡ u ++ last_of parts)
consists_last [] text e = absurd (false≢true e)
consists_last (p ∷ []) text e = ([], (bytes_eq-Decides text p).0 e ∙ sym (last_alone p))
consists_last (p ∷ q ∷ ps) text e =
    let last = ends_parts q ps (drop (length p) text) (and_parts (begins text p) (ends_with_parts q ps (drop (length p) text)) e).1 in
    (take (length p) text ++ last.0, behind (length p) text last.0 (last_of (q ∷ ps)) last.1 ∙ ap (λ w. (take (length p) text ++ last.0) ++ w) (sym (last_more p q ps)))

-- the parts of what matches
matched : (name text : List ℕ) → matches name text ≡ true → (begins text (folder name) ≡ true) × (consists_of (parted 42 (last_part name)) (drop (length (folder name)) text) ≡ true)
matched name text e =
    let both = and_parts (begins text (folder name)) (rest_matches (parted 42 (last_part name)) (drop (length (folder name)) text)) e in
    (both.0, (and_parts (not (has_byte 47 (drop (length (folder name)) text))) (consists_of (parted 42 (last_part name)) (drop (length (folder name)) text)) both.1).1)

pub begins_before_star : (name text : List ℕ) → matches name text ≡ true → begins text (folder name ++ first_of (parted 42 (last_part name))) ≡ true
begins_before_star name text e =
    let parts = matched name text e in
    begins_both (folder name) (first_of (parted 42 (last_part name))) text parts.0 (consists_first (parted 42 (last_part name)) (drop (length (folder name)) text) parts.1)

pub ends_behind_star : (name text : List ℕ) → matches name text ≡ true → begins (reverse text) (reverse (last_of (parted 42 (last_part name)))) ≡ true
ends_behind_star name text e =
    let last = consists_last (parted 42 (last_part name)) (drop (length (folder name)) text) (matched name text e).1 in
    let whole : text ≡ (take (length (folder name)) text ++ last.0) ++ last_of (parted 42 (last_part name)) = behind (length (folder name)) text last.0 (last_of (parted 42 (last_part name))) last.1 in
    ap (λ w. begins w (reverse (last_of (parted 42 (last_part name))))) (ap reverse whole ∙ reverse-append (take (length (folder name)) text ++ last.0) (last_of (parted 42 (last_part name))))
    ∙ begins_before (reverse (last_of (parted 42 (last_part name)))) (reverse (take (length (folder name)) text ++ last.0))
