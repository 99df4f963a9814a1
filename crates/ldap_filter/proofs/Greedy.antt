-- To take each part at its first place is enough: where some places serve, the first ones do.
use Rattle.std.proofs.Common.{◌≡◌, refl, sym, ap, ◌∙◌, ℕ, zero, suc, List, [], ◌∷◌, Bool, true, false, ◌&&◌, ◌||◌, cond, length, drop, Option, Some, None}
use Rattle.std.specs.Str.{bytes_eq}
use Rattle.std.proofs.lemmas.Bool.{false≢true}
use Rattle.ldap_filter.specs.Matching.{begins, some_rest, ends_with_parts}
use Rattle.ldap_filter.specs.Searching.{behind_first, goes_on, found_in_order}

or_true : (a b : Bool) → b ≡ true → (a || b) ≡ true
or_true true b e = refl
or_true false b e = e

-- a test that stays true when a byte comes before
abbrev Grows : (List ℕ → Bool) → Type 0
Grows test = (b : ℕ) (text : List ℕ) → test text ≡ true → test (b ∷ text) ≡ true

some_rest_grows : (test : List ℕ → Bool) → Grows (some_rest test)
some_rest_grows test b text e = or_true (test (b ∷ text)) (some_rest test text) e

parts_grow : (part : List ℕ) (parts : List (List ℕ)) → Grows (ends_with_parts part parts)
parts_grow part [] = some_rest_grows (λ rest. bytes_eq rest part)
parts_grow part (next ∷ parts) = some_rest_grows (λ rest. begins rest part && ends_with_parts next parts (drop (length part) rest))

drop_grows : (test : List ℕ → Bool) → Grows test → (n b : ℕ) (text : List ℕ) → test (drop n text) ≡ true → test (drop n (b ∷ text)) ≡ true
drop_grows test grows zero b text e = grows b text e
drop_grows test grows (suc n) b [] e = nothing_left n e where
  nothing_left : (n : ℕ) → test (drop (suc n) []) ≡ true → test (drop n []) ≡ true
  nothing_left zero e = e
  nothing_left (suc n) e = e
drop_grows test grows (suc n) b (c ∷ text) e = drop_grows test grows n c text e

pub both : (a b : Bool) → (a && b) ≡ true → (a ≡ true) × (b ≡ true)
both true b e = (refl, e)
both false b e = absurd (false≢true e)

either : {G : Type 0} (a b : Bool) → (a || b) ≡ true → (a ≡ true → G) → (b ≡ true → G) → G
either true b e f g = f refl
either false b e f g = g e

-- where some rest serves, so does what is left behind a place before it
earlier : (test : List ℕ → Bool) (part : List ℕ) → Grows test → (b : ℕ) (text : List ℕ) → some_rest (λ rest. begins rest part && test (drop (length part) rest)) text ≡ true → test (drop (length part) (b ∷ text)) ≡ true
earlier test part grows b [] e = drop_grows test grows (length part) b [] (both (begins [] part) (test (drop (length part) [])) e).1
earlier test part grows b (c ∷ text) e =
    either (begins (c ∷ text) part && test (drop (length part) (c ∷ text))) (some_rest (λ rest. begins rest part && test (drop (length part) rest)) text) e
    (λ h. drop_grows test grows (length part) b (c ∷ text) (both (begins (c ∷ text) part) (test (drop (length part) (c ∷ text))) h).1)
    (λ h. drop_grows test grows (length part) b (c ∷ text) (earlier test part grows c text h))

same_or : (a b : Bool) → (b ≡ true → a ≡ true) → (a || b) ≡ a
same_or true b h = refl
same_or false true h = sym (h refl)
same_or false false h = refl

first_serves : (test : List ℕ → Bool) (part : List ℕ) → Grows test → (text : List ℕ) → goes_on test (behind_first part text) ≡ some_rest (λ rest. begins rest part && test (drop (length part) rest)) text
first_serves test part grows [] = by_test (begins [] part) where
  by_test : (v : Bool) → goes_on test (cond v (Some (drop (length part) [])) None) ≡ (v && test (drop (length part) []))
  by_test true = refl
  by_test false = refl
first_serves test part grows (b ∷ text) = by_test (begins (b ∷ text) part) (first_serves test part grows text) where
  by_test : (v : Bool) → goes_on test (behind_first part text) ≡ some_rest (λ rest. begins rest part && test (drop (length part) rest)) text
      → goes_on test (cond v (Some (drop (length part) (b ∷ text))) (behind_first part text)) ≡ ((v && test (drop (length part) (b ∷ text))) || some_rest (λ rest. begins rest part && test (drop (length part) rest)) text)
  by_test true rest = sym (same_or (test (drop (length part) (b ∷ text))) (some_rest (λ rest. begins rest part && test (drop (length part) rest)) text) (earlier test part grows b text))
  by_test false rest = rest

behind_is : (one two : List ℕ → Bool) → ((text : List ℕ) → one text ≡ two text) → (o : Option (List ℕ)) → goes_on one o ≡ goes_on two o
behind_is one two same None = refl
behind_is one two same (Some rest) = same rest

pub found_is : (part : List ℕ) (parts : List (List ℕ)) (text : List ℕ) → found_in_order part parts text ≡ ends_with_parts part parts text
found_is part [] text = refl
found_is part (next ∷ parts) text = behind_is (found_in_order next parts) (ends_with_parts next parts) (found_is next parts) (behind_first part text) ∙ first_serves (ends_with_parts next parts) part (parts_grow next parts) text

-- a part stands where the text begins with it
pub behind_here : (part text : List ℕ) → begins text part ≡ true → behind_first part text ≡ Some (drop (length part) text)
behind_here part [] e = ap (λ v. cond v (Some (drop (length part) [])) None) e
behind_here part (b ∷ text) e = ap (λ v. cond v (Some (drop (length part) (b ∷ text))) (behind_first part text)) e

-- the whole text is a rest
pub whole_rest : (part text : List ℕ) → bytes_eq text part ≡ true → some_rest (λ rest. bytes_eq rest part) text ≡ true
whole_rest part [] e = e
whole_rest part (b ∷ text) e = ap (λ v. v || some_rest (λ rest. bytes_eq rest part) text) e
