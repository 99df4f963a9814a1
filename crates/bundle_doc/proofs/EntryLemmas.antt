-- A name that comes again takes nothing new.
use Rattle.std.proofs.Common.{◌≡◌, ℕ, List, [], ◌∷◌, ◌++◌, ap, sym, ◌∙◌, refl, Bool, true, false, cond, not, ◌||◌, Result, Ok, Err, subst}
use Rattle.std.specs.Prelude.{filter}
use Rattle.std.specs.Str.{bytes_eq}
use Rattle.std.proofs.lemmas.List.Folds.{list_any-append}
use Rattle.std.proofs.lemmas.Slice.Eq.{bytes_eq-Decides}
use Rattle.prop_map.specs.Words.{after}
use Rattle.component_dto.specs.TextLists.{each_once, has_text}
use Rattle.bundle_doc.specs.declared.fault.DocFault.{DocFault}
use Rattle.bundle_doc.specs.Faults.{Reads}
use Rattle.bundle_doc.specs.Entries.{taken, taken_behind, with_new, with_one}

same_text : (a b : List ℕ) → bytes_eq a b ≡ true → a ≡ b
same_text a b e = (bytes_eq-Decides a b).0 e

text_itself : (a : List ℕ) → bytes_eq a a ≡ true
text_itself a = (bytes_eq-Decides a a).1 refl

-- all of these texts are in a list
abbrev pub Has : List (List ℕ) → List (List ℕ) → Type 0
Has found texts = (q : List ℕ) → has_text texts q ≡ true → has_text found q ≡ true

one_has : (found : List (List ℕ)) (e q : List ℕ) → has_text found q ≡ true → has_text (with_one found e) q ≡ true
one_has found e q there = cases (has_text found e) where
  cases : (h : Bool) → has_text (cond h found (found ++ e ∷ [])) q ≡ true
  cases true = there
  cases false = list_any-append (λ t. bytes_eq t q) found (e ∷ []) ∙ ap (λ h. h || (bytes_eq e q || false)) there

one_itself : (found : List (List ℕ)) (e : List ℕ) → has_text (with_one found e) e ≡ true
one_itself found e = cases (has_text found e) refl where
  or_true : (h : Bool) → (h || (true || false)) ≡ true
  or_true true = refl
  or_true false = refl

  cases : (h : Bool) → has_text found e ≡ h → has_text (cond h found (found ++ e ∷ [])) e ≡ true
  cases true is = is
  cases false is = list_any-append (λ t. bytes_eq t e) found (e ∷ []) ∙ ap (λ h. has_text found e || (h || false)) (text_itself e) ∙ or_true (has_text found e)

new_has : (new found : List (List ℕ)) (q : List ℕ) → has_text found q ≡ true → has_text (with_new found new) q ≡ true
new_has [] found q there = there
new_has (e ∷ new) found q there = new_has new (with_one found e) q (one_has found e q there)

-- what was taken is there
pub new_all : (new found : List (List ℕ)) → Has (with_new found new) new
new_all [] found q none = absurd (cc)
new_all (e ∷ new) found q there = cases (bytes_eq e q) refl there (new_all new (with_one found e) q) where
  cases : (b : Bool) → bytes_eq e q ≡ b → (b || has_text new q) ≡ true → (has_text new q ≡ true → has_text (with_new (with_one found e) new) q ≡ true) → has_text (with_new (with_one found e) new) q ≡ true
  cases true is there rest = new_has new (with_one found e) q (ap (has_text (with_one found e)) (sym (same_text e q is)) ∙ one_itself found e)
  cases false is there rest = rest there

-- what is there already isn't taken anew
pub new_none : (new found : List (List ℕ)) → Has found new → with_new found new ≡ found
new_none [] found all = refl
new_none (e ∷ new) found all =
    let there : has_text found e ≡ true = all e (ap (λ b. b || has_text new e) (text_itself e)) in
    let same : with_one found e ≡ found = ap (λ h. cond h found (found ++ e ∷ [])) there in
    ap (λ f. with_new f new) same ∙ new_none new found (λ q h. all q (or_right (bytes_eq e q) (has_text new q) h)) where
      or_right : (a b : Bool) → b ≡ true → (a || b) ≡ true
      or_right true b h = refl
      or_right false b h = h

-- what a name takes is there
abbrev pub Covers : List (List ℕ) → List (List ℕ) → List ℕ → Type 0
Covers entries found name = (new : List (List ℕ)) × (taken entries name ≡ Ok new) × Has found new

stays : (entries found : List (List ℕ)) (name : List ℕ) (more : List (List ℕ)) → Covers entries found name → Covers entries (with_new found more) name
stays entries found name more covered = (covered.0, covered.1, λ q h. new_has more found q (covered.2 q h))

-- names that come again may be left out
without : (entries : List (List ℕ)) (name : List ℕ) (names found : List (List ℕ)) → Covers entries found name
    → taken_behind entries found names ≡ taken_behind entries found (filter (λ t. not (bytes_eq t name)) names)
without entries name [] found covered = refl
without entries name (t ∷ names) found covered = cases (bytes_eq t name) refl (λ f. without entries name names f) where
  other : (r : Result (List (List ℕ)) DocFault) → ((f : List (List ℕ)) → Covers entries f name → taken_behind entries f names ≡ taken_behind entries f (filter (λ x. not (bytes_eq x name)) names))
      → after r (λ new. taken_behind entries (with_new found new) names) ≡ after r (λ new. taken_behind entries (with_new found new) (filter (λ x. not (bytes_eq x name)) names))
  other (Err fault) step = refl
  other (Ok new) step = step (with_new found new) (stays entries found name new covered)

  cases : (b : Bool) → bytes_eq t name ≡ b → ((f : List (List ℕ)) → Covers entries f name → taken_behind entries f names ≡ taken_behind entries f (filter (λ x. not (bytes_eq x name)) names))
      → taken_behind entries found (t ∷ names) ≡ taken_behind entries found (cond (not b) (t ∷ filter (λ x. not (bytes_eq x name)) names) (filter (λ x. not (bytes_eq x name)) names))
  cases true is step =
      ap (λ r. after r (λ new. taken_behind entries (with_new found new) names)) (ap (taken entries) (same_text t name is) ∙ covered.1)
      ∙ ap (λ f. taken_behind entries f names) (new_none covered.0 found covered.2)
      ∙ step found covered
  cases false is step = other (taken entries t) step

-- each name once takes what all of them take
pub once_taken : (entries names found : List (List ℕ)) → taken_behind entries found (each_once names) ≡ taken_behind entries found names
once_taken entries [] found = refl
once_taken entries (t ∷ names) found = cases (taken entries t) refl (λ f. once_taken entries names f) where
  cases : (r : Result (List (List ℕ)) DocFault) → taken entries t ≡ r → ((f : List (List ℕ)) → taken_behind entries f (each_once names) ≡ taken_behind entries f names)
      → after r (λ new. taken_behind entries (with_new found new) (filter (λ x. not (bytes_eq x t)) (each_once names))) ≡ after r (λ new. taken_behind entries (with_new found new) names)
  cases (Err fault) is step = refl
  cases (Ok new) is step = sym (without entries t (each_once names) (with_new found new) (new, is, new_all new found)) ∙ step (with_new found new)

pub read_once : (answer : Result (List (List ℕ)) DocFault) (entries names others once : List (List ℕ)) → others ≡ entries → once ≡ each_once names
    → Reads answer (taken_behind others [] once) → Reads answer (taken_behind entries [] names)
read_once answer entries names others once same each read =
    subst (λ meaning. Reads answer meaning) (ap (λ es. taken_behind es [] once) same ∙ ap (taken_behind entries []) each ∙ once_taken entries names []) read
