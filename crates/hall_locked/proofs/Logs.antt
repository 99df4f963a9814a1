-- The log: entries with their owners, one list beside the other.
use Rattle.std.proofs.Common.{◌≡◌, ℕ, ◌+◌, List, [], ◌∷◌, ◌++◌, length, ap, refl, arith}
use Rattle.std.specs.Prelude.{nat_lt}
use Rattle.std.proofs.lemmas.Bool.{cond-true, cond-false, lt-ltb, le-ltb}
use Rattle.hall_locked.specs.Owned.{owned, owners_up_to}

module _ {E : Type 0} where
  pub owned_length : (os : List ℕ) (es : List E) → length os ≡ length es → length (owned os es) ≡ length os
  owned_length [] es same = refl
  owned_length (o ∷ os) [] same = cc
  owned_length (o ∷ os) (e ∷ es) same =
      let less : length os ≡ length es = omega (arith, same) in
      let rest = owned_length os es less in omega (arith, rest)

  pub owned_more : (os : List ℕ) (es : List E) (o : ℕ) (e : E) → length os ≡ length es → owned (os ++ o ∷ []) (es ++ e ∷ []) ≡ owned os es ++ (o, e) ∷ []
  owned_more [] [] o e same = refl
  owned_more [] (x ∷ es) o e same = cc
  owned_more (p ∷ os) [] o e same = cc
  owned_more (p ∷ os) (x ∷ es) o e same =
      let less : length os ≡ length es = omega (arith, same) in
      ap (λ l. (p, x) ∷ l) (owned_more os es o e less)

pub up_to_same : (count owner : ℕ) (os : List ℕ) → count ≡ length os → owners_up_to count owner os ≡ os
up_to_same count owner os same = cond-false (nat_lt (length os) count) (os ++ owner ∷ []) os (le-ltb (length os) count (omega (arith, same)))

pub up_to_more : (count owner : ℕ) (os : List ℕ) → count ≡ length os + 1 → owners_up_to count owner os ≡ os ++ owner ∷ []
up_to_more count owner os same = cond-true (nat_lt (length os) count) (os ++ owner ∷ []) os (lt-ltb (length os) count (omega (arith, same)))
