-- The path of a target, from where its separators are.
use Rattle.std.proofs.Common.{◌≡◌, ◌≢◌, ℕ, zero, suc, ◌<◌, Bool, true, false, not, cond, List, [], ◌∷◌, length, get_or, take, drop, refl, ap, ◌∙◌, arith}
use Rattle.std.proofs.lemmas.Bool.{eq-eqb, ne_eqb}
use Rattle.http_wire.specs.TargetPath.{before_query, from_slash}

pub before_query_at : (xs : List ℕ) (i : ℕ) → i < length xs → get_or xs i 0 ≡ 63 → ((k : ℕ) → k < i → get_or xs k 0 ≢ 63) → before_query xs ≡ take i xs
before_query_at [] i inside is before = absurd (omega arith)
before_query_at (b ∷ bs) zero inside is before = ap (λ t. cond t [] (b ∷ before_query bs)) (eq-eqb b 63 is)
before_query_at (b ∷ bs) (suc i) inside is before =
    ap (λ t. cond t [] (b ∷ before_query bs)) (ne_eqb b 63 (before 0 (omega arith)))
    ∙ ap (λ t. b ∷ t) (before_query_at bs i (omega arith) is (λ k below. before (suc k) (omega arith)))

pub before_query_whole : (xs : List ℕ) → ((k : ℕ) → k < length xs → get_or xs k 0 ≢ 63) → before_query xs ≡ xs
before_query_whole [] none = refl
before_query_whole (b ∷ bs) none =
    ap (λ t. cond t [] (b ∷ before_query bs)) (ne_eqb b 63 (none 0 (omega arith)))
    ∙ ap (λ t. b ∷ t) (before_query_whole bs (λ k below. none (suc k) (omega arith)))

pub from_slash_at : (xs : List ℕ) (i : ℕ) → i < length xs → get_or xs i 0 ≡ 47 → ((k : ℕ) → k < i → get_or xs k 0 ≢ 47) → from_slash xs ≡ drop i xs
from_slash_at [] i inside is before = absurd (omega arith)
from_slash_at (b ∷ bs) zero inside is before = ap (λ t. cond t (b ∷ bs) (from_slash bs)) (eq-eqb b 47 is)
from_slash_at (b ∷ bs) (suc i) inside is before =
    ap (λ t. cond t (b ∷ bs) (from_slash bs)) (ne_eqb b 47 (before 0 (omega arith)))
    ∙ from_slash_at bs i (omega arith) is (λ k below. before (suc k) (omega arith))

pub from_slash_none : (xs : List ℕ) → ((k : ℕ) → k < length xs → get_or xs k 0 ≢ 47) → from_slash xs ≡ []
from_slash_none [] none = refl
from_slash_none (b ∷ bs) none =
    ap (λ t. cond t (b ∷ bs) (from_slash bs)) (ne_eqb b 47 (none 0 (omega arith)))
    ∙ from_slash_none bs (λ k below. none (suc k) (omega arith))

pub not_both : (test : Bool) → not test ≡ true → test ≡ true → ⊥
not_both true unset is_set = cc
not_both false unset is_set = cc
