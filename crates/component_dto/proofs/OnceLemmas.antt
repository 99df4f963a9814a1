-- A list of which repeated texts are dropped before and after each is named otherwise.
use Rattle.std.proofs.Common.{◌≡◌, ℕ, List, [], ◌∷◌, ap, sym, ◌∙◌, refl, Bool, true, false, cond, not}
use Rattle.std.specs.Prelude.{map}
use Rattle.std.specs.List.{filter}
use Rattle.std.specs.Str.{bytes_eq}
use Rattle.component_dto.specs.TextLists.{each_once}
use Rattle.component_dto.proofs.TextListLemmas.{same_text, text_itself}

passes : (p : List ℕ → Bool) (x : List ℕ) (xs : List (List ℕ)) (b : Bool)
    → filter p (cond b (x ∷ xs) xs) ≡ cond b (cond (p x) (x ∷ filter p xs) (filter p xs)) (filter p xs)
passes p x xs true = refl
passes p x xs false = refl

swap : (p q : List ℕ → Bool) (xs : List (List ℕ)) → filter p (filter q xs) ≡ filter q (filter p xs)
swap p q [] = refl
swap p q (x ∷ xs) = passes p x (filter q xs) (q x) ∙ both (p x) (q x) (swap p q xs) ∙ sym (passes q x (filter p xs) (p x)) where
  both : (a b : Bool) → filter p (filter q xs) ≡ filter q (filter p xs)
      → cond b (cond a (x ∷ filter p (filter q xs)) (filter p (filter q xs))) (filter p (filter q xs))
      ≡ cond a (cond b (x ∷ filter q (filter p xs)) (filter q (filter p xs))) (filter q (filter p xs))
  both true true same = ap (λ w. x ∷ w) same
  both true false same = same
  both false true same = same
  both false false same = same

twice : (p : List ℕ → Bool) (xs : List (List ℕ)) → filter p (filter p xs) ≡ filter p xs
twice p [] = refl
twice p (x ∷ xs) = passes p x (filter p xs) (p x) ∙ once (p x) (twice p xs) where
  once : (a : Bool) → filter p (filter p xs) ≡ filter p xs
      → cond a (cond a (x ∷ filter p (filter p xs)) (filter p (filter p xs))) (filter p (filter p xs)) ≡ cond a (x ∷ filter p xs) (filter p xs)
  once true same = ap (λ w. x ∷ w) same
  once false same = same

abbrev other : List ℕ → List ℕ → Bool
other x t = not (bytes_eq t x)

gone : (x : List ℕ) (e : List (List ℕ)) → filter (other x) (x ∷ filter (other x) e) ≡ filter (other x) e
gone x e = ap (λ b. cond (not b) (x ∷ filter (other x) (filter (other x) e)) (filter (other x) (filter (other x) e))) (text_itself x) ∙ twice (other x) e

kept : (x a : List ℕ) (e d : List (List ℕ)) → filter (other x) e ≡ filter (other x) d → filter (other x) (a ∷ filter (other a) e) ≡ filter (other x) (a ∷ filter (other a) d)
kept x a e d same = ap (λ w. cond (not (bytes_eq a x)) (a ∷ w) w) (swap (other x) (other a) e ∙ ap (filter (other a)) same ∙ sym (swap (other x) (other a) d))

-- what equals x is no matter where what f gives of x is dropped
same_rest : (f : List ℕ → List ℕ) (x : List ℕ) (ys : List (List ℕ)) → filter (other (f x)) (each_once (map f (filter (other x) ys))) ≡ filter (other (f x)) (each_once (map f ys))
same_rest f x [] = refl
same_rest f x (y ∷ ys) = cases (bytes_eq y x) refl (same_rest f x ys) where
  cases : (b : Bool) → b ≡ bytes_eq y x
      → filter (other (f x)) (each_once (map f (filter (other x) ys))) ≡ filter (other (f x)) (each_once (map f ys))
      → filter (other (f x)) (each_once (map f (cond (not b) (y ∷ filter (other x) ys) (filter (other x) ys)))) ≡ filter (other (f x)) (f y ∷ filter (other (f y)) (each_once (map f ys)))
  cases true is same =
      same ∙ sym (ap (λ a. filter (other (f x)) (a ∷ filter (other a) (each_once (map f ys)))) (ap f (same_text y x (sym is))) ∙ gone (f x) (each_once (map f ys)))
  cases false is same = kept (f x) (f y) (each_once (map f (filter (other x) ys))) (each_once (map f ys)) same

-- it is all the same whether repeated texts are dropped before too
pub once_before : (f : List ℕ → List ℕ) (xs : List (List ℕ)) → each_once (map f (each_once xs)) ≡ each_once (map f xs)
once_before f [] = refl
once_before f (x ∷ xs) = ap (λ w. f x ∷ w) (same_rest f x (each_once xs) ∙ ap (filter (other (f x))) (once_before f xs))
