-- The first of several options that isn't none.
use Rattle.std.proofs.Common.{◌≡◌, List, [], ◌∷◌, ◌++◌, refl, ap, ◌∙◌}
use Rattle.std.specs.Prelude.{Option, Some, None}
use Rattle.std.specs.Option.{option_or}
use Rattle.prop_map.specs.Words.{first_some}

option_or-none : {X : Type 0} (o : Option X) → option_or o None ≡ o
option_or-none None = refl
option_or-none (Some x) = refl

pub first_some-cons : {X : Type 0} (o : Option X) (xs : List (Option X)) → first_some (o ∷ xs) ≡ option_or o (first_some xs)
first_some-cons None xs = refl
first_some-cons (Some x) xs = refl

pub first_some-append : {X : Type 0} (xs ys : List (Option X)) → first_some (xs ++ ys) ≡ option_or (first_some xs) (first_some ys)
first_some-append [] ys = refl
first_some-append (None ∷ xs) ys = first_some-append xs ys
first_some-append (Some x ∷ xs) ys = refl

pub first_of_four : {X : Type 0} (xs ys zs : List (Option X)) (last : Option X)
    → first_some (xs ++ ys ++ zs ++ last ∷ []) ≡ option_or (option_or (option_or (first_some xs) (first_some ys)) (first_some zs)) last
first_of_four xs ys zs last =
    first_some-append (xs ++ ys ++ zs) (last ∷ [])
    ∙ ap (λ o. option_or o (first_some (last ∷ []))) (first_some-append (xs ++ ys) zs)
    ∙ ap (λ o. option_or (option_or o (first_some zs)) (first_some (last ∷ []))) (first_some-append xs ys)
    ∙ ap (λ o. option_or (option_or (option_or (first_some xs) (first_some ys)) (first_some zs)) o) (first_some-cons last [] ∙ option_or-none last)
