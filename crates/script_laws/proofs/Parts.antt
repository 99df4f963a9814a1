-- What equal values have in common, and which values are never equal.
use Rattle.std.proofs.Common.{◌≡◌, List, [], ◌∷◌, Some, None, Ok, Err}
use Rattle.std.specs.Prelude.{Result}

pub some_same : {A : Type 0} (x y : A) → Some x ≡ Some y → x ≡ y
some_same x y same = cc

pub never_some : {A : Type 0} (x : A) → None ≡ Some x → ⊥
never_some x same = cc

pub ok_same : {A E : Type 0} (x y : A) → (let r : Result A E = Ok x in r ≡ Ok y) → x ≡ y
ok_same x y same = cc

pub err_same : {A E : Type 0} (x y : E) → (let r : Result A E = Err x in r ≡ Err y) → x ≡ y
err_same x y same = cc

pub ok_or_err : {A E : Type 0} (x : A) (e : E) → (let r : Result A E = Ok x in r ≡ Err e) → ⊥
ok_or_err x e same = cc

pub err_or_ok : {A E : Type 0} (e : E) (x : A) → (let r : Result A E = Err e in r ≡ Ok x) → ⊥
err_or_ok e x same = cc

pub first_same : {A : Type 0} (x y : A) (xs ys : List A) → x ∷ xs ≡ y ∷ ys → x ≡ y
first_same x y xs ys same = cc

pub rest_same : {A : Type 0} (x y : A) (xs ys : List A) → x ∷ xs ≡ y ∷ ys → xs ≡ ys
rest_same x y xs ys same = cc

pub never_empty : {A : Type 0} (x : A) (xs : List A) → x ∷ xs ≡ [] → ⊥
never_empty x xs same = cc
