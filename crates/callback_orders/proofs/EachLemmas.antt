-- What holds of each item of a list, and of the value of an option.
use Rattle.std.proofs.Common.{◌≡◌, List, [], ◌∷◌, ◌++◌, Bool, true, false, refl}
use Rattle.std.specs.Prelude.{map, filter, find, filter_map, option_map, Option, Some, None, if◌then◌else◌}
use Rattle.std.specs.List.{cons_option, last_or}
use Rattle.std.specs.Option.{option_map_or, option_or}
use Rattle.prop_map.specs.Words.{first_some}

-- what holds of the value, where there is one; what holds of each item
abbrev pub OfSome : {X : Type 0} → (X → Type 0) → Option X → Type 0
OfSome P None = Unit {0}
OfSome P (Some x) = P x

abbrev pub Each : {X : Type 0} → (X → Type 0) → List X → Type 0
Each P [] = Unit {0}
Each P (x ∷ xs) = P x × Each P xs

pub of_some-map : {X Y : Type 0} (P : X → Type 0) (Q : Y → Type 0) (f : X → Y) (o : Option X) → OfSome P o → ((x : X) → P x → Q (f x)) → OfSome Q (option_map f o)
of_some-map P Q f None h k = tt
of_some-map P Q f (Some x) h k = k x h

pub of_some-map_or : {X Y : Type 0} (P : X → Type 0) (Q : Y → Type 0) (f : X → Option Y) (o : Option X) (d : Option Y) → OfSome P o → ((x : X) → P x → OfSome Q (f x)) → OfSome Q d
    → OfSome Q (option_map_or f o d)
of_some-map_or P Q f None d h k e = e
of_some-map_or P Q f (Some x) d h k e = k x h

pub of_some-or : {X : Type 0} (P : X → Type 0) (o p : Option X) → OfSome P o → OfSome P p → OfSome P (option_or o p)
of_some-or P None p h k = k
of_some-or P (Some x) p h k = h

pub each-append : {X : Type 0} (P : X → Type 0) (xs ys : List X) → Each P xs → Each P ys → Each P (xs ++ ys)
each-append P [] ys h k = k
each-append P (x ∷ xs) ys h k = (h.0, each-append P xs ys h.1 k)

pub each-map : {X Y : Type 0} (P : X → Type 0) (Q : Y → Type 0) (f : X → Y) (xs : List X) → Each P xs → ((x : X) → P x → Q (f x)) → Each Q (map f xs)
each-map P Q f [] h k = tt
each-map P Q f (x ∷ xs) h k = (k x h.0, each-map P Q f xs h.1 k)

pub each-cons : {X : Type 0} (P : X → Type 0) (o : Option X) (xs : List X) → OfSome P o → Each P xs → Each P (cons_option o xs)
each-cons P None xs h k = k
each-cons P (Some x) xs h k = (h, k)

pub each-filter_map : {X Y : Type 0} (P : X → Type 0) (Q : Y → Type 0) (f : X → Option Y) (xs : List X) → Each P xs → ((x : X) → P x → OfSome Q (f x)) → Each Q (filter_map f xs)
each-filter_map P Q f [] h k = tt
each-filter_map P Q f (x ∷ xs) h k = each-cons Q (f x) (filter_map f xs) (k x h.0) (each-filter_map P Q f xs h.1 k)

pub first_some-each : {X : Type 0} (P : X → Type 0) (xs : List (Option X)) → Each (OfSome P) xs → OfSome P (first_some xs)
first_some-each P [] h = tt
first_some-each P (None ∷ xs) h = first_some-each P xs h.1
first_some-each P (Some x ∷ xs) h = h.0

pub last_or-each : {X : Type 0} (P : X → Type 0) (o : Option X) (xs : List X) → OfSome P o → Each P xs → OfSome P (last_or o xs)
last_or-each P o [] h k = h
last_or-each P o (x ∷ xs) h k = last_or-each P (Some x) xs k.0 k.1

pub last_or-none : {X : Type 0} (P : X → Type 0) (d : X) (xs : List X) → (xs ≡ [] → P d) → Each P xs → OfSome P (last_or (Some d) xs)
last_or-none P d [] h k = h refl
last_or-none P d (x ∷ xs) h k = last_or-each P (Some x) xs k.0 k.1

-- what find finds
pub find_by-each : {X : Type 0} (P : X → Type 0) (t : Bool) (x : X) (o : Option X) → P x → OfSome P o → OfSome P (if t then Some x else o)
find_by-each P true x o h k = h
find_by-each P false x o h k = k

pub find-each : {X : Type 0} (P : X → Type 0) (p : X → Bool) (xs : List X) → Each P xs → OfSome P (find p xs)
find-each P p [] h = tt
find-each P p (x ∷ xs) h = find_by-each P (p x) x (find p xs) h.0 (find-each P p xs h.1)

pub find_by-passes : {X : Type 0} (p : X → Bool) (t : Bool) (x : X) (o : Option X) → p x ≡ t → OfSome (λ y. p y ≡ true) o → OfSome (λ y. p y ≡ true) (if t then Some x else o)
find_by-passes p true x o e k = e
find_by-passes p false x o e k = k

pub find-passes : {X : Type 0} (p : X → Bool) (xs : List X) → OfSome (λ y. p y ≡ true) (find p xs)
find-passes p [] = tt
find-passes p (x ∷ xs) = find_by-passes p (p x) x (find p xs) refl (find-passes p xs)

pub filter_by-each : {X : Type 0} (P : X → Type 0) (t : Bool) (x : X) (xs : List X) → P x → Each P xs → Each P (if t then x ∷ xs else xs)
filter_by-each P true x xs h k = (h, k)
filter_by-each P false x xs h k = k

pub filter-each : {X : Type 0} (P : X → Type 0) (p : X → Bool) (xs : List X) → Each P xs → Each P (filter p xs)
filter-each P p [] h = tt
filter-each P p (x ∷ xs) h = filter_by-each P (p x) x (filter p xs) h.0 (filter-each P p xs h.1)

pub each-weaker : {X : Type 0} (P Q : X → Type 0) (xs : List X) → ((x : X) → P x → Q x) → Each P xs → Each Q xs
each-weaker P Q [] f h = tt
each-weaker P Q (x ∷ xs) f h = (f x h.0, each-weaker P Q xs f h.1)
