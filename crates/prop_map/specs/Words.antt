-- Words on lists of numbers, texts and rows that the definitions of several crates share. Our own.
use Rattle.std.specs.Prelude.{ℕ, ◌==◌, ◌&&◌, List, [], ◌∷◌, Bool, true, false, Option, Some, None, Result, Ok, Err, if◌then◌else◌}
use Rattle.std.specs.Cmp.Lexicographic.{slice_cmp}
use Rattle.std.specs.List.{list_any, list_all, enumerate_from}
use Rattle.std.specs.Ordering.{nat_cmp, is_lt}

-- the number is in the list
abbrev pub has : List ℕ → ℕ → Bool
has numbers number = list_any (λ n. n == number) numbers

-- the numbers of one list are those of the other, as sets
abbrev pub same_set : List ℕ → List ℕ → Bool
same_set xs ys = list_all (has ys) xs && list_all (has xs) ys

abbrev pub is_empty : {X : Type 0} → List X → Bool
is_empty [] = true
is_empty (x ∷ xs) = false

-- each item with its place, from a first one on
abbrev pub with_places : {X : Type 0} → ℕ → List X → List (ℕ × X)
with_places place xs = enumerate_from place xs

-- with an item put before the first one that it goes before
abbrev pub insert_by : {X : Type 0} → (X → X → Bool) → X → List X → List X
insert_by before x [] = x ∷ []
insert_by before x (y ∷ ys) = if before x y then x ∷ y ∷ ys else y ∷ insert_by before x ys

-- in the order of a test that says which of two comes first
abbrev pub in_order : {X : Type 0} → (X → X → Bool) → List X → List X
in_order before [] = []
in_order before (x ∷ xs) = insert_by before x (in_order before xs)

-- the first of the options that isn't none
abbrev pub first_some : {X : Type 0} → List (Option X) → Option X
first_some [] = None
first_some (Some x ∷ rest) = Some x
first_some (None ∷ rest) = first_some rest

-- what follows, unless there is a fault
abbrev pub after : {A B F : Type 0} → Result A F → (A → Result B F) → Result B F
after (Ok x) next = next x
after (Err fault) next = Err fault

-- one where it is so, else none
abbrev pub one_if : Bool → ℕ
one_if so = if so then 1 else 0

-- a text comes before another in byte order
abbrev pub text_before : List ℕ → List ℕ → Bool
text_before a b = is_lt (slice_cmp nat_cmp a b)
