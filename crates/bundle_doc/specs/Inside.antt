-- For code and proofs alone: texts in the order of what stands at one end of them, each with its place. Our own words.
use Rattle.std.specs.Prelude.{◌≡◌, ℕ, suc, ◌-◌, length, unwrap_or, ◌==◌, ◌&&◌, List, [], ◌∷◌, reverse, Bool, false, Option, Some, None, if◌then◌else◌}
use Rattle.std.specs.Cmp.Lexicographic.{slice_cmp}
use Rattle.std.specs.List.{slice_get}
use Rattle.std.specs.List.Sorted.{IsSorted}
use Rattle.std.specs.Ordering.{nat_cmp}
use Rattle.bundle_doc.specs.declared.entries_by_end.End.{End}
use Rattle.bundle_doc.specs.declared.entries_by_end.End.TheVariants.{Front, Back}

-- a text as it is read from one end
abbrev pub read_from : End → List ℕ → List ℕ
read_from Front text = text
read_from Back text = reverse text

-- texts as they are read from one end, each with its place
abbrev pub placed : End → ℕ → List (List ℕ) → List (List ℕ × ℕ)
placed end place [] = []
placed end place (text ∷ texts) = (read_from end text, place) ∷ placed end (suc place) texts

-- the first of some parts, and the last one, empty where there is none
abbrev pub first_of : List (List ℕ) → List ℕ
first_of parts = unwrap_or (slice_get parts 0) []

abbrev pub last_of : List (List ℕ) → List ℕ
last_of parts = unwrap_or (slice_get parts (length parts - 1)) []

-- how many items pass a test
abbrev pub count : {X : Type 0} → (X → Bool) → List X → ℕ
count test [] = 0
count test (x ∷ xs) = if test x then suc (count test xs) else count test xs

-- the places of the texts that pass a test
abbrev pub places_of : (List ℕ → Bool) → ℕ → List (List ℕ) → List ℕ
places_of test place [] = []
places_of test place (text ∷ texts) = if test text then place ∷ places_of test (suc place) texts else places_of test (suc place) texts

-- something is there, and passes a test
abbrev pub passes : {X : Type 0} → (X → Bool) → Option X → Bool
passes test None = false
passes test (Some x) = test x

-- these are the texts read from one end, with their places, in byte order
abbrev pub IsOrder : {K : Type 0} → (K → List ℕ × ℕ) → End → List (List ℕ) → List K → Type 0
IsOrder key end texts keys = IsSorted (λ a b. slice_cmp nat_cmp (key a).0 (key b).0) keys × ((test : List ℕ × ℕ → Bool) → count (λ k. test (key k)) keys ≡ count test (placed end 0 texts))

-- each text that passes a test has its place among the keys, as often as among the texts
abbrev pub HasAll : {K : Type 0} → (K → List ℕ × ℕ) → (List ℕ → Bool) → List (List ℕ) → List K → Type 0
HasAll key test texts keys = (p : ℕ) → count (λ k. passes test (slice_get texts (key k).1) && ((key k).1 == p)) keys ≡ count (λ i. i == p) (places_of test 0 texts)
