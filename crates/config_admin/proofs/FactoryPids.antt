-- When a text is a factory's PID, `~` and a name, and when some configuration has such a PID.
use Rattle.std.proofs.Common.{◌≡◌, ℕ, List, [], ◌∷◌, ◌++◌, refl, Bool, true, false, Option, Some, drop, length, take}
use Rattle.std.specs.List.{list_any}
use Rattle.std.specs.Prelude.{◌&&◌, ◌||◌, ◌==◌, find, is_none, not, if◌then◌else◌}
use Rattle.std.specs.Str.{bytes_eq}

-- a text with a front is that front and more exactly where the rest is that more
same_then : (same both : Bool) (text front more behind : List ℕ) → (both ≡ true → bytes_eq text more ≡ bytes_eq behind front) → (same && both) ≡ true → (same && bytes_eq text more) ≡ bytes_eq behind front
same_then true both text front more behind rest is = rest is
same_then false both text front more behind rest is = absurd cc

pub same_behind : (text front more : List ℕ) → bytes_eq (take (length front) text) front ≡ true → bytes_eq text (front ++ more) ≡ bytes_eq (drop (length front) text) more
same_behind text [] more is = refl
same_behind [] (f ∷ front) more is = absurd cc
same_behind (t ∷ text) (f ∷ front) more is =
    same_then (t == f) (bytes_eq (take (length front) text) front) text more (front ++ more) (drop (length front) text) (same_behind text front more) is

-- and one without that front isn't
other_then : (same both more : Bool) → (both ≡ false → more ≡ false) → (same && both) ≡ false → (same && more) ≡ false
other_then true both more rest is = rest is
other_then false both more rest is = refl

pub other_front : (text front more : List ℕ) → bytes_eq (take (length front) text) front ≡ false → bytes_eq text (front ++ more) ≡ false
other_front text [] more is = absurd (cc is)
other_front [] (f ∷ front) more is = refl
other_front (t ∷ text) (f ∷ front) more is = other_then (t == f) (bytes_eq (take (length front) text) front) (bytes_eq text (front ++ more)) (other_front text front more) is

-- none is found exactly where no item passes
none_then : {X : Type 0} (b : Bool) (x : X) (found : Option X) (some : Bool) → is_none found ≡ not some → is_none (if b then Some x else found) ≡ not (b || some)
none_then true x found some is = refl
none_then false x found some is = is

pub none_found : {X : Type 0} (test : X → Bool) (xs : List X) → is_none (find test xs) ≡ not (list_any test xs)
none_found test [] = refl
none_found test (x ∷ xs) = none_then (test x) x (find test xs) (list_any test xs) (none_found test xs)
