-- The items of a value, and the values of a name, one at a time.
use Rattle.std.proofs.Common.{Bool, true, false, ◌||◌, Some, ◌≡◌, ℕ, zero, suc, ◌<◌, cond, List, [], ◌∷◌, ◌++◌, map, length, get_or, take, refl, ap, ◌∙◌, arith}
use Rattle.std.specs.Prelude.{IsTrue, ◌↔◌, slice_get}
use Rattle.std.specs.Bool.{Decides}
use Rattle.std.specs.List.{list_any}
use Rattle.std.proofs.lemmas.List.{append-nil}
use Rattle.std.proofs.lemmas.Grind.{flat_map-append}
use Rattle.std.proofs.lemmas.List.Folds.{list_any-append}
use Rattle.http_wire.specs.FieldValues.{Line, values_named, value_if_named, is_same_word, has_item, has_item_named}

pub values_named_push : (name : List ℕ) (lines : List Line) (line : Line) → values_named name (lines ++ line ∷ []) ≡ values_named name lines ++ value_if_named name line
values_named_push name lines line =
    flat_map-append (value_if_named name) lines (line ∷ []) ∙ ap (λ l. values_named name lines ++ l) (append-nil (value_if_named name line))

pub decides_from_iff : {P : Type 0} (b : Bool) → (IsTrue b ↔ P) → Decides b P
decides_from_iff b h = (h.0, h.1)

empty_front : {A : Type 0} (xs ys : List A) → xs ++ ys ≡ [] → xs ≡ []
empty_front [] ys e = refl
empty_front (x ∷ xs) ys e = cc

-- the first field with the name gives the first value
pub first_at : {H : Type 0} (view : H → Line) (name : List ℕ) (hs : List H) (i : ℕ) (d : H) → i < length hs
    → values_named name (map view (take i hs)) ≡ [] → is_same_word (view (get_or hs i d)).0 name ≡ true
    → slice_get (values_named name (map view hs)) 0 ≡ Some (view (get_or hs i d)).1
first_at view name [] i d inside none same = absurd (omega arith)
first_at view name (h ∷ hs) zero d inside none same =
    ap (λ t. slice_get (cond t ((view h).1 ∷ []) [] ++ values_named name (map view hs)) 0) same
first_at view name (h ∷ hs) (suc i) d inside none same =
    let front = empty_front (value_if_named name (view h)) (values_named name (map view (take i hs))) none in
    let rest : values_named name (map view (take i hs)) ≡ [] = rw front at none in
    ap (λ (t : List (List ℕ)). slice_get (t ++ values_named name (map view hs)) 0) front ∙ first_at view name hs i d (omega arith) rest same

or-true : (b : Bool) → (b || true) ≡ true
or-true true = refl
or-true false = refl

pub has_item_at : {H : Type 0} (view : H → Line) (name word : List ℕ) (hs : List H) (i : ℕ) (d : H) → i < length hs
    → is_same_word (view (get_or hs i d)).0 name ≡ true → has_item word (view (get_or hs i d)).1 ≡ true
    → has_item_named name word (map view hs) ≡ true
has_item_at view name word [] i d inside same has = absurd (omega arith)
has_item_at view name word (h ∷ hs) zero d inside same has =
    ap (λ t. list_any (has_item word) (cond t ((view h).1 ∷ []) [] ++ values_named name (map view hs))) same
    ∙ ap (λ t. t || list_any (has_item word) (values_named name (map view hs))) has
has_item_at view name word (h ∷ hs) (suc i) d inside same has =
    rw (list_any-append, has_item_at view name word hs i d (omega arith) same has) (or-true _)
