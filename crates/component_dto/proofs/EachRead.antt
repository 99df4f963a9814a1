-- A list that is read item by item, up to the first fault.
use Rattle.std.proofs.Common.{◌≡◌, ◌<◌, ◌≤◌, ℕ, suc, ◌+◌, List, [], ◌∷◌, ◌++◌, length, get_or, drop, Result, Ok, Err, ap, sym, ◌∙◌, refl, append_assoc, append-nil, add-one, drop-cons}
use Rattle.std.proofs.lemmas.List.{drop_all}
use Rattle.serde_json.specs.Data.{Data}
use Rattle.serde_json.specs.View.{view, items_view}
use Rattle.serde_json.specs.declared.value.Value.{Value}
use Rattle.prop_map.specs.Words.{after}
use Rattle.component_dto.specs.Fields.{each_read}

-- the whole list is read as what was found so far and what the rest is read as
pub record SoFar {T F : Type 0} (reading : Data → Result T F) (items : List Value) (found : List T) (at : ℕ) : Type 0 where
  pub rest : each_read reading (items_view items) ≡ after (each_read reading (items_view (drop at items))) (λ xs. Ok (found ++ xs))

same : {T F : Type 0} (o : Result (List T) F) → o ≡ after o (λ xs. Ok ([] ++ xs))
same (Ok xs) = refl
same (Err fault) = refl

pub so_far_start : {T F : Type 0} (reading : Data → Result T F) (items : List Value) → SoFar reading items [] 0
so_far_start reading items = record { rest = same (each_read reading (items_view items)) }

grow : {T F : Type 0} (found : List T) (x : T) (o : Result (List T) F) → after (after o (λ xs. Ok (x ∷ xs))) (λ xs. Ok (found ++ xs)) ≡ after o (λ xs. Ok ((found ++ x ∷ []) ++ xs))
grow found x (Err fault) = refl
grow found x (Ok xs) = ap Ok (sym (append_assoc found (x ∷ []) xs))

at_item : {T F : Type 0} (reading : Data → Result T F) (items : List Value) (found : List T) (at : ℕ) (v : Value) → at < length items → v ≡ get_or items at v
    → after (each_read reading (items_view (drop at items))) (λ xs. Ok (found ++ xs))
    ≡ after (after (reading (view v)) (λ x. after (each_read reading (items_view (drop (suc at) items))) (λ xs. Ok (x ∷ xs)))) (λ xs. Ok (found ++ xs))
at_item reading items found at v within is =
    ap (λ w. after (each_read reading (items_view w)) (λ xs. Ok (found ++ xs))) (drop-cons items at v within ∙ ap (λ w. w ∷ drop (suc at) items) (sym is))

-- the next item is read as x
pub so_far_more : {T F : Type 0} {reading : Data → Result T F} {items : List Value} {found : List T} {at : ℕ} → SoFar reading items found at → (v : Value) (x : T) → at < length items → v ≡ get_or items at v
    → reading (view v) ≡ Ok x → SoFar reading items (found ++ x ∷ []) (at + 1)
so_far_more {T} {F} {reading} {items} {found} {at} so_far v x within is means = record {
  rest = so_far.rest ∙ at_item reading items found at v within is
      ∙ ap (λ w. after (after w (λ y. after (each_read reading (items_view (drop (suc at) items))) (λ ys. Ok (y ∷ ys)))) (λ xs. Ok (found ++ xs))) means
      ∙ grow found x (each_read reading (items_view (drop (suc at) items))) ∙ ap (λ k. after (each_read reading (items_view (drop k items))) (λ xs. Ok ((found ++ x ∷ []) ++ xs))) (sym (add-one at));
}

-- the next item has a fault
pub so_far_fault : {T F : Type 0} {reading : Data → Result T F} {items : List Value} {found : List T} {at : ℕ} → SoFar reading items found at → (v : Value) (fault : F) → at < length items → v ≡ get_or items at v
    → reading (view v) ≡ Err fault → each_read reading (items_view items) ≡ Err fault
so_far_fault {T} {F} {reading} {items} {found} {at} so_far v fault within is means =
    so_far.rest ∙ at_item reading items found at v within is
    ∙ ap (λ w. after (after w (λ y. after (each_read reading (items_view (drop (suc at) items))) (λ ys. Ok (y ∷ ys)))) (λ xs. Ok (found ++ xs))) means

-- no item is left
pub so_far_all : {T F : Type 0} {reading : Data → Result T F} {items : List Value} {found : List T} {at : ℕ} → SoFar reading items found at → length items ≤ at → each_read reading (items_view items) ≡ Ok found
so_far_all {T} {F} {reading} {items} {found} {at} so_far done =
    so_far.rest ∙ ap (λ w. after (each_read reading (items_view w)) (λ xs. Ok (found ++ xs))) (drop_all at items done) ∙ ap Ok (append-nil found)
