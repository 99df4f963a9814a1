-- Steps through descriptions, configurations and component configurations that are asked for anew.
use Rattle.std.proofs.Common.{◌≡◌, ◌<◌, ◌≤◌, ◌∙◌, ◌&&◌, ◌||◌, ℕ, ◌+◌, add-zero, arith, inl, inr, min, List, [], ◌∷◌, ◌++◌, Bool, true, false, cond, not, refl, ap, sym, append_assoc, Option, Some, None, drop, filter, get_or, length, map, take}
use Rattle.std.specs.Borrow.{Bor}
use Rattle.std.specs.List.{filter_map, list_all, list_any}
use Rattle.std.specs.Option.{option_copied}
use Rattle.std.specs.Prelude.{is_some, option_to_list}
use Rattle.std.proofs.lemmas.Bool.{cases_lt}
use Rattle.std.proofs.lemmas.List.{at_drop_more, drop_all, map-append, take_more}
use Rattle.std.proofs.lemmas.List.Elements.{filter_map-append}
use Rattle.prop_map.specs.Words.{is_empty}
use Rattle.component_dto.specs.declared.description.Description.{Description}
use Rattle.config_admin.specs.declared.configuration.Configuration.{Configuration}
use Rattle.component_state.specs.declared.component.Component.{Component}
use Rattle.component_state.specs.declared.rows.BundleRow.{BundleRow}
use Rattle.component_state.specs.ComponentConfigurations.{components_for_description, components_for_descriptions, is_same_component, new_components, with_numbers}

-- one passes exactly where those that pass aren't none
pub any_kept : {X : Type 0} (p : X → Bool) (xs : List X) → list_any p xs ≡ not (is_empty (filter p xs))
any_kept p [] = refl
any_kept p (x ∷ xs) = by_first (p x) (any_kept p xs) where
  by_first : (b : Bool) → list_any p xs ≡ not (is_empty (filter p xs)) → (b || list_any p xs) ≡ not (is_empty (cond b (x ∷ filter p xs) (filter p xs)))
  by_first true rest = refl
  by_first false rest = rest

pub any_mapped : {X Y : Type 0} (f : X → Y) (p : Y → Bool) (xs : List X) → list_any p (map f xs) ≡ list_any (λ x. p (f x)) xs
any_mapped f p [] = refl
any_mapped f p (x ∷ xs) = ap (λ b. p (f x) || b) (any_mapped f p xs)

-- ---- configurations that count

pub all_set : {X : Type 0} (os : List (Option (Bor X))) → list_all is_some (map option_copied os) ≡ list_all is_some os
all_set [] = refl
all_set (None ∷ os) = refl
all_set (Some x ∷ os) = all_set os

one_set : {X : Type 0} (o : Option (Bor X)) → map (λ (x : Bor X). x.now) (option_to_list o) ≡ filter_map (λ x. x) (option_copied o ∷ [])
one_set None = refl
one_set (Some x) = refl

-- one more of the configurations that count, if it is there
pub set_more : {X : Type 0} (os : List (Option (Bor X))) (i : ℕ) (o : Option (Bor X)) (found : List (Bor X)) → i < length os → o ≡ get_or os i o
    → map (λ (x : Bor X). x.now) found ≡ filter_map (λ x. x) (map option_copied (take i os))
    → map (λ (x : Bor X). x.now) (found ++ option_to_list o) ≡ filter_map (λ x. x) (map option_copied (take (i + 1) os))
set_more {X = X} os i o found within is so_far =
    map-append (λ (x : Bor X). x.now) found (option_to_list o)
    ∙ ap (λ l. l ++ map (λ (x : Bor X). x.now) (option_to_list o)) so_far
    ∙ ap (λ l. filter_map (λ x. x) (map option_copied (take i os)) ++ l) (one_set o)
    ∙ sym (filter_map-append (λ x. x) (map option_copied (take i os)) (option_copied o ∷ []))
    ∙ ap (λ l. filter_map (λ x. x) l) (sym (map-append option_copied (take i os) (o ∷ [])))
    ∙ ap (λ l. filter_map (λ x. x) (map option_copied l)) (ap (λ x. take i os ++ x ∷ []) is ∙ sym (take_more os i o within))

-- ---- descriptions that are enabled

without_flags : (b : BundleRow) (cs : List Configuration) (i : ℕ) (ds : List Description) → components_for_descriptions b cs i ds [] ≡ []
without_flags b cs i [] = refl
without_flags b cs i (d ∷ ds) = refl

-- nothing is left where one of the two lists has ended
no_description_left : (b : BundleRow) (cs : List Configuration) (i n : ℕ) (ds : List Description) (es : List Bool) → length ds ≤ n → components_for_descriptions b cs i (drop n ds) (drop n es) ≡ []
no_description_left b cs i n ds es h = ap (λ l. components_for_descriptions b cs i l (drop n es)) (drop_all n ds h)

no_flag_left : (b : BundleRow) (cs : List Configuration) (i n : ℕ) (ds : List Description) (es : List Bool) → length es ≤ n → components_for_descriptions b cs i (drop n ds) (drop n es) ≡ []
no_flag_left b cs i n ds es h = ap (λ l. components_for_descriptions b cs i (drop n ds) l) (drop_all n es h) ∙ without_flags b cs i (drop n ds)

pub none_left : (b : BundleRow) (cs : List Configuration) (i n : ℕ) (ds : List Description) (es : List Bool) → min (length ds) (length es) ≤ n → components_for_descriptions b cs i (drop n ds) (drop n es) ≡ []
none_left b cs i n ds es h = elim (cases_lt n (length ds)) [
  | inl within ↦ no_flag_left b cs i n ds es (omega arith)
  | inr past ↦ no_description_left b cs i n ds es past
]

-- the description at an index comes first of those from there on
from_index : (b : BundleRow) (cs : List Configuration) (i : ℕ) (ds : List Description) (es : List Bool) (d : Description) (e : Bool)
    → i < length ds → i < length es → d ≡ get_or ds i d → e ≡ get_or es i e
    → components_for_descriptions b cs i (drop i ds) (drop i es)
    ≡ cond e (components_for_description b i d cs d.configuration_policy) [] ++ components_for_descriptions b cs (i + 1) (drop (i + 1) ds) (drop (i + 1) es)
from_index b cs i ds es d e in_ds in_es is_d is_e =
    at_drop_more (λ l. components_for_descriptions b cs i l (drop i es)) ds i d in_ds
    ∙ ap (λ x. components_for_descriptions b cs i (x ∷ drop (i + 1) ds) (drop i es)) (sym is_d)
    ∙ at_drop_more (λ l. components_for_descriptions b cs i (d ∷ drop (i + 1) ds) l) es i e in_es
    ∙ ap (λ x. components_for_descriptions b cs i (d ∷ drop (i + 1) ds) (x ∷ drop (i + 1) es)) (sym is_e)

-- the loop's step
pub more_enabled : (b : BundleRow) (cs : List Configuration) (i : ℕ) (ds : List Description) (es : List Bool) (d : Description) (e : Bool) (so_far more all : List Component)
    → i < length ds → i < length es → d ≡ get_or ds i d → e ≡ get_or es i e
    → more ≡ so_far ++ cond e (components_for_description b i d cs d.configuration_policy) []
    → so_far ++ components_for_descriptions b cs i (drop i ds) (drop i es) ≡ all
    → more ++ components_for_descriptions b cs (i + 1) (drop (i + 1) ds) (drop (i + 1) es) ≡ all
more_enabled b cs i ds es d e so_far more all in_ds in_es is_d is_e adds invariant =
    ap (λ l. l ++ components_for_descriptions b cs (i + 1) (drop (i + 1) ds) (drop (i + 1) es)) adds
    ∙ append_assoc so_far (cond e (components_for_description b i d cs d.configuration_policy) []) (components_for_descriptions b cs (i + 1) (drop (i + 1) ds) (drop (i + 1) es))
    ∙ ap (λ l. so_far ++ l) (sym (from_index b cs i ds es d e in_ds in_es is_d is_e))
    ∙ invariant

-- ---- those that come

-- the first that there is to be comes or doesn't, and the others are numbered behind it
first_numbered : (before : List Component) (n : ℕ) (a : Component) (rest : List Component)
    → with_numbers (n + 1) (new_components before (a ∷ rest)) ≡ with_numbers (n + 1) (new_components before (a ∷ [])) ++ with_numbers (n + length (new_components before (a ∷ [])) + 1) (new_components before rest)
first_numbered before n a rest = by_test (not (list_any (λ (c : Component). c.exists && is_same_component a c) before)) where
  by_test : (b : Bool) → with_numbers (n + 1) (cond b (a ∷ new_components before rest) (new_components before rest))
      ≡ with_numbers (n + 1) (cond b (a ∷ []) []) ++ with_numbers (n + length (cond b (a ∷ []) []) + 1) (new_components before rest)
  by_test true = refl
  by_test false = ap (λ m. with_numbers (m + 1) (new_components before rest)) (sym (add-zero n))

-- the loop's step
pub more_new : (before these : List Component) (i n last : ℕ) (a : Component) (so_far more all : List Component)
    → i < length these → a ≡ get_or these i a
    → last ≡ n + length (new_components before (a ∷ []))
    → more ≡ so_far ++ with_numbers (n + 1) (new_components before (a ∷ []))
    → so_far ++ with_numbers (n + 1) (new_components before (drop i these)) ≡ all
    → more ++ with_numbers (last + 1) (new_components before (drop (i + 1) these)) ≡ all
more_new before these i n last a so_far more all within is numbered adds invariant =
    ap (λ m. more ++ with_numbers (m + 1) (new_components before (drop (i + 1) these))) numbered
    ∙ ap (λ l. l ++ with_numbers (n + length (new_components before (a ∷ [])) + 1) (new_components before (drop (i + 1) these))) adds
    ∙ append_assoc so_far (with_numbers (n + 1) (new_components before (a ∷ []))) (with_numbers (n + length (new_components before (a ∷ [])) + 1) (new_components before (drop (i + 1) these)))
    ∙ ap (λ l. so_far ++ l) (sym (at_drop_more (λ l. with_numbers (n + 1) (new_components before l)) these i a within ∙ ap (λ x. with_numbers (n + 1) (new_components before (x ∷ drop (i + 1) these))) (sym is) ∙ first_numbered before n a (drop (i + 1) these)))
    ∙ invariant
