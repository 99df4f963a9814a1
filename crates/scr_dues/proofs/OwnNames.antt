-- References that differ in name: two with one name are one.
use Rattle.std.proofs.Common.{◌≡◌, ◌∙◌, ap, sym, refl, cond, ℕ, ◌+◌, List, [], ◌∷◌, ◌++◌, Bool, true, false, inl, inr, ◌⊎◌, Option, Some, None}
use Rattle.std.specs.Prelude.{is_none, map}
use Rattle.std.specs.List.{Contains}
use Rattle.std.specs.Str.{bytes_eq}
use Rattle.std.proofs.lemmas.Bool.{both_ways, or_left, or_right}
use Rattle.std.proofs.lemmas.List.Folds.{list_any-append}
use Rattle.callback_orders.proofs.HeldLemmas.{text_same}
use Rattle.component_dto.specs.TextLists.{has_text, repeated_behind}
use Rattle.component_dto.specs.declared.description.Reference.{Reference}
use Rattle.component_state.proofs.Apart.{in_cases, in_none}
use Rattle.prop_map.specs.Words.{with_places}
use Rattle.scr_dues.specs.Makings.{have_own_names}

abbrev names : List Reference → List (List ℕ)
names rs = map (λ (r : Reference). r.name) rs

none_is : (o : Option (List ℕ)) → is_none o ≡ true → o ≡ None
none_is None e = refl
none_is (Some name) e = cc

first_of : (before : List (List ℕ)) (name : List ℕ) (rest : List (List ℕ)) → repeated_behind before (name ∷ rest) ≡ None → (has_text before name ≡ false) × (repeated_behind (before ++ name ∷ []) rest ≡ None)
first_of before name rest none = go (has_text before name) refl none
  where
    go : (b : Bool) → has_text before name ≡ b → cond b (Some name) (repeated_behind (before ++ name ∷ []) rest) ≡ None → (has_text before name ≡ false) × (repeated_behind (before ++ name ∷ []) rest ≡ None)
    go true is e = cc
    go false is e = (is, e)

not_before : (before : List (List ℕ)) (k : ℕ) (rs : List Reference) → repeated_behind before (names rs) ≡ None → (r : ℕ × Reference) → Contains (with_places k rs) r → has_text before r.1.name ≡ true → ⊥
not_before before k [] none r h on = in_none r h
not_before before k (q ∷ qs) none r h on =
    let first = first_of before q.name (names qs) none in
    elim (in_cases (k, q) (with_places (k + 1) qs) r h) [
      | inl is ↦ both_ways (has_text before q.name) first.0 (ap (λ (x : ℕ × Reference). has_text before x.1.name) is ∙ on)
      | inr later ↦ not_before (before ++ q.name ∷ []) (k + 1) qs first.1 r later (list_any-append (λ t. bytes_eq t r.1.name) before (q.name ∷ []) ∙ or_left (has_text before r.1.name) (has_text (q.name ∷ []) r.1.name) on)
    ]

one_name : (before : List (List ℕ)) (k : ℕ) (rs : List Reference) → repeated_behind before (names rs) ≡ None → (a b : ℕ × Reference) → Contains (with_places k rs) a → Contains (with_places k rs) b → a.1.name ≡ b.1.name → a ≡ b
one_name before k [] none a b h i same = absurd (in_none a h)
one_name before k (q ∷ qs) none a b h i same = go (in_cases (k, q) (with_places (k + 1) qs) a h) (in_cases (k, q) (with_places (k + 1) qs) b i) (λ l r. one_name (before ++ q.name ∷ []) (k + 1) qs first.1 a b l r same)
  where
    first : (has_text before q.name ≡ false) × (repeated_behind (before ++ q.name ∷ []) (names qs) ≡ None)
    first = first_of before q.name (names qs) none

    -- none behind the first one has its name
    never : (r : ℕ × Reference) → Contains (with_places (k + 1) qs) r → q.name ≡ r.1.name → ⊥
    never r there is = not_before (before ++ q.name ∷ []) (k + 1) qs first.1 r there
        (list_any-append (λ t. bytes_eq t r.1.name) before (q.name ∷ []) ∙ or_right (has_text before r.1.name) (has_text (q.name ∷ []) r.1.name) (or_left (bytes_eq q.name r.1.name) false (text_same q.name r.1.name is)))

    go : ((k, q) ≡ a) ⊎ Contains (with_places (k + 1) qs) a → ((k, q) ≡ b) ⊎ Contains (with_places (k + 1) qs) b → (Contains (with_places (k + 1) qs) a → Contains (with_places (k + 1) qs) b → a ≡ b) → a ≡ b
    go (inl l) (inl r) later = sym l ∙ r
    go (inr l) (inr r) later = later l r
    go (inl l) (inr r) later = absurd (never b r (ap (λ (x : ℕ × Reference). x.1.name) l ∙ same))
    go (inr l) (inl r) later = absurd (never a l (ap (λ (x : ℕ × Reference). x.1.name) r ∙ sym same))

pub own_names : (rs : List Reference) → have_own_names rs ≡ true → (a b : ℕ × Reference) → Contains (with_places 0 rs) a → Contains (with_places 0 rs) b → a.1.name ≡ b.1.name → a ≡ b
own_names rs own = one_name [] 0 rs (none_is (repeated_behind [] (names rs)) own)
