-- The references of each instance differ in name where those of each installed description do.
use Rattle.std.proofs.Common.{◌≡◌, ℕ, ◌+◌, List, [], ◌∷◌, ◌++◌, ap, sym, ◌∙◌, refl, subst, cond, Bool, true, false, inl, inr, ◌⊎◌, Some, None}
use Rattle.std.specs.Prelude.{map}
use Rattle.std.specs.List.{Contains}
use Rattle.std.specs.Str.{bytes_eq}
use Rattle.std.proofs.lemmas.Bool.{both_ways, or_left, or_right}
use Rattle.std.proofs.lemmas.List.Folds.{list_any-append}
use Rattle.callback_orders.proofs.HeldLemmas.{text_same}
use Rattle.component_dto.specs.TextLists.{first_repeated, has_text, repeated_behind}
use Rattle.component_dto.specs.declared.description.Reference.{Reference}
use Rattle.component_state.proofs.Apart.{in_cases, in_none}
use Rattle.prop_map.specs.Words.{with_places}
use Rattle.scr_promises.proofs.InstanceComponents.{its_component}
use Rattle.scr_promises.proofs.HeldSteps.{board_references}
use Rattle.scr_laws.proofs.Sounding.{legal_sound}
use Rattle.scr_promises.specs.Names.{HaveOwnNames}
use Rattle.scr_promises.proofs.PairMoves.{HasOwnNames}
use Rattle.scr_world.specs.Legal.{IsLegal}
use Rattle.scr_world.specs.Lists.{world_of}
use Rattle.scr_world.specs.Steps.{History}
use Rattle.scr_world.specs.Whiteboard.{whiteboard_references}
use Rattle.scr_world.specs.Worlds.{all_instances}
use Rattle.scr_world.specs.declared.instance.Instance.{Instance}

abbrev names : List Reference → List (List ℕ)
names rs = map (λ (r : Reference). r.name) rs

-- ---- a list without a repeated name

first_of : (before : List (List ℕ)) (name : List ℕ) (rest : List (List ℕ)) → repeated_behind before (name ∷ rest) ≡ None → (has_text before name ≡ false) × (repeated_behind (before ++ name ∷ []) rest ≡ None)
first_of before name rest none = go (has_text before name) refl none
  where
    go : (b : Bool) → has_text before name ≡ b → cond b (Some name) (repeated_behind (before ++ name ∷ []) rest) ≡ None → (has_text before name ≡ false) × (repeated_behind (before ++ name ∷ []) rest ≡ None)
    go true is e = cc
    go false is e = (is, e)

not_before : (before : List (List ℕ)) (k : ℕ) (rs : List Reference) → repeated_behind before (names rs) ≡ None → (r : ℕ × Reference) → Contains (with_places k rs) r → (name : List ℕ) → name ≡ r.1.name → has_text before name ≡ true → ⊥
not_before before k [] none r h name same on = in_none r h
not_before before k (q ∷ qs) none r h name same on =
    let first = first_of before q.name (names qs) none in
    elim (in_cases (k, q) (with_places (k + 1) qs) r h) [
      | inl is ↦ both_ways (has_text before q.name) first.0 (ap (has_text before) (ap (λ (x : ℕ × Reference). x.1.name) is ∙ sym same) ∙ on)
      | inr later ↦ not_before (before ++ q.name ∷ []) (k + 1) qs first.1 r later name same
          (list_any-append (λ t. bytes_eq t name) before (q.name ∷ []) ∙ or_left (has_text before name) (has_text (q.name ∷ []) name) on)
    ]

one_name : (before : List (List ℕ)) (k : ℕ) (rs : List Reference) → repeated_behind before (names rs) ≡ None → (a b : ℕ × Reference) → Contains (with_places k rs) a → Contains (with_places k rs) b → a.1.name ≡ b.1.name → a ≡ b
one_name before k [] none a b h i same = absurd (in_none a h)
one_name before k (q ∷ qs) none a b h i same = go (in_cases (k, q) (with_places (k + 1) qs) a h) (in_cases (k, q) (with_places (k + 1) qs) b i) (λ l r. one_name (before ++ q.name ∷ []) (k + 1) qs first.1 a b l r same)
  where
    first : (has_text before q.name ≡ false) × (repeated_behind (before ++ q.name ∷ []) (names qs) ≡ None)
    first = first_of before q.name (names qs) none

    known : (name : List ℕ) → q.name ≡ name → has_text (before ++ q.name ∷ []) name ≡ true
    known name is = list_any-append (λ t. bytes_eq t name) before (q.name ∷ []) ∙ or_right (has_text before name) (has_text (q.name ∷ []) name) (or_left (bytes_eq q.name name) false (text_same q.name name is))

    go : ((k, q) ≡ a) ⊎ Contains (with_places (k + 1) qs) a → ((k, q) ≡ b) ⊎ Contains (with_places (k + 1) qs) b → (Contains (with_places (k + 1) qs) a → Contains (with_places (k + 1) qs) b → a ≡ b) → a ≡ b
    go (inl l) (inl r) later = sym l ∙ r
    go (inr l) (inr r) later = later l r
    go (inl l) (inr r) later = absurd (not_before (before ++ q.name ∷ []) (k + 1) qs first.1 b r q.name (ap (λ (x : ℕ × Reference). x.1.name) l ∙ same) (known q.name refl))
    go (inr l) (inl r) later = absurd (not_before (before ++ q.name ∷ []) (k + 1) qs first.1 a l q.name (ap (λ (x : ℕ × Reference). x.1.name) r ∙ sym same) (known q.name refl))

-- ---- an instance

own_names : (rs : List Reference) → first_repeated (names rs) ≡ None → (a b : ℕ × Reference) → Contains (with_places 0 rs) a → Contains (with_places 0 rs) b → a.1.name ≡ b.1.name → a ≡ b
own_names rs none = one_name [] 0 rs none

pub instance_names : (limit : ℕ) (past : History) → IsLegal limit past → HaveOwnNames (world_of past) → (i : Instance) → Contains (all_instances (world_of past)) i → HasOwnNames (world_of past) i
instance_names limit past legal have i h = elim (in_cases (world_of past).whiteboard (world_of past).instances i h) [
  | inl board ↦ subst (λ (x : Instance). HasOwnNames (world_of past) x) board
      (subst (λ (rs : List Reference). (a b : ℕ × Reference) → Contains (with_places 0 rs) a → Contains (with_places 0 rs) b → a.1.name ≡ b.1.name → a ≡ b) (sym (board_references past)) (own_names whiteboard_references refl))
  | inr made ↦ (
      let c = its_component limit past legal i made in
      subst (λ (rs : List Reference). (a b : ℕ × Reference) → Contains (with_places 0 rs) a → Contains (with_places 0 rs) b → a.1.name ≡ b.1.name → a ≡ b) (sym c.1.references)
      (own_names c.0.description.references (have c.0.description ((legal_sound limit past legal).described c.0 c.1.there))))
]
