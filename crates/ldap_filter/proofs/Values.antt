-- The tree of a value, by its parts.
use Rattle.std.proofs.Common.{◌≡◌, refl, ℕ, List, [], ◌∷◌, ◌++◌, Bool, true, false, cond}
use Rattle.ldap_filter.specs.declared.comparison.Comparison.{Comparison}
use Rattle.ldap_filter.specs.Trees.{Compare, Present, Parts}
use Rattle.ldap_filter.specs.Machine.{value_tree}
use Rattle.ldap_filter.specs.Reading.{is_star_alone}

abbrev no_parts : List (List ℕ) → Bool
no_parts [] = true
no_parts (p ∷ ps) = false

-- one part is compared as it stands, a star alone asks for presence, and further parts are looked for
pub value_tree_is : (c : Comparison) (name : List ℕ) (parts : List (List ℕ)) (part : List ℕ)
    → value_tree c name (parts ++ part ∷ []) ≡ cond (no_parts parts) (Compare c name part) (cond (is_star_alone parts part) (Present name) (Parts name (parts ++ part ∷ [])))
value_tree_is c name [] part = refl
value_tree_is c name ([] ∷ []) [] = refl
value_tree_is c name ([] ∷ []) (b ∷ part) = refl
value_tree_is c name ((a ∷ p) ∷ []) part = refl
value_tree_is c name ([] ∷ [] ∷ ps) part = by_rest ps where
  by_rest : (rs : List (List ℕ)) → value_tree c name (([] ∷ [] ∷ rs) ++ part ∷ []) ≡ Parts name (([] ∷ [] ∷ rs) ++ part ∷ [])
  by_rest [] = refl
  by_rest (r ∷ rs) = refl
value_tree_is c name ([] ∷ (b ∷ q) ∷ ps) part = refl
value_tree_is c name ((a ∷ p) ∷ q ∷ ps) part = refl
