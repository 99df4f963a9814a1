-- Descriptions and the interfaces that join them, as places that lead to others. Our own words.
use Rattle.std.specs.Prelude.{◌≡◌, ℕ, ◌+◌, ◌<◌, ◌≤◌, List, [], map, get_or, length, Bool, true}
use Rattle.std.specs.List.{list_any}
use Rattle.component_dto.specs.declared.description.Description.{Description}
use Rattle.component_dto.specs.declared.description.Reference.{Reference}
use Rattle.level_order.specs.InterfaceNames.{number_of}
use Rattle.level_order.specs.Uses.{all_uses}
use Rattle.level_order.specs.Ways.{has}

-- the places of the interfaces that a description references, behind those of the descriptions
abbrev pub needs_of : List (List ℕ) → ℕ → Description → List ℕ
needs_of names first d = map (λ (r : Reference). first + number_of names r.interface_name) d.references

-- the places of those that it provides
abbrev pub gives_of : List (List ℕ) → ℕ → Description → List ℕ
gives_of names first d = map (λ (i : List ℕ). first + number_of names i) d.service_interfaces

-- one comes back over an interface from one place to another
abbrev pub comes_from : List (List ℕ) → ℕ → ℕ → Bool
comes_from back to place = list_any (λ x. has (get_or back x []) place) (get_or back to [])

-- a description consumes another one exactly where the place of an interface lies between them
pub record AreLinks (ds : List Description) (onward back : List (List ℕ)) : Type 0 where
  pub some : length ds ≤ length onward
  -- a description leads to interfaces, an interface to descriptions
  pub interfaces : (i x : ℕ) → i < length ds → has (get_or onward i []) x ≡ true → (length ds ≤ x) × (x < length onward)
  pub descriptions : (x j : ℕ) → length ds ≤ x → has (get_or onward x []) j ≡ true → j < length ds
  pub between : (i j : ℕ) → has (get_or (all_uses ds) i []) j ≡ true → (x : ℕ) × (has (get_or onward i []) x ≡ true) × (has (get_or onward x []) j ≡ true)
  pub consumed : (i x j : ℕ) → i < length ds → has (get_or onward i []) x ≡ true → has (get_or onward x []) j ≡ true → has (get_or (all_uses ds) i []) j ≡ true
  pub turned : (i j : ℕ) → i < length ds → j < length ds → comes_from back j i ≡ has (get_or (all_uses ds) i []) j
