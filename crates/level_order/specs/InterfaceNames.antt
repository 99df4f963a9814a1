-- Numbers for the names of interfaces. Our own words.
use Rattle.std.specs.Prelude.{ℕ, suc, List, [], ◌∷◌, ◌++◌, map, Bool, if◌then◌else◌}
use Rattle.std.specs.Cmp.Lexicographic.{slice_cmp}
use Rattle.std.specs.Ordering.{is_lt, nat_cmp}
use Rattle.component_dto.specs.declared.description.Description.{Description}
use Rattle.component_dto.specs.declared.description.Reference.{Reference}

-- the interfaces that a description provides, and those that it references
abbrev pub named_by : Description → List (List ℕ)
named_by d = d.service_interfaces ++ map (λ (r : Reference). r.interface_name) d.references

-- one text stands before another in byte order
abbrev pub is_before : List ℕ → List ℕ → Bool
is_before one other = is_lt (slice_cmp nat_cmp one other)

-- how many of the names stand before this one
abbrev pub number_of : List (List ℕ) → List ℕ → ℕ
number_of [] name = 0
number_of (other ∷ names) name = if is_before other name then suc (number_of names name) else number_of names name
