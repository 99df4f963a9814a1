-- Where a key stands in a property map, or would stand.
use Rattle.std.specs.Prelude.{ℕ, suc, List, [], ◌∷◌, Bool, false, Option, Some, None, slice_get, if◌then◌else◌}
use Rattle.std.specs.Ordering.{is_gt}
use Rattle.prop_map.specs.declared.value.Value.{Value}
use Rattle.prop_map.specs.declared.properties.Property.{Property}
use Rattle.prop_map.specs.Keys.{key_order, same_key}

-- the key comes after that of a property
abbrev pub goes_after : List ℕ → Property → Bool
goes_after key p = is_gt (key_order key p.key)

-- how many properties come before the key, counted from the first
abbrev pub place_of : List ℕ → List Property → ℕ
place_of key [] = 0
place_of key (p ∷ ps) = if goes_after key p then suc (place_of key ps) else 0

-- there is a property, and it has the key
abbrev pub has_key : List ℕ → Option Property → Bool
has_key key None = false
has_key key (Some p) = same_key key p.key

-- the property at a place has the key
abbrev pub has_key_at : List ℕ → ℕ → List Property → Bool
has_key_at key place ps = has_key key (slice_get ps place)

-- the value of a property that has the key
abbrev pub value_at : List ℕ → Option Property → Option Value
value_at key None = None
value_at key (Some p) = if same_key key p.key then Some p.value else None
