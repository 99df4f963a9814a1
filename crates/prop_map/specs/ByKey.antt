-- Properties that stand under their keys without case. Our own.
use Rattle.std.specs.Prelude.{◌≡◌, List, [], ◌∷◌, String, string_bytes}
use Rattle.std.specs.Map.{values_of}
use Rattle.prop_map.specs.declared.properties.Property.{Property}
use Rattle.prop_map.specs.Keys.{folded}
use Rattle.prop_map.specs.Maps.{IsInOrder}

-- each property stands under its key without case
abbrev pub AreUnderKeys : {Z : Type 0} → List (String Z × Property) → Type 0
AreUnderKeys [] = Unit {0}
AreUnderKeys (e ∷ es) = (string_bytes e.0 ≡ folded e.1.key) × AreUnderKeys es

-- the properties are a map under its keys
abbrev pub IsByKey : {Z : Type 0} → List (String Z × Property) → Type 0
IsByKey es = AreUnderKeys es × IsInOrder (values_of es)
