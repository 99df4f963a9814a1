-- What a text is, whether it has memory of its own or shares it.
use Rattle.std.specs.Prelude.{ℕ, List, string_bytes}
use Rattle.std.specs.Arc.{arc_value}
use Rattle.prop_map.specs.declared.text.Kept.{Kept}
use Rattle.prop_map.specs.declared.text.Kept.TheVariants.{Own, Together}

-- the bytes of a text
abbrev pub bytes_of : Kept → List ℕ
bytes_of (Own text) = string_bytes text
bytes_of (Together text) = string_bytes (arc_value text)
