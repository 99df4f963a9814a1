-- The parts of a list. Our own.
use Rattle.std.specs.Prelude.{List}
use Rattle.std.specs.List.{flat_map}

-- the items of the parts, one part behind another
abbrev pub joined : {T : Type 0} → List (List T) → List T
joined parts = flat_map (λ part. part) parts
