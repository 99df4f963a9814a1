-- The services of one reference, as they are kept. Our own.
use Rattle.std.specs.Prelude.{ℕ, List, [], ◌∷◌}
use Rattle.instance_callbacks.specs.declared.services.Kept.{Kept}
use Rattle.instance_callbacks.specs.declared.services.Kept.TheVariants.{Nothing, One, Several}

-- those that are kept, in order
abbrev pub kept_services : Kept → List ℕ
kept_services Nothing = []
kept_services (One s) = s ∷ []
kept_services (Several services) = services
