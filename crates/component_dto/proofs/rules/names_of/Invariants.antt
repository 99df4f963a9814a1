use Rattle.std.proofs.Common.{◌≡◌, ◌++◌, drop}
use Rattle.std.specs.Prelude.{map}
use Rattle.component_dto.specs.Rules.{names_of}
use Rattle.component_dto.proofs.rules.names_of.Given as goal

abbrev pub invariant-loop-fields : goal.invariant-loop-fields
invariant-loop-fields l = map (λ n. n.now) l.names.items ++ names_of (drop l.fields-index l.references) ≡ names_of l.references
