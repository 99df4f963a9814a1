use Rattle.std.proofs.Common.{◌≡◌, ◌++◌, drop}
use Rattle.std.specs.Prelude.{map}
use Rattle.component_dto.specs.declared.description.Reference.{Reference}
use Rattle.scr_dues.proofs.own_names.names_of.Given as goal

abbrev pub invariant-loop-reference : goal.invariant-loop-reference
invariant-loop-reference l = map (λ n. n.now) l.names.items ++ map (λ (r : Reference). r.name) (drop l.reference-index l.references) ≡ map (λ (r : Reference). r.name) l.references
