use Rattle.std.proofs.Common.{◌≡◌, drop}
use Rattle.component_dto.specs.Rules.{is_implicit}
use Rattle.component_dto.proofs.rules.is_implicit.Given as goal

abbrev pub invariant-loop-fields : goal.invariant-loop-fields
invariant-loop-fields l = is_implicit (drop l.fields-index l.references) ≡ is_implicit l.references
