use Rattle.std.proofs.Common.{◌≡◌, drop}
use Rattle.component_dto.specs.Rules.{first_for_use}
use Rattle.component_dto.proofs.rules.first_for_use.Given as goal

abbrev pub invariant-loop-fields : goal.invariant-loop-fields
invariant-loop-fields l = first_for_use (drop l.fields-index l.references) ≡ first_for_use l.references
