use Rattle.std.proofs.Common.{◌≡◌, drop}
use Rattle.component_dto.specs.Rules.{bad_target_of}
use Rattle.component_dto.proofs.targets.bad_target.Given as goal

abbrev pub invariant-loop-fields : goal.invariant-loop-fields
invariant-loop-fields l = bad_target_of (drop l.fields-index l.references) ≡ bad_target_of l.references
