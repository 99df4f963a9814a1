use Rattle.std.proofs.Common.{◌≡◌, drop}
use Rattle.bundle_wiring.specs.Wirings.{requirements_after}
use Rattle.bundle_wiring.proofs.capabilities.with_requirements.Given as goal

abbrev pub invariant-loop-clause : goal.invariant-loop-clause
invariant-loop-clause l = requirements_after l.needs.items (drop l.clause-index l.clauses) ≡ requirements_after l.initial.needs.items l.clauses
