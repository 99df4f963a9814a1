-- A call that is over has one outcome.
use Rattle.std.proofs.Common.{◌≡◌, ℕ, List, refl, sym, ap, ◌∙◌}
use Rattle.call_moves.specs.declared.nested_call.NestedCall.{NestedCall}
use Rattle.call_moves.specs.Evaluations.{Calling, Runs, Over, Starved, Ended}
use Rattle.call_moves.specs.Recursion.{Outcome, Ends, Lacks, as_over}

abbrev outcome_of : Calling → Outcome
outcome_of (Runs waiting f nested fronts) = Lacks
outcome_of (Over nested end fronts) = Ends nested end fronts
outcome_of Starved = Lacks

outcome_back : (o : Outcome) → outcome_of (as_over o) ≡ o
outcome_back (Ends nested end fronts) = refl
outcome_back Lacks = refl

pub one_outcome : (o : Outcome) (nested : List NestedCall) (end : Ended) (fronts : List ℕ) → as_over o ≡ Over nested end fronts → o ≡ Ends nested end fronts
one_outcome o nested end fronts over = sym (outcome_back o) ∙ ap outcome_of over
