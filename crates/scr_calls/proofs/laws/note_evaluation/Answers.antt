use Rattle.std.proofs.Common.{[], ap, sym, ◌∙◌, arith}
use Rattle.call_moves.specs.Evaluations.{asked_of, fronts_of}
use Rattle.call_moves.specs.Recursion.{as_over, evaluate}
use Rattle.call_moves.proofs.Recursions.{is_recursion}
use Rattle.scr_calls.specs.Evaluates.{reaching}
use Rattle.scr_calls.proofs.Outcomes.{one_outcome}
use Rattle.scr_calls.proofs.laws.note_evaluation.Goals as goal

pub returns-clause-forth : goal.returns-clause-forth
returns-clause-forth c = λ world next live request nested end evaluates.
    one_outcome (evaluate (reaching world) next 65 0 live.instance (asked_of live.site request) [] (fronts_of nested)) nested end []
    (sym (is_recursion (reaching world) next 65 130 live.instance live.site request (fronts_of nested) (omega arith) (omega arith)) ∙ evaluates)

pub returns-clause-back : goal.returns-clause-back
returns-clause-back c = λ world next live request nested end ends.
    is_recursion (reaching world) next 65 130 live.instance live.site request (fronts_of nested) (omega arith) (omega arith) ∙ ap as_over ends
