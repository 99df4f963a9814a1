use Rattle.std.proofs.Common.{sym, ◌∙◌}
use Rattle.call_moves.specs.Evaluations.{begun, fronts_of}
use Rattle.call_moves.proofs.Agreements.{all_agree}
use Rattle.call_moves.proofs.laws.note_other_worlds.Goals as goal

pub returns : goal.returns
returns c = λ reaches others next instance site request nested end agree comes.
    sym (all_agree reaches others next 130 (begun instance site request (fronts_of nested)) agree) ∙ comes
