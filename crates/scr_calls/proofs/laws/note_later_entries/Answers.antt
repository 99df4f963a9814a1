use Rattle.std.proofs.Common.{◌++◌, sym, ◌∙◌}
use Rattle.call_moves.specs.Evaluations.{begun, fronts_of}
use Rattle.call_moves.proofs.Agreements.{all_agree}
use Rattle.scr_calls.specs.Evaluates.{reaching, world_up_to}
use Rattle.scr_calls.proofs.Worlds.{same_reached, same_world}
use Rattle.scr_calls.proofs.laws.note_later_entries.Goals as goal

pub returns-clause-worlds : goal.returns-clause-worlds
returns-clause-worlds c = λ journal more front low. same_world journal more front low

pub returns-clause-calls : goal.returns-clause-calls
returns-clause-calls c = λ journal more next live request nested end from rising evaluates.
    sym (all_agree (reaching (world_up_to journal)) (reaching (world_up_to (journal ++ more))) next 130 (begun live.instance live.site request (fronts_of nested))
    (same_reached journal more from (fronts_of nested) rising)) ∙ evaluates
