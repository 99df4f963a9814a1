-- How far a call has come, whatever fronts are to come. Our own.
use Rattle.std.specs.Prelude.{◌≡◌, ℕ, List, ◌++◌}
use Rattle.turn_work.specs.declared.site.Site.{Site}
use Rattle.kind_trait.specs.Meanings.{Move, Refuses, Answers, Calls}
use Rattle.call_moves.specs.declared.nested_call.NestedCall.{NestedCall}
use Rattle.call_moves.specs.Evaluations.{Meaning, Reaching, Ended, Said, Declined, Frame, Runs, after_moves, begun, fronts_of}

-- what component code does next in the call that runs
abbrev pub next_move : Meaning → Frame → Move
next_move next f = next f.asking.class f.asking.properties f.asking.request f.asking.replies

-- a move ends a call so
abbrev pub EndsBy : Move → Ended → Type 0
EndsBy (Answers text) end = end ≡ Said text
EndsBy Refuses end = end ≡ Declined
EndsBy (Calls reference request) end = ⊥

-- A request to an instance has come to these calls that wait, the last first, and this one that runs, with these nested calls so far, each decided at
-- its front.
abbrev pub HasCome : Reaching → Meaning → ℕ → Site → List ℕ → List Frame → Frame → List NestedCall → Type 0
HasCome reaches next instance site request waiting f nested =
    (moves : ℕ)
    × ((later : List ℕ) → after_moves reaches next moves (begun instance site request (fronts_of nested ++ later)) ≡ Runs waiting f nested later)
