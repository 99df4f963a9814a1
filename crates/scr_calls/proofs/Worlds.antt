-- Entries that come later change no world at a length that was there.
use Rattle.std.proofs.Common.{◌≡◌, ℕ, ◌≤◌, List, [], ◌∷◌, ◌++◌, length, ap, sym, arith}
use Rattle.std.proofs.lemmas.List.{take-append-le}
use Rattle.journal_core.specs.declared.entry.Entry.{Entry}
use Rattle.call_moves.specs.Evaluations.{Whom}
use Rattle.call_moves.specs.Fronts.{Agree}
use Rattle.scr_world.specs.declared.step.Step.{Step}
use Rattle.scr_world.specs.declared.world.World.{World}
use Rattle.scr_world.specs.Calls.{world_at}
use Rattle.scr_readers.specs.Reaching.{inward}
use Rattle.scr_calls.specs.Evaluates.{Rising, reaching, whom, world_up_to}

pub same_world : (journal more : List (Entry Step)) (front : ℕ) → front ≤ length journal → world_up_to (journal ++ more) front ≡ world_up_to journal front
same_world journal more front low = ap world_at (take-append-le front journal more low)

not_above : (from to : ℕ) (fronts : List ℕ) → Rising from fronts to → from ≤ to
not_above from to [] rising = rising
not_above from to (front ∷ fronts) rising = let a = rising.0 in let b = not_above front to fronts rising.1 in omega arith

-- nested calls reach the same
pub same_reached : (journal more : List (Entry Step)) (from : ℕ) (fronts : List ℕ) → Rising from fronts (length journal) → Agree (reaching (world_up_to journal)) (reaching (world_up_to (journal ++ more))) fronts
same_reached journal more from [] rising = tt
same_reached journal more from (front ∷ fronts) rising =
    let reached : World → ℕ → List ℕ → Whom = λ w instance reference. whom (inward w instance reference) in
    (ap reached (sym (same_world journal more front (not_above front (length journal) fronts rising.1))), same_reached journal more front fronts rising.1)
