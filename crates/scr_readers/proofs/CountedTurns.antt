-- The turns of a legal journal are numbered from 1 on.
use Rattle.std.proofs.Common.{◌≡◌, ℕ, ◌+◌, suc, length, List, [], ◌∷◌, ◌++◌, refl, ap, ◌∙◌, Bool, true, false, cond, Some, arith}
use Rattle.std.specs.Prelude.{map, ◌==◌}
use Rattle.callback_orders.specs.declared.callback.Outcome.{Outcome}
use Rattle.scr_laws.proofs.Numbering.{next_turn}
use Rattle.scr_readers.specs.Turns.{AreCounted}
use Rattle.scr_world.specs.Legal.{IsLegal, MayCome}
use Rattle.scr_world.specs.Lists.{world_after_entry, world_of}
use Rattle.scr_world.specs.Steps.{History}
use Rattle.scr_world.specs.Stepping.{begins_by, world_after_step}
use Rattle.scr_world.specs.TurnLines.{ended_line, lines_by, turn_lines}
use Rattle.scr_world.specs.declared.lines.TurnLine.{TurnLine}
use Rattle.scr_world.specs.declared.step.Step.{Step}
use Rattle.scr_world.specs.declared.step.Step.TheVariants.{Command as Commanded, Begin, End, Drained, Got, Released}
use Rattle.scr_world.specs.declared.world.World.{World}

counted_more : (n : ℕ) (lines : List TurnLine) (line : TurnLine) → AreCounted n lines → line.turn ≡ n + length lines → AreCounted n (lines ++ line ∷ [])
counted_more n [] line counted next = ((let here : line.turn ≡ n = omega (arith, next) in here), tt)
counted_more n (l ∷ lines) line counted next = (counted.0, counted_more (n + 1) lines line counted.1 (omega (arith, next)))

ended_turn : (turn : ℕ) (outcome : Outcome) (line : TurnLine) → (ended_line turn outcome line).turn ≡ line.turn
ended_turn turn outcome line = go (line.turn == turn)
  where
    go : (b : Bool) → (cond b (record line { outcome = Some outcome }) line).turn ≡ line.turn
    go true = refl
    go false = refl

counted_ended : (n turn : ℕ) (outcome : Outcome) (lines : List TurnLine) → AreCounted n lines → AreCounted n (map (ended_line turn outcome) lines)
counted_ended n turn outcome [] counted = tt
counted_ended n turn outcome (l ∷ lines) counted = (ended_turn turn outcome l ∙ counted.0, counted_ended (n + 1) turn outcome lines counted.1)

length_ended : (turn : ℕ) (outcome : Outcome) (lines : List TurnLine) → length (map (ended_line turn outcome) lines) ≡ length lines
length_ended turn outcome [] = refl
length_ended turn outcome (l ∷ lines) = ap (λ n. suc n) (length_ended turn outcome lines)

length_more : (lines : List TurnLine) (line : TurnLine) → length (lines ++ line ∷ []) ≡ length lines + 1
length_more [] line = refl
length_more (l ∷ lines) line = let more = length_more lines line in omega (arith, more)

record Numbers (lines : List TurnLine) (turns : ℕ) : Type 0 where
  counted : AreCounted 1 lines
  all : length lines ≡ turns

numbers_then : (step : Step) (w : World) (lines : List TurnLine) → MayCome w step → Numbers lines w.turns_begun → Numbers (lines_by step w lines) (w.turns_begun + begins_by step)
numbers_then (Commanded command) w lines may are = record { counted = are.counted; all = omega (arith, are.all) }
numbers_then (Begin turn instance configuration consumer callback chosen) w lines may are =
    let next = next_turn w turn instance configuration consumer callback chosen may in
    record { counted = counted_more 1 lines _ are.counted (omega (arith, next, are.all)); all = length_more lines _ ∙ ap (λ n. n + 1) are.all }
numbers_then (End turn outcome) w lines may are =
    record { counted = counted_ended 1 turn outcome lines are.counted; all = let same = length_ended turn outcome lines in omega (arith, are.all, same) }
numbers_then (Drained instance) w lines may are = record { counted = are.counted; all = omega (arith, are.all) }
numbers_then (Got bundle service) w lines may are = record { counted = are.counted; all = omega (arith, are.all) }
numbers_then (Released place) w lines may are = record { counted = are.counted; all = omega (arith, are.all) }

numbers_legal : (limit : ℕ) (past : History) → IsLegal limit past → Numbers (turn_lines past) (world_of past).turns_begun
unfolding world_of world_after_entry world_after_step
numbers_legal limit [] legal = record { counted = tt; all = refl }
numbers_legal limit (entry ∷ past) legal = numbers_then entry.step (world_of past) (turn_lines past) legal.0.step (numbers_legal limit past legal.1)

pub counted_legal : (limit : ℕ) (past : History) → IsLegal limit past → AreCounted 1 (turn_lines past)
counted_legal limit past legal = (numbers_legal limit past legal).counted
