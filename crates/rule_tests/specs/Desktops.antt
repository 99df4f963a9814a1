-- A desk in memory (our own).
use Rattle.std.specs.Arc.{arc_value}
use Rattle.std.specs.Prelude.{ℕ, ◌==◌, ◌-◌, List, [], ◌∷◌, ◌++◌, Bool, true, false, not, ◌&&◌, ◌≡◌, Option, Some, None, is_none, if◌then◌else◌, option_map}
use Rattle.std.specs.List.{find, list_any}
use Rattle.callback_orders.specs.declared.callback.Outcome.{Outcome}
use Rattle.turn_runner.specs.declared.came.Came.{Came}
use Rattle.turn_runner.specs.declared.turn.Ran.{Ran}
use Rattle.turn_work.specs.declared.work.TurnWork.{TurnWork}
use Rattle.rule_tests.specs.declared.memory_desk.Ended.{Ended}
use Rattle.rule_tests.specs.declared.memory_desk.Held.{Held}
use Rattle.turn_runner.specs.Outcomes.{needs_object}

-- the turns to come, how many more may begin, the turn under way, what is kept of it, the objects of the instances, the turns that ended, and whether a drain is due
pub record Desktop (O : Type 0) : Type 0 where
  pub turns_to_come : List TurnWork
  pub room : ℕ
  pub under_way : Option TurnWork
  pub kept : Option (Ran O)
  pub held : List (Held O)
  pub ended : List Ended
  pub drain : Bool

abbrev pub is_holder : {O : Type 0} → List (Held O) → ℕ → Bool
is_holder held instance = list_any (λ one. one.instance == instance) held

-- the object that was put back first for an instance
abbrev pub object_of : {O : Type 0} → List (Held O) → ℕ → Option O
object_of held instance = option_map (λ one. arc_value one.object) (find (λ one. one.instance == instance) held)

-- the instance has an object exactly where the turn needs one
abbrev pub fits : {O : Type 0} → List (Held O) → TurnWork → Bool
fits held work = if needs_object work then is_holder held work.instance else not (is_holder held work.instance)

abbrev pub first_fits : {O : Type 0} → List (Held O) → List TurnWork → Bool
first_fits held [] = false
first_fits held (work ∷ later) = fits held work

-- the first turn to come is due where no turn is under way and it fits
abbrev pub is_due : {O : Type 0} → Desktop O → Bool
is_due desk = is_none desk.under_way && first_fits desk.held desk.turns_to_come

abbrev pub with_number : ℕ → Option TurnWork → Option TurnWork
with_number number None = None
with_number number (Some work) = if work.number == number then Some work else None

-- what is kept of the turn under way, with its work
abbrev pub came_of : {O : Type 0} → Option TurnWork → Option (Ran O) → Option (Came O)
came_of None kept = None
came_of (Some work) None = None
came_of (Some work) (Some ran) = Some (record { work = work; ran = ran })

abbrev pub kept_of : {O : Type 0} → Desktop O → ℕ → Option (Came O)
kept_of desk number = came_of (with_number number desk.under_way) desk.kept

-- the first turn to come begins
abbrev pub Begins : {O : Type 0} → Desktop O → TurnWork → Desktop O → Type 0
Begins before work after = (before.turns_to_come ≡ work ∷ after.turns_to_come) × (after ≡ record before { turns_to_come = after.turns_to_come; room = before.room - 1; under_way = Some work; kept = None })

-- what the turn under way came to is kept
abbrev pub Keeps : {O : Type 0} → Desktop O → Came O → Desktop O → Type 0
Keeps before came after = after ≡ record before { kept = Some came.ran }

-- the turn under way ends, and a drain is due
abbrev pub EndsAs : {O : Type 0} → Desktop O → ℕ → Outcome → Desktop O → Type 0
EndsAs before number outcome after = after ≡ record before { under_way = None; kept = None; held = after.held; ended = before.ended ++ record { number = number; outcome = outcome } ∷ []; drain = true }

abbrev pub Posts : {O : Type 0} → Desktop O → Desktop O → Type 0
Posts before after = after ≡ record before { drain = false }
