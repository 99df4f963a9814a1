-- What doors do with the connections that are to come and with the sessions that have ended, where they tell these lists. Our own.
use Rattle.std.specs.Prelude.{◌≡◌, List, [], ◌∷◌, ◌++◌}
use Rattle.std.specs.declared.option.Option.{Option}
use Rattle.std.specs.declared.option.Option.TheVariants.{None, Some}
use Rattle.session_doors.specs.declared.doors.Door.{Door}
use Rattle.session_doors.specs.declared.doors.Door.TheVariants.{Come, Failed}

module _ {X : Type 0} where
  -- a list that is told stays as it was
  abbrev pub Stays : Option (List X) → Option (List X) → Type 0
  Stays None now = Unit {0}
  Stays (Some all) None = ⊥
  Stays (Some all) (Some left) = left ≡ all

  -- these are the first of a list that is told, and it has the others left
  abbrev pub TakesAll : Option (List X) → Option (List X) → List X → Type 0
  TakesAll None now firsts = Unit {0}
  TakesAll (Some all) None firsts = ⊥
  TakesAll (Some all) (Some left) firsts = all ≡ firsts ++ left

  -- these stand behind a list that is told, each once and in order
  abbrev pub AddsAll : Option (List X) → Option (List X) → List X → Type 0
  AddsAll None now lasts = Unit {0}
  AddsAll (Some all) None lasts = ⊥
  AddsAll (Some all) (Some more) lasts = more ≡ all ++ lasts

  -- this one does
  abbrev pub Adds : Option (List X) → Option (List X) → X → Type 0
  Adds before now last = AddsAll before now (last ∷ [])

module _ {I O : Type 0} where
  -- a connection that comes is the first of those that were to come, and a failure takes none
  abbrev pub Gives : Option (List (I × O)) → Option (List (I × O)) → Door I O → Type 0
  Gives before now (Come input output) = TakesAll before now ((input, output) ∷ [])
  Gives before now Failed = Stays before now

  abbrev pub IsCome : Door I O → Type 0
  IsCome (Come input output) = Unit {0}
  IsCome Failed = ⊥
