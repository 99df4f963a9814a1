-- Whose object a turn is told to. OSGi Compendium 8, section 112.5 (component life cycle) has the callbacks; instance 0 and turns are our own.
use Rattle.std.specs.Prelude.{Bool, not, ◌==◌, ◌||◌}
use Rattle.callback_orders.specs.Grammar.{is_create}
use Rattle.turn_work.specs.declared.work.TurnWork.{TurnWork}

-- an instance's callback is given to its object; instance 0 has none, and at a Create there is none yet
abbrev pub needs_object : TurnWork → Bool
needs_object work = not ((work.instance == 0) || is_create work.callback)
