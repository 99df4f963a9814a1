-- The words on due callbacks under names that do not unfold where they are cited.
use Rattle.std.specs.Prelude.{List, map, Bool, false, Option}
use Rattle.std.specs.Option.{option_or}
use Rattle.callback_orders.specs.declared.due.DueRef.{DueRef}
use Rattle.callback_orders.specs.declared.instance_view.Key.{Key}
use Rattle.callback_orders.specs.declared.instance_view.Phase.{Phase}
use Rattle.callback_orders.specs.declared.instance_view.Phase.TheVariants.{Active}
use Rattle.callback_orders.specs.Due.{due_of}
use Rattle.prop_map.specs.Words.{first_some}
use Rattle.scr_world.specs.declared.instance.Instance.{Instance}
use Rattle.scr_world.specs.declared.step.Step.{Step}
use Rattle.scr_world.specs.declared.world.World.{World}
use Rattle.scr_world.specs.Dues.{due_in, next_begin}
use Rattle.scr_world.specs.Views.{view_as, view_of}
use Rattle.scr_world.specs.Wanted.{missing}

-- what is due for an instance, where it is in a phase, and ends or doesn't
unfoldable pub due_as : Phase → Bool → World → Instance → Option DueRef
due_as phase ending w i = due_of (view_as phase ending w i)

-- what is due for an instance
unfoldable pub due_for : World → Instance → Option DueRef
due_for w i = due_of (view_of w i)

-- the first that is due for one of these instances
abbrev pub due_among : World → List Instance → Option DueRef
due_among w is = first_some (map (due_for w) is)

-- the first that is due for an instance, the whiteboard's before the others
abbrev pub due_of_all : World → Option DueRef
due_of_all w = option_or (due_as Active false w w.whiteboard) (due_among w w.instances)

unfoldable pub missing_keys : World → List Key
missing_keys w = missing w

unfoldable pub first_due_in : World → Option DueRef
first_due_in w = due_in w

unfoldable pub next_step : World → Option Step
next_step w = next_begin w
