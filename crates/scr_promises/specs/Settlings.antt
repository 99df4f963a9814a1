-- A stretch of a journal in which a platform settles: turns begin and end, gates are drained, and no command comes. Our own.
use Rattle.std.specs.Prelude.{◌≡◌, ℕ, ◌&&◌, ◌||◌, [], ◌∷◌, ◌++◌, Bool, true, false, not, Some, ⊤}
use Rattle.std.specs.List.{Contains, list_all}
use Rattle.callback_orders.specs.declared.callback.Outcome.{Outcome}
use Rattle.callback_orders.specs.Grammar.{is_activate, is_create}
use Rattle.callback_orders.specs.Sequences.{is_done}
use Rattle.journal_core.specs.declared.entry.Entry.{Entry}
use Rattle.scr_world.specs.declared.instance.Instance.{Instance}
use Rattle.scr_world.specs.declared.step.Step.{Step}
use Rattle.scr_world.specs.declared.step.Step.TheVariants.{Command as Commanded, Begin, End, Drained, Got, Released}
use Rattle.scr_world.specs.declared.world.World.{World}
use Rattle.scr_world.specs.Instances.{has_turn, last_is}
use Rattle.scr_world.specs.Lists.{world_of}
use Rattle.scr_world.specs.Steps.{History}

-- where the turn of an instance is that of a Create or an Activate it ends Done
abbrev pub ends_well : ℕ → Outcome → Instance → Bool
ends_well turn outcome i = not (has_turn turn i && (last_is is_create i.callbacks || last_is is_activate i.callbacks)) || is_done (Some outcome)

-- the beginning of a turn, its end, or a drain; no creation or activation ends by it other than Done
abbrev pub is_settling : Step → World → Bool
is_settling (Commanded command) w = false
is_settling (Begin turn instance configuration consumer callback chosen) w = true
is_settling (End turn outcome) w = list_all (ends_well turn outcome) w.instances
is_settling (Drained instance) w = true
is_settling (Got bundle service) w = false
is_settling (Released place) w = false

-- behind a journal come such entries alone
abbrev pub OnlySettles : History → History → Type 0
OnlySettles past [] = ⊤
OnlySettles past (entry ∷ entries) = (is_settling entry.step (world_of (entries ++ past)) ≡ true) × OnlySettles past entries

-- no entry closes a component configuration
abbrev pub NothingCloses : History → Type 0
NothingCloses entries = (entry : Entry Step) → Contains entries entry → entry.closed ≡ []
