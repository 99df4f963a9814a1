-- What is reserved in the journal, counted by its entries. Our own.
use Rattle.std.specs.Prelude.{ℕ, ◌+◌, ◌&&◌, List, filter, not, Bool, Some, if◌then◌else◌}
use Rattle.std.specs.List.{list_any}
use Rattle.callback_orders.specs.Grammar.{is_activate}
use Rattle.callback_orders.specs.Sequences.{is_failed}
use Rattle.journal_core.specs.declared.entry.Entry.{Entry}
use Rattle.scr_world.specs.Instances.{has_turn, last_is}
use Rattle.scr_world.specs.Lists.{is_active_bundle, world_after_entry}
use Rattle.scr_world.specs.Tables.{tokens_by}
use Rattle.scr_world.specs.Worlds.{all_instances, is_registered}
use Rattle.scr_world.specs.declared.instance.Instance.{Instance}
use Rattle.scr_world.specs.declared.marks.Token.{Token}
use Rattle.scr_world.specs.declared.step.Step.{Step}
use Rattle.scr_world.specs.declared.step.Step.TheVariants.{Command as Commanded, Begin, End, Drained, Got, Released}
use Rattle.scr_world.specs.declared.world.World.{World}
use Rattle.prop_map.specs.Words.{one_if}

-- how many entries a step reserves: a turn's end, at an Activate the drain too, the release of a get by token
abbrev pub reserved_with : Step → ℕ
reserved_with (Commanded command) = 0
reserved_with (Begin turn instance configuration consumer callback chosen) = if is_activate callback then 2 else 1
reserved_with (End turn outcome) = 0
reserved_with (Drained instance) = 0
reserved_with (Got bundle service) = 1
reserved_with (Released place) = 0

-- the turn is that of an Activate
abbrev pub activates_by : ℕ → Instance → Bool
activates_by turn i = has_turn turn i && last_is is_activate i.callbacks

-- how many it gives back: its own entry, and at the end of an Activate that failed the drain too
abbrev pub given_back_by : Step → World → ℕ
given_back_by (Commanded command) w = 0
given_back_by (Begin turn instance configuration consumer callback chosen) w = 0
given_back_by (End turn outcome) w = 1 + one_if (is_failed (Some outcome) && list_any (activates_by turn) (all_instances w))
given_back_by (Drained instance) w = 1
given_back_by (Got bundle service) w = 0
given_back_by (Released place) w = 1

-- a get stands as long as its service is registered and its bundle is active
abbrev pub stands_for : World → ℕ → ℕ → Bool
stands_for w service bundle = is_registered w service && is_active_bundle w bundle

abbrev pub stands_in : World → Token → Bool
stands_in w t = stands_for w t.service t.bundle

-- the gets by token that end with an entry, since their service or their bundle has left
abbrev pub tokens_dropped : Entry Step → World → List Token
tokens_dropped entry w = filter (λ (t : Token). not (stands_in (world_after_entry entry w) t)) (tokens_by entry.step w.entries w.tokens)
