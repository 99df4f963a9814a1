-- Room in the journal: the entries that are reserved for what has begun. Our own.
use Rattle.std.specs.Prelude.{ℕ, ◌+◌, ◌&&◌, Bool, not, map, sum, length, nat_le, if◌then◌else◌}
use Rattle.prop_map.specs.Words.{one_if}
use Rattle.callback_orders.specs.Sequences.{is_outstanding}
use Rattle.scr_world.specs.declared.step.Step.{Step}
use Rattle.scr_world.specs.declared.step.Step.TheVariants.{Command as Commanded, Begin, End, Drained, Got, Released}
use Rattle.scr_world.specs.declared.instance.Instance.{Instance}
use Rattle.callback_orders.specs.Grammar.{is_activate}
use Rattle.scr_world.specs.Instances.{is_activated}
use Rattle.scr_world.specs.declared.world.World.{World}
use Rattle.scr_world.specs.Worlds.{all_instances}

-- reserved for an instance are the end of its turn that is under way, and its drain from the beginning of its Activate on
abbrev pub reserved_for : Instance → ℕ
reserved_for i = one_if (is_outstanding i.callbacks) + one_if (is_activated i.callbacks && not i.drained)

-- and the release of each get by token
abbrev pub reserved : World → ℕ
reserved w = sum (map reserved_for (all_instances w)) + length w.tokens

-- how many entries a step needs that isn't itself reserved: at an Activate its end and its drain are reserved with it, at any other turn its end, at a
-- get by token its release
abbrev pub needed_by : Step → ℕ
needed_by (Commanded command) = 1
needed_by (Begin turn instance configuration consumer callback chosen) = if is_activate callback then 3 else 2
needed_by (End turn outcome) = 0
needed_by (Drained instance) = 0
needed_by (Got bundle service) = 2
needed_by (Released place) = 0

-- the journal has room for so many entries beside those that are reserved
unfoldable pub has_room : ℕ → World → ℕ → Bool
has_room limit w entries = nat_le (w.entries + reserved w + entries) limit
