-- What is reserved in the journal, read off its entries. Our own.
use Rattle.std.specs.Prelude.{◌≡◌, ℕ, ◌+◌, ◌==◌, ◌&&◌, Bool, false, true, not, map, sum, length, None}
use Rattle.std.specs.List.{Contains, list_any}
use Rattle.callback_orders.specs.Sequences.{is_outstanding}
use Rattle.journal_core.specs.declared.entry.Entry.{Entry}
use Rattle.scr_laws.specs.Callbacks.{callbacks_told}
use Rattle.scr_world.specs.Instances.{is_activated}
use Rattle.scr_world.specs.Legal.{is_under_way}
use Rattle.scr_world.specs.Lists.{world_of}
use Rattle.scr_world.specs.Room.{reserved}
use Rattle.scr_world.specs.Steps.{History}
use Rattle.scr_world.specs.TurnLines.{turn_lines}
use Rattle.scr_world.specs.Worlds.{all_instances}
use Rattle.scr_world.specs.declared.instance.Instance.{Instance}
use Rattle.scr_world.specs.declared.lines.TurnLine.{TurnLine}
use Rattle.scr_world.specs.declared.step.Step.{Step}
use Rattle.scr_world.specs.declared.step.Step.TheVariants.{Drained}
use Rattle.prop_map.specs.Words.{one_if}

-- the step posts the drain of an instance
abbrev pub drains : ℕ → Step → Bool
drains number (Drained instance) = instance == number
drains number _ = false

-- the drain of an instance stands in a journal
abbrev pub has_drain : History → ℕ → Bool
has_drain journal number = list_any (λ (entry : Entry Step). drains number entry.step) journal

-- for an instance, by the turns and drains of a journal: the end of its turn that has none, and its drain, where its Activate was begun and hasn't failed,
-- until that stands in the journal
abbrev pub reserved_by : History → ℕ → ℕ
reserved_by journal number =
    one_if (is_outstanding (callbacks_told number (turn_lines journal))) + one_if (is_activated (callbacks_told number (turn_lines journal)) && not (has_drain journal number))

-- what is reserved is so much for each living instance, that of the whiteboard too, and the release of each get by token; and a turn that has no end is
-- under way for a living instance, so that the ends of all turns are among these
pub record IsReservedBy (journal : History) : Type 0 where
  pub count : reserved (world_of journal) ≡ sum (map (λ (i : Instance). reserved_by journal i.number) (all_instances (world_of journal))) + length (world_of journal).tokens
  pub turns : (line : TurnLine) → Contains (turn_lines journal) line → line.outcome ≡ None → is_under_way (world_of journal) line.turn ≡ true
