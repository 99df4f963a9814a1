-- A keeper in memory, which fails in the calls that are listed. Our own.
use Rattle.std.specs.Prelude.{ℕ, List, if◌then◌else◌}
use Rattle.fault_count.specs.Memory.{is_listed}
use Rattle.fault_count.specs.Steps.{next_count}
use Rattle.world_keeper.specs.declared.kept.Kept.{Kept}

-- what a keeper in memory keeps, the numbers of the calls that are to fail, how many calls there were, and how many
-- failed
pub record MemoryWorld : Type 0 where
  pub kept : Kept
  pub failing : List ℕ
  pub calls : ℕ
  pub fault_count : ℕ

-- after a call that keeps nothing more
abbrev pub after_call : MemoryWorld → MemoryWorld
after_call world = record world {
  calls = next_count world.calls;
  fault_count = if is_listed world.failing world.calls then next_count world.fault_count else world.fault_count;
}
