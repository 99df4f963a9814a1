-- What a keeper over a database shows. Our own.
use Rattle.std.specs.Prelude.{ℕ}
use Rattle.world_keeper.specs.declared.kept.Kept.{Kept}

-- what it keeps, and how often it has failed
pub record StoredWorld : Type 0 where
  pub kept : Kept
  pub fault_count : ℕ
