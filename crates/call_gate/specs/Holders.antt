-- What callers and the keeper hold. Our own.
use Rattle.atomic_table.specs.Seated.{TableId}
use Rattle.journal_core.specs.declared.entry.GateKey.{GateKey}

-- a key of a table of gates
pub record HeldKey : Type 0 where
  pub gate : TableId
  pub key : GateKey

abbrev pub held : TableId → GateKey → HeldKey
held gate key = record { gate = gate; key = key }
