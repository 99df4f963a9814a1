-- Gates that move with the journal. Our own.
use Rattle.std.specs.Prelude.{Option, Some, None}
use Rattle.gate_keeper.specs.Keepers.{KeeperView, reopened}
use Rattle.journal_core.specs.declared.entry.GateKey.{GateKey}

-- the gate of this key is open again, if there is one
abbrev pub reopened_if : Option GateKey → KeeperView → KeeperView
reopened_if None k = k
reopened_if (Some key) k = reopened key k
