use Rattle.std.proofs.Common.{rules}
use Rattle.call_gate.proofs.Keeps.{witnesses}
use Rattle.call_gate.proofs.gate.CallGate.witness.Goals as goal

pub split_seat-requires : goal.split_seat-requires
split_seat-requires c = (search rules, search rules, witnesses _ _ _)
