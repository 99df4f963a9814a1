use Rattle.scr_laws.proofs.GateKeyLaws.{generations_numbered, keys_differ_in}
use Rattle.scr_laws.proofs.gate_keys.note_gate_keys.Goals as goal

pub returns-clause-generations : goal.returns-clause-generations
returns-clause-generations c = generations_numbered

pub returns-clause-different : goal.returns-clause-different
returns-clause-different c = keys_differ_in
