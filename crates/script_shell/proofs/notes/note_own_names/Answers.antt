use Rattle.script_shell.proofs.NamesKept.{asks_named, new_named, ran_named}
use Rattle.script_shell.proofs.notes.note_own_names.Goals as goal

pub returns : goal.returns
returns c = record { new = new_named; asks = asks_named; ran = ran_named }
