use Rattle.script_shell.proofs.AllBuilt.{all_built}
use Rattle.script_shell.proofs.notes.note_all_built.Goals as goal

pub returns : goal.returns
returns c = all_built
