use Rattle.scr_laws.proofs.LastGenerations.{last_generations}
use Rattle.scr_laws.proofs.gates.note_generations.Goals as goal

pub returns : goal.returns
returns c = last_generations
