use Rattle.scr_laws.proofs.KeyLaws.{keys_one}
use Rattle.scr_laws.proofs.keys.note_keys.Goals as goal

pub returns : goal.returns
returns c = keys_one
