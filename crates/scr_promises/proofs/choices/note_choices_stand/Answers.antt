use Rattle.scr_promises.proofs.ChoiceLaws.{choices_stand}
use Rattle.scr_promises.proofs.choices.note_choices_stand.Goals as goal

pub returns : goal.returns
returns c = choices_stand
