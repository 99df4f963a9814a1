use Rattle.scr_laws.proofs.AnswerLaws.{answers_true}
use Rattle.scr_laws.proofs.answers.note_answers.Goals as goal

pub returns : goal.returns
returns c = answers_true
