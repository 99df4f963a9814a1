use Rattle.scr_laws.proofs.FewNumbers.{few_numbers}
use Rattle.scr_laws.proofs.numbers.note_few_numbers.Goals as goal

pub returns : goal.returns
returns c = few_numbers
