use Rattle.callback_orders.proofs.DueLemmas.{due_may_come}
use Rattle.callback_orders.proofs.EndLemmas.{is_sequence-ended, speaks_of-ended}
use Rattle.callback_orders.proofs.FrontLemmas.{all_but_last-pushed}
use Rattle.callback_orders.specs.Sequences.{begun}
use Rattle.callback_orders.proofs.word.Word.note_due.Goals as goal

pub returns : goal.returns
returns c = record {
  due = due_may_come;
  ended = is_sequence-ended;
  spoken = speaks_of-ended;
  taken_back = λ calls callback. all_but_last-pushed calls (begun callback);
}
