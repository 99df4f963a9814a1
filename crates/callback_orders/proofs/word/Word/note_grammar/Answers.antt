use Rattle.callback_orders.proofs.SequenceLaws.{is_sequence-means, is_whiteboard_sequence-means}
use Rattle.callback_orders.proofs.word.Word.note_grammar.Goals as goal

pub returns : goal.returns
returns c = record { instance = is_sequence-means; whiteboard = is_whiteboard_sequence-means }
