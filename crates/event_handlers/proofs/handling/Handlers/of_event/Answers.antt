use Rattle.std.proofs.Common.{◌∙◌}
use Rattle.event_handlers.proofs.Answering.{told_numbers}
use Rattle.event_handlers.proofs.handling.Handlers.of_event.Goals as goal

pub returns : goal.returns
returns c = λ rows are. told_numbers c.args.event.now rows _ _ _ _ _ c.in_ok-numbers.ensures c.in_ok-ranks.ensures c.topic.ensures c.in_ok-told.ensures (c.as_slice.ensures.value ∙ c.self.view_is ∙ are)
