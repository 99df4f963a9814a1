use Rattle.event_admin.proofs.Walks.{topic_told}
use Rattle.event_admin.proofs.reading.topic_end.Goals as goal

pub returns : goal.returns
returns c = topic_told c.args.text.now c.walked.result c.walked.ensures
