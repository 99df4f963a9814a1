use Rattle.std.proofs.Common.{ap, true, ◌∙◌}
use Rattle.event_admin.specs.Inside.{pattern_end}
use Rattle.event_admin.proofs.Walks.{pattern_told}
use Rattle.event_admin.proofs.pattern.TopicPattern.parse.Goals as goal

pub returns-in-None-clause-fault : goal.returns-in-None-clause-fault
returns-in-None-clause-fault c = pattern_told c.args.text.now c.pattern_end.result (c.pattern_end.ensures ∙ ap (pattern_end true 0) c.as_bytes-in-None.ensures.value)
