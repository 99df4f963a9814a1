use Rattle.std.proofs.Common.{◌≡◌, take}
use Rattle.event_admin.specs.TopicTexts.{text_of}
use Rattle.event_handlers.specs.Kept.{ranks_of}
use Rattle.event_handlers.proofs.handling.ranks_of.Given as goal

abbrev pub invariant-loop-handler : goal.invariant-loop-handler
invariant-loop-handler l = l.ranks.items ≡ ranks_of (text_of l.topic) l.told (take l.handler-index l.handlers)
