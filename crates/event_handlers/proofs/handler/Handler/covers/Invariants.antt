use Rattle.std.proofs.Common.{◌≡◌, drop}
use Rattle.event_admin.specs.TopicTexts.{text_of}
use Rattle.event_handlers.specs.Kept.{kept_covers}
use Rattle.event_handlers.proofs.handler.Handler.covers.Given as goal

abbrev pub invariant-loop-pattern : goal.invariant-loop-pattern
invariant-loop-pattern l = kept_covers (text_of l.topic) l.self.patterns ≡ kept_covers (text_of l.topic) (drop l.pattern-index l.pattern-items)
