use Rattle.std.proofs.Common.{◌∙◌, List, subst, sym}
use Rattle.scr_readers.proofs.CountedTurns.{counted_legal}
use Rattle.scr_readers.specs.Turns.{AreCounted}
use Rattle.scr_world.specs.Steps.{history_of}
use Rattle.scr_world.specs.declared.lines.TurnLine.{TurnLine}
use Rattle.scr_core.proofs.platform_core.Core.trace.Goals as goal

pub turns_above-requires : goal.turns_above-requires
turns_above-requires c =
    subst (λ (lines : List TurnLine). AreCounted 1 lines) (sym (c.deref.ensures.value ∙ c.self.invariant.0.told))
    (counted_legal c.self.inside.journal.limit (history_of c.self.inside.journal.entries) c.self.invariant.0.state.legal)
