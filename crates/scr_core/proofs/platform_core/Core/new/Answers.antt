use Rattle.std.proofs.Common.{◌∙◌, ap, subst, sym}
use Rattle.journal_core.specs.Rooms.{JournalRows}
use Rattle.scr_dues.specs.declared.making.Making.{Making}
use Rattle.scr_dues.specs.Makings.{IsThatFar}
use Rattle.scr_dues.proofs.KnownPlaces.{nothing_far}
use Rattle.scr_state.specs.Keeps.{Keeps}
use Rattle.scr_world.specs.Steps.{history_of}
use Rattle.scr_world.specs.TurnLines.{turn_lines}
use Rattle.scr_world.specs.declared.step.Step.{Step}
use Rattle.scr_core.proofs.WiredJournals.{first_kept}
use Rattle.scr_core.proofs.platform_core.Core.new.Goals as goal

pub invariant_of-result : goal.invariant_of-result
invariant_of-result c = (
  record {
    its_limit = ap (λ (j : JournalRows Step). j.limit) c.new-journal.ensures;
    state = subst (λ (j : JournalRows Step). Keeps j c.in_ok-state.state) (sym c.new-journal.ensures) (c.in_ok-state.ensures c.args.limits.journal c.requires.within.journal);
    told = c.new-lines.ensures.items ∙ sym (ap (λ (j : JournalRows Step). turn_lines (history_of j.entries)) c.new-journal.ensures);
  },
  c.requires.within,
  subst (λ (m : Making). IsThatFar c.in_ok-state.state.world m) (sym c.none-making.ensures) (nothing_far c.in_ok-state.state.world),
  first_kept c.args.limits.journal c.in_ok-state.state c.new-wirings.result (c.in_ok-state.ensures c.args.limits.journal c.requires.within.journal) c.new-wirings.ensures,
)
