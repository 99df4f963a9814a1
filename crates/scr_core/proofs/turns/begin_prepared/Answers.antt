use Rattle.std.proofs.Common.{◌∙◌, subst}
use Rattle.scr_core.proofs.Begun.{next_may, next_still}
use Rattle.scr_core.proofs.Lines.{begun_lines}
use Rattle.scr_core.proofs.Taking.{next_number, taken}
use Rattle.scr_world.specs.Calls.{Takes}
use Rattle.scr_core.proofs.turns.begin_prepared.Goals as goal

pub grow_still-requires-clause-shuts : goal.grow_still-requires-clause-shuts
grow_still-requires-clause-shuts c = next_still c.args.state.now.world c.args.step.value c.requires.next

pub grow_still-requires-clause-may : goal.grow_still-requires-clause-may
grow_still-requires-clause-may c = next_may c.args.state.now.world c.args.step.value c.requires.next

pub returns-in-Ok-clause-keeps : goal.returns-in-Ok-clause-keeps
returns-in-Ok-clause-keeps c = record {
  its_limit = c.in-Ok.ensures.limit ∙ c.requires.keeps.its_limit;
  state = c.in-Ok.ensures.keeps;
  told = c.push_reserved.ensures.items
      ∙ begun_lines c.args.journal.now.limit c.args.journal.now.entries c.grow_still.new.journal.entries c.args.step.value c.args.state.now.world c.args.prepared.line c.args.lines.now.items
      c.requires.keeps.state.world c.requires.prepared.line c.requires.keeps.told c.in-Ok.ensures.grown;
}

pub returns-in-Ok-clause-answer : goal.returns-in-Ok-clause-answer
returns-in-Ok-clause-answer c = (
  c.new.ensures,
  next_number c.args.journal.now c.args.state.now c.requires.keeps.state c.args.step.value c.requires.next c.args.prepared c.requires.prepared c.grow_still.new.journal.entries c.in-Ok.ensures.grown,
  subst (λ l. Takes l c.args.journal.now.entries c.args.prepared.work c.grow_still.new.journal.entries) c.requires.keeps.its_limit
      (taken c.args.journal.now c.args.state.now c.requires.keeps.state c.args.step.value c.requires.next c.args.prepared c.requires.prepared c.grow_still.new.journal.entries c.in-Ok.ensures.grown),
)
