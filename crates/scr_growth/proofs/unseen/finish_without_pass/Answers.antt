use Rattle.std.proofs.Common.{◌∙◌, ap, subst, sym}
use Rattle.scr_growth.specs.Growths.{HasSettled}
use Rattle.scr_growth.specs.declared.settling.Lists.{Lists}
use Rattle.scr_growth.proofs.WithoutPass.{finished, passed, stops, world_is}
use Rattle.scr_laws.specs.Stills.{passed_nothing}
use Rattle.scr_world.specs.Calls.{world_at}
use Rattle.scr_world.specs.Consequences.{stage_of}
use Rattle.scr_growth.proofs.unseen.finish_without_pass.Goals as goal

pub settle-requires : goal.settle-requires
settle-requires c = record {
  pass = passed_nothing (stage_of c.args.step.value (world_at c.args.journal.now.entries));
  passed = passed c.args.journal.now c.args.step.value c.args.state.now c.args.undo.now c.args.told.now c.requires.amid c.requires.unseen;
  grows = c.requires.amid.grows;
  world = world_is c.args.journal.now c.args.step.value c.args.state.now c.args.undo.now c.args.told.now c.requires.amid c.requires.unseen;
  closed = ap (λ (l : Lists). l.closed) c.no_lists-lists.ensures;
  opened = ap (λ (l : Lists). l.opened) c.no_lists-lists.ensures;
  stopped = ap (λ (l : Lists). l.stopped) c.no_lists-lists.ensures
      ∙ sym (stops c.args.journal.now c.args.step.value c.args.state.now c.args.undo.now c.args.told.now c.requires.amid c.requires.unseen);
  cached = c.requires.amid.cached;
  before = record {
    registry = c.requires.amid.before.registry;
    periods = c.in-Ok-periods_for.ensures ∙ c.requires.amid.before.periods;
    held = c.requires.amid.before.held;
  };
  draining = c.requires.amid.told.draining;
}

pub returns-in-Ok-settle-clause-finished : goal.returns-in-Ok-settle-clause-finished
returns-in-Ok-settle-clause-finished c =
    finished c.args.journal.now c.args.step.value c.args.state.now c.args.undo.now c.args.told.now c.requires.amid c.requires.unseen
    c.settle.new.journal c.settle.new.state c.in-Ok-settle.shut
    (subst (λ (l : Lists). HasSettled c.args.journal.now c.args.step.value l c.args.state.now c.settle.new.journal c.settle.new.state c.in-Ok-settle.shut) c.no_lists-lists.ensures c.in-Ok-settle.ensures.settled)
    c.in-Ok.satisfied (c.in-Ok.ensures ∙ c.as_slice.ensures)
