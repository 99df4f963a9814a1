use Rattle.std.proofs.Common.{◌≡◌, ◌+◌, ◌^◌, ◌<◌, ◌∙◌, ◌++◌, ◌∷◌, [], ap, refl, subst, sym, ℕ, List}
use Rattle.scr_growth.proofs.Growing.{passed_then, ready_then, stopped_is_in}
use Rattle.scr_laws.proofs.NextNumbers.{next_service_then}
use Rattle.scr_world.specs.Calls.{world_at}
use Rattle.scr_world.specs.Consequences.{stopped_by, stopped_in}
use Rattle.scr_world.specs.Lists.{world_after_entry}
use Rattle.scr_world.specs.Room.{reserved}
use Rattle.scr_world.specs.Steps.{history_of}
use Rattle.scr_world.specs.declared.world.World.{World}
use Rattle.scr_growth.proofs.passing.finish_with_pass.Goals as goal

pub pass_of-requires : goal.pass_of-requires
pass_of-requires c = record {
  cached = c.requires.cached;
  ready = ready_then c.args.journal.now c.args.step.value c.args.state.now c.args.undo.now c.args.told.now c.requires;
  next = subst (λ (w : World). w.registry.numbered + 1 < 2 ^ 64) (sym c.requires.world)
      (next_service_then c.args.journal.now.limit (history_of c.args.journal.now.entries) c.requires.grows.legal c.requires.grows.small c.args.step.value);
}

pub settle_with-requires : goal.settle_with-requires
settle_with-requires c = record {
  pass = c.in-Ok.passed;
  passed = passed_then c.args.journal.now c.args.step.value c.args.state.now c.args.undo.now c.args.told.now c.requires c.in-Ok.passed c.in-Ok.ensures;
  grows = c.requires.grows;
  world = ap (λ (w : World). record w { open_periods = c.in-Ok.passed.open_now }) c.requires.world;
  closed = refl;
  opened = refl;
  stopped = c.in-Ok-stopped_in.ensures ∙ ap stopped_in c.requires.world ∙ stopped_is_in c.args.step.value (world_at c.args.journal.now.entries);
  cached = record { descriptions = c.requires.cached.descriptions; levels = c.requires.cached.levels };
  before = record { registry = c.requires.before.registry; periods = c.requires.before.periods; held = c.requires.before.held };
  draining = c.requires.told.draining;
}

pub returns-in-Ok-settle_with-clause-finished : goal.returns-in-Ok-settle_with-clause-finished
returns-in-Ok-settle_with-clause-finished c =
    let was = world_at c.args.journal.now.entries in
    let done = c.in-Ok-settle_with.ensures.settled in
    let stops : c.in-Ok-stopped_in.stopped ≡ stopped_by c.args.step.value (world_at c.args.journal.now.entries) = c.in-Ok-stopped_in.ensures ∙ ap stopped_in c.requires.world ∙ stopped_is_in c.args.step.value (world_at c.args.journal.now.entries) in record {
      pass = c.in-Ok.passed;
      passed = passed_then c.args.journal.now c.args.step.value c.args.state.now c.args.undo.now c.args.told.now c.requires c.in-Ok.passed c.in-Ok.ensures;
      journal = done.journal ∙ ap (λ (ns : List ℕ). record c.args.journal.now { entries = c.args.journal.now.entries ++ record { step = c.args.step.value; closed = c.in-Ok.passed.closed; opened = c.in-Ok.passed.opened; stopped = ns } ∷ []; reserved = reserved c.settle_with.new.state.world }) stops;
      state = done.state ∙ ap (λ (ns : List ℕ). record c.args.state.now { world = world_after_entry (record { step = c.args.step.value; closed = c.in-Ok.passed.closed; opened = c.in-Ok.passed.opened; stopped = ns }) was }) stops;
      shut = done.shut;
      satisfied = λ number. refl;
    }
