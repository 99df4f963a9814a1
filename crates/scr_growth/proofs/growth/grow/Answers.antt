use Rattle.std.proofs.Common.{◌+◌, ◌^◌, ◌<◌, subst, sym}
use Rattle.scr_growth.specs.Growths.{IsTold}
use Rattle.scr_laws.proofs.NextNumbers.{next_service}
use Rattle.scr_state.specs.Keeps.{IsDraft}
use Rattle.scr_world.specs.Steps.{history_of}
use Rattle.scr_world.specs.declared.step.Step.{Step}
use Rattle.scr_world.specs.declared.world.World.{World}
use Rattle.scr_growth.proofs.growth.grow.Goals as goal

pub told_before-requires : goal.told_before-requires
told_before-requires c =
    let j = c.args.journal.now in
    let keeps = c.requires.keeps in record {
      draft = subst (λ (x : Step). IsDraft c.args.state.now x c.args.draft) (sym c.deref.ensures) c.requires.draft;
      next = subst (λ (w : World). w.registry.numbered + 1 < 2 ^ 64) (sym keeps.world) (next_service j.limit (history_of j.entries) keeps.legal keeps.small);
    }

pub grow_told-grown-requires-clause-told : goal.grow_told-grown-requires-clause-told
grow_told-grown-requires-clause-told c = subst (λ (x : Step). IsTold x c.args.state.now.world c.in-Ok.told) c.deref.ensures c.in-Ok.ensures
