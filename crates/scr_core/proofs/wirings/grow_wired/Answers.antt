use Rattle.std.proofs.Common.{ℕ, ap, refl, subst}
use Rattle.kept_wirings.specs.WiringChanges.{IsChangeBy}
use Rattle.scr_core.proofs.WiredJournals.{changed_rows, kept_own, kept_still}
use Rattle.scr_state.specs.declared.state.State.{State}
use Rattle.scr_world.specs.declared.step.Step.{Step}
use Rattle.scr_core.proofs.wirings.grow_wired.Goals as goal

pub make-requires-clause-kept : goal.make-requires-clause-kept
make-requires-clause-kept c =
    let cs = c.args.state.now.world.documents in
    (cs, kept_still cs cs c.args.wirings.now c.prepare.new.wirings c.requires.wirings c.prepare.ensures.bundles c.prepare.ensures.faults refl)

pub returns-in-Ok-grow-clause-wirings : goal.returns-in-Ok-grow-clause-wirings
returns-in-Ok-grow-clause-wirings c =
    let s = c.args.state.now in
    let cs = s.world.documents in
    let kept = kept_still cs cs c.args.wirings.now c.prepare.new.wirings c.requires.wirings c.prepare.ensures.bundles c.prepare.ensures.faults refl in
    let change = subst (λ (n : ℕ). IsChangeBy c.args.step.value n c.in-Ok.change) c.next_bundle-next.ensures
    (subst (λ (x : Step). IsChangeBy x c.next_bundle-next.result c.in-Ok.change) c.deref.ensures c.in-Ok.ensures.change) in
    c.make.ensures cs c.grow.new.state.world.documents kept (kept_own c.args.journal.now s c.requires.keeps)
    (changed_rows c.args.journal.now c.grow.new.journal s c.grow.new.state c.requires.keeps c.in-Ok-grow.ensures.keeps c.args.step.value c.in-Ok-grow.ensures.grown c.in-Ok.change change)

pub returns-in-Err-grow-clause-wirings : goal.returns-in-Err-grow-clause-wirings
returns-in-Err-grow-clause-wirings c =
    let cs = c.args.state.now.world.documents in
    kept_still cs c.grow.new.state.world.documents c.args.wirings.now c.prepare.new.wirings c.requires.wirings c.prepare.ensures.bundles c.prepare.ensures.faults
    (ap (λ (s : State). s.world.documents) c.in-Err-grow.ensures.state)

pub returns-in-Err-clause-wirings : goal.returns-in-Err-clause-wirings
returns-in-Err-clause-wirings c =
    let cs = c.args.state.now.world.documents in
    kept_still cs cs c.args.wirings.now c.prepare.new.wirings c.requires.wirings c.prepare.ensures.bundles c.prepare.ensures.faults refl
