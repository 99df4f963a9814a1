use Rattle.std.proofs.Common.{◌∙◌, ap, sym}
use Rattle.scr_core.proofs.Taking.{has_work, prepared}
use Rattle.scr_core.proofs.Undone.{drafted_alike}
use Rattle.scr_core.specs.Steps.{turn_of}
use Rattle.scr_core.specs.declared.turns.Prepared.{Prepared}
use Rattle.scr_state.specs.Drafts.{with_draft}
use Rattle.scr_world.specs.declared.world.World.{World}
use Rattle.scr_world.specs.TurnSteps.{work_under_way}
use Rattle.scr_core.proofs.turns.prepare.Goals as goal

pub unreachable-requires : goal.unreachable-requires
unreachable-requires c =
    has_work c.requires.kept.journal c.args.state.now c.requires.kept.keeps c.args.step.now c.requires.next c.in-Ok.draft c.in-Ok.ensures
    (sym c.in-Ok-None.field-0-is ∙ c.in-Ok-None.ensures.work ∙ ap (λ n. work_under_way (with_draft c.in-Ok.draft c.args.state.now.world) n) c.turn_of.ensures)

pub returns-in-Ok-Some-clause-prepared : goal.returns-in-Ok-Some-clause-prepared
returns-in-Ok-Some-clause-prepared c =
    let p : Prepared = record { draft = c.work_after.new.draft; work = c.in-Ok-Some.work; line = c.in_ok-line.line } in
    let told =
    ap (λ (m : World). work_under_way m (turn_of c.args.step.now)) c.in-Ok-Some.ensures.draft.world
    ∙ ap (λ n. work_under_way (with_draft c.in-Ok.draft c.args.state.now.world) n) (sym c.turn_of.ensures)
    ∙ sym c.in-Ok-Some.ensures.work ∙ c.in-Ok-Some.field-0-is in
    prepared c.requires.kept.journal c.args.state.now c.requires.kept.keeps c.args.step.now c.requires.next p
    (drafted_alike c.args.state.now c.args.step.now c.in-Ok.draft c.work_after.new.draft c.in-Ok-Some.ensures.draft c.in-Ok.ensures) told c.in_ok-line.ensures

pub work_after-requires : goal.work_after-requires
work_after-requires c = record { room = c.in-Ok.ensures.room }
