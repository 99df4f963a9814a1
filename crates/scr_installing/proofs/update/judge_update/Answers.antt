use Rattle.std.proofs.Common.{◌∙◌, List, ap, refl, subst, sym}
use Rattle.std.specs.Prelude.{map}
use Rattle.std.proofs.lemmas.Result.{err_from_is_err_and}
use Rattle.scr_installing.proofs.Allowing.{allowed_described, allowed_free, not_allowed}
use Rattle.scr_installing.proofs.RestingBundles.{updated_asks}
use Rattle.scr_installing.proofs.Updates.{update_refused, update_takes}
use Rattle.scr_installing.specs.Described.{AreDescribed}
use Rattle.scr_judgements.proofs.Judged.{changed, no_memory_freely, no_memory_judged, no_room}
use Rattle.scr_judgements.specs.Lasting.{AsksAsBefore}
use Rattle.scr_state.specs.Keeps.{IsDraft}
use Rattle.scr_world.specs.Tables.{descriptions_of, replaced}
use Rattle.scr_world.specs.declared.command.Command.TheVariants.{Update}
use Rattle.scr_world.specs.declared.contents.Contents.{Contents}
use Rattle.scr_world.specs.declared.reply.Reply.TheVariants.{Done}
use Rattle.scr_world.specs.declared.step.Step.{Step}
use Rattle.scr_installing.proofs.update.judge_update.Goals as goal

pub returns-in_err-check_update : goal.returns-in_err-check_update
returns-in_err-check_update c =
    let p = err_from_is_err_and c.from_residual.result c.from_residual.ensures.1 in
    record { judged = rw (p.1, p.2) (update_refused c.args.journal.now.limit c.args.state.now c.args.bundle c.args.doc.now c.in_err-check_update.field-0.0 c.in_err-check_update.ensures) }

pub returns-in_err-documents : goal.returns-in_err-documents
returns-in_err-documents c =
    let p = err_from_is_err_and c.from_residual-in_err-documents.result c.from_residual-in_err-documents.ensures.1 in
    record {
      judged = rw p.1 (no_memory_judged c.args.journal.now.limit c.args.state.now (Update c.args.bundle c.args.doc.now) refl
          (update_takes c.args.state.now.world c.args.bundle c.args.doc.now c.in_ok-check_update.ensures) p.0 p.2);
    }

pub returns-in_err-described : goal.returns-in_err-described
returns-in_err-described c =
    let p = err_from_is_err_and c.from_residual-in_err-described.result c.from_residual-in_err-described.ensures.1 in
    record { judged = rw (p.1, p.2) (not_allowed c.args.journal.now.limit c.args.state.now (Update c.args.bundle c.args.doc.now) refl c.in_err-described.field-0.0 c.in_err-described.ensures) }

pub returns-then-not-has_room_for_command : goal.returns-then-not-has_room_for_command
returns-then-not-has_room_for_command c =
    let free = allowed_free c.args.state.now.world (Update c.args.bundle c.args.doc.now) c.in_ok-described.described c.in_ok-described.ensures in
    record { judged = no_room c.args.journal.now.limit c.args.state.now (Update c.args.bundle c.args.doc.now) free refl (sym c.has_room_for_command.ensures ∙ c.if-not-has_room_for_command.true) }

pub documents_draft-requires-clause-described : goal.documents_draft-requires-clause-described
documents_draft-requires-clause-described c =
    subst (λ (documents : List Contents). AreDescribed (descriptions_of documents) c.in_ok-described.described)
    (sym (c.in_ok-documents.ensures ∙ ap (λ (documents : List Contents). map (replaced c.args.bundle c.args.doc.now) documents) c.as_slice.ensures))
    (allowed_described c.args.state.now.world (Update c.args.bundle c.args.doc.now) c.in_ok-described.described c.in_ok-described.ensures)

pub documents_draft-requires-clause-asks : goal.documents_draft-requires-clause-asks
documents_draft-requires-clause-asks c =
    subst (λ (x : Step). AsksAsBefore x c.args.state.now.world) (sym c.requires.command)
    (updated_asks c.args.state.now.world c.args.bundle c.args.doc.now c.in_ok-check_update.ensures)

pub returns-in_err-draft : goal.returns-in_err-draft
returns-in_err-draft c =
    let p = err_from_is_err_and c.from_residual-in_err-draft.result c.from_residual-in_err-draft.ensures.1 in
    let free = allowed_free c.args.state.now.world (Update c.args.bundle c.args.doc.now) c.in_ok-described.described c.in_ok-described.ensures in
    record {
      judged = rw p.1 (no_memory_freely c.args.journal.now.limit c.args.state.now (Update c.args.bundle c.args.doc.now) free
          (sym c.has_room_for_command.ensures ∙ c.if-not-has_room_for_command.false) p.0 p.2);
    }

pub returns : goal.returns
returns c =
    let free = allowed_free c.args.state.now.world (Update c.args.bundle c.args.doc.now) c.in_ok-described.described c.in_ok-described.ensures in
    record {
      judged =
          changed c.args.journal.now.limit c.args.state.now (Update c.args.bundle c.args.doc.now) free Done c.in_ok-draft.draft refl
          (sym c.has_room_for_command.ensures ∙ c.if-not-has_room_for_command.false) refl
          (subst (λ (step : Step). IsDraft c.args.state.now step c.in_ok-draft.draft) c.requires.command c.in_ok-draft.ensures);
    }
