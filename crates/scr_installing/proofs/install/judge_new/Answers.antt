use Rattle.std.proofs.Common.{◌∙◌, refl, sym}
use Rattle.std.proofs.lemmas.Result.{err_from_is_err_and}
use Rattle.scr_installing.proofs.Allowing.{allowed_described, allowed_free, not_allowed}
use Rattle.scr_installing.proofs.Installs.{install_changes, install_no_room}
use Rattle.scr_judgements.proofs.Judged.{no_memory_freely}
use Rattle.scr_world.specs.declared.command.Command.TheVariants.{Install}
use Rattle.scr_installing.proofs.install.judge_new.Goals as goal

pub returns-in_err-described : goal.returns-in_err-described
returns-in_err-described c =
    let p = err_from_is_err_and c.from_residual.result c.from_residual.ensures.1 in
    record { judged = rw (p.1, p.2) (not_allowed c.args.journal.now.limit c.args.state.now (Install c.args.doc.now) refl c.in_err-described.field-0.0 c.in_err-described.ensures) }

pub returns-then-not-has_room_for_command : goal.returns-then-not-has_room_for_command
returns-then-not-has_room_for_command c =
    let free = allowed_free c.args.state.now.world (Install c.args.doc.now) c.in_ok-described.described c.in_ok-described.ensures in
    record { judged = install_no_room c.args.journal.now.limit c.args.state.now c.args.doc.now c.requires.unknown free (sym c.has_room_for_command.ensures ∙ c.if-not-has_room_for_command.true) }

pub install_draft-requires-clause-described : goal.install_draft-requires-clause-described
install_draft-requires-clause-described c = allowed_described c.args.state.now.world (Install c.args.doc.now) c.in_ok-described.described c.in_ok-described.ensures

pub returns-in_err-draft : goal.returns-in_err-draft
returns-in_err-draft c =
    let p = err_from_is_err_and c.from_residual-in_err-draft.result c.from_residual-in_err-draft.ensures.1 in
    let free = allowed_free c.args.state.now.world (Install c.args.doc.now) c.in_ok-described.described c.in_ok-described.ensures in
    record {
      judged = rw p.1 (no_memory_freely c.args.journal.now.limit c.args.state.now (Install c.args.doc.now) free
          (sym c.has_room_for_command.ensures ∙ c.if-not-has_room_for_command.false) p.0 p.2);
    }

pub returns : goal.returns
returns c =
    let free = allowed_free c.args.state.now.world (Install c.args.doc.now) c.in_ok-described.described c.in_ok-described.ensures in
    record {
      judged =
          install_changes c.args.journal.now.limit c.args.state.now c.args.doc.now c.requires.unknown free (sym c.has_room_for_command.ensures ∙ c.if-not-has_room_for_command.false)
          c.next_bundle-number.result c.next_bundle-number.ensures c.in_ok-draft.draft c.in_ok-draft.ensures;
    }
