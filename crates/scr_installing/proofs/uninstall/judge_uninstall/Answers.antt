use Rattle.std.proofs.Common.{◌∙◌, refl, sym}
use Rattle.std.proofs.lemmas.Result.{err_from_is_err_and}
use Rattle.scr_judgements.proofs.Judged.{changed, no_memory_freely, no_room}
use Rattle.scr_judgements.proofs.Plain.{refused_plainly}
use Rattle.scr_world.specs.declared.command.Command.TheVariants.{Uninstall}
use Rattle.scr_world.specs.declared.reply.Reply.TheVariants.{Done}
use Rattle.scr_installing.proofs.uninstall.judge_uninstall.Goals as goal

pub returns-in_err-check_idle : goal.returns-in_err-check_idle
returns-in_err-check_idle c =
    let p = err_from_is_err_and c.from_residual.result c.from_residual.ensures.1 in
    record { judged = rw (p.1, p.2) (refused_plainly c.args.journal.now.limit c.args.state.now (Uninstall c.args.bundle) refl c.in_err-check_idle.field-0.0 c.in_err-check_idle.ensures) }

pub returns-then-not-has_room_for_command : goal.returns-then-not-has_room_for_command
returns-then-not-has_room_for_command c =
    record { judged = no_room c.args.journal.now.limit c.args.state.now (Uninstall c.args.bundle) c.in_ok-check_idle.ensures refl (sym c.has_room_for_command.ensures ∙ c.if-not-has_room_for_command.true) }

pub returns-in_err-draft : goal.returns-in_err-draft
returns-in_err-draft c =
    let p = err_from_is_err_and c.from_residual-in_err-draft.result c.from_residual-in_err-draft.ensures.1 in
    record {
      judged = rw p.1 (no_memory_freely c.args.journal.now.limit c.args.state.now (Uninstall c.args.bundle) c.in_ok-check_idle.ensures
          (sym c.has_room_for_command.ensures ∙ c.if-not-has_room_for_command.false) p.0 p.2);
    }

pub returns : goal.returns
returns c =
    record {
      judged =
          changed c.args.journal.now.limit c.args.state.now (Uninstall c.args.bundle) c.in_ok-check_idle.ensures Done c.in_ok-draft.draft refl
          (sym c.has_room_for_command.ensures ∙ c.if-not-has_room_for_command.false) refl c.in_ok-draft.ensures;
    }
