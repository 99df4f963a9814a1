use Rattle.std.proofs.Common.{refl, subst, sym, ap, None}
use Rattle.scr_judgements.specs.Drafting.{AreTablesBy}
use Rattle.scr_judgements.specs.declared.drafting.TablesAfter.{TablesAfter}
use Rattle.scr_world.specs.declared.command.Command.TheVariants.{Listen}
use Rattle.scr_world.specs.declared.reply.Reply.TheVariants.{Listener as AsListener}
use Rattle.scr_serving.proofs.Served.{full, none_left, served, tables_then, told}
use Rattle.scr_serving.proofs.listening.judge_listen.Goals as goal

pub returns-in-Some : goal.returns-in-Some
returns-in-Some c = record { judged = told c.args.journal.now.limit c.args.state.now (Listen c.args.bundle c.args.filter.now) c.refusal_of_listen.result (c.refusal_of_listen.ensures c.args.filter.now) refl c.in-Some.fault c.in-Some.is }

pub returns-then-not-has_room_for_command : goal.returns-then-not-has_room_for_command
returns-then-not-has_room_for_command c = record { judged = full c.args.journal.now.limit c.args.state.now (Listen c.args.bundle c.args.filter.now) c.refusal_of_listen.result (c.refusal_of_listen.ensures c.args.filter.now) c.in_default.is refl c.has_room_for_command.result c.has_room_for_command.ensures c.if-not-has_room_for_command.true }

pub draft_with-requires-clause-tables : goal.draft_with-requires-clause-tables
draft_with-requires-clause-tables c =
    subst (λ (t : TablesAfter). AreTablesBy c.args.state.now c.args.step.now t) (sym c.none.ensures)
    (tables_then c.args.journal.now c.args.state.now c.requires.keeps c.args.step.now (Listen c.args.bundle c.args.filter.now) c.requires.command refl refl None None refl refl)

pub returns-in_err-draft : goal.returns-in_err-draft
returns-in_err-draft c = record { judged = none_left c.args.journal.now.limit c.args.state.now (Listen c.args.bundle c.args.filter.now) c.refusal_of_listen.result (c.refusal_of_listen.ensures c.args.filter.now) c.in_default.is refl c.has_room_for_command.result c.has_room_for_command.ensures c.if-not-has_room_for_command.false c.from_residual.result c.from_residual.ensures.1 }

pub returns : goal.returns
returns c = record {
  judged = served c.args.journal.now.limit c.args.state.now (Listen c.args.bundle c.args.filter.now) c.refusal_of_listen.result (c.refusal_of_listen.ensures c.args.filter.now) c.in_default.is refl c.has_room_for_command.result c.has_room_for_command.ensures c.if-not-has_room_for_command.false (AsListener c.next_listener-number.result) (ap (λ n. AsListener n) c.next_listener-number.ensures) c.args.step.now c.requires.command c.in_ok-draft.draft c.in_ok-draft.ensures;
}
