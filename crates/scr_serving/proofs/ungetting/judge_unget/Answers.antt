use Rattle.std.proofs.Common.{◌∙◌, refl, subst, sym, ap, arith, Some, None}
use Rattle.scr_judgements.specs.Drafting.{AreTablesBy}
use Rattle.scr_judgements.specs.declared.drafting.TablesAfter.{TablesAfter}
use Rattle.scr_world.specs.declared.command.Command.TheVariants.{Unget}
use Rattle.scr_world.specs.declared.reply.Reply.TheVariants.{Uses as WithUses}
use Rattle.scr_serving.proofs.Owned.{held}
use Rattle.scr_serving.proofs.Served.{full, none_left, served, tables_then, told}
use Rattle.scr_serving.proofs.ungetting.judge_unget.Goals as goal

pub returns-in-Some : goal.returns-in-Some
returns-in-Some c = record { judged = told c.args.journal.now.limit c.args.state.now (Unget c.args.bundle c.args.service) c.refusal_of_unget.result c.refusal_of_unget.ensures refl c.in-Some.fault c.in-Some.is }

pub returns-then-not-has_room_for_command : goal.returns-then-not-has_room_for_command
returns-then-not-has_room_for_command c = record { judged = full c.args.journal.now.limit c.args.state.now (Unget c.args.bundle c.args.service) c.refusal_of_unget.result c.refusal_of_unget.ensures c.in_default.is refl c.has_room_for_command.result c.has_room_for_command.ensures c.if-not-has_room_for_command.true }

pub returns-in_err-after : goal.returns-in_err-after
returns-in_err-after c = record { judged = none_left c.args.journal.now.limit c.args.state.now (Unget c.args.bundle c.args.service) c.refusal_of_unget.result c.refusal_of_unget.ensures c.in_default.is refl c.has_room_for_command.result c.has_room_for_command.ensures c.if-not-has_room_for_command.false c.from_residual.result c.from_residual.ensures.1 }

pub draft_with-requires-clause-tables : goal.draft_with-requires-clause-tables
draft_with-requires-clause-tables c =
    subst (λ (t : TablesAfter). AreTablesBy c.args.state.now c.args.step.now t) (sym c.uses_after.ensures)
    (tables_then c.args.journal.now c.args.state.now c.requires.keeps c.args.step.now (Unget c.args.bundle c.args.service) c.requires.command refl refl None (Some c.in_ok-after.after.uses) refl c.in_ok-after.ensures.uses)

pub returns-in_err-draft : goal.returns-in_err-draft
returns-in_err-draft c = record { judged = none_left c.args.journal.now.limit c.args.state.now (Unget c.args.bundle c.args.service) c.refusal_of_unget.result c.refusal_of_unget.ensures c.in_default.is refl c.has_room_for_command.result c.has_room_for_command.ensures c.if-not-has_room_for_command.false c.from_residual-in_err-draft.result c.from_residual-in_err-draft.ensures.1 }

pub returns : goal.returns
returns c = record {
  judged = served c.args.journal.now.limit c.args.state.now (Unget c.args.bundle c.args.service) c.refusal_of_unget.result c.refusal_of_unget.ensures c.in_default.is refl c.has_room_for_command.result c.has_room_for_command.ensures c.if-not-has_room_for_command.false (WithUses c.in_ok-after.after.count) (ap (λ n. WithUses n) (omega (arith, c.in_ok-after.ensures.count))) c.args.step.now c.requires.command c.in_ok-draft.draft c.in_ok-draft.ensures;
}

pub without_get-requires : goal.without_get-requires
without_get-requires c = held c.args.state.now.world c.args.bundle c.args.service (sym c.refusal_of_unget.ensures ∙ c.in_default.is)
