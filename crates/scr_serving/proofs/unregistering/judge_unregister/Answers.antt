use Rattle.std.proofs.Common.{◌∙◌, refl, subst, sym, Some, None}
use Rattle.scr_judgements.specs.Drafting.{AreTablesBy}
use Rattle.scr_judgements.specs.declared.drafting.TablesAfter.{TablesAfter}
use Rattle.scr_world.specs.declared.command.Command.TheVariants.{Unregister}
use Rattle.scr_world.specs.declared.reply.Reply.TheVariants.{Done}
use Rattle.scr_serving.proofs.Owned.{owned}
use Rattle.scr_serving.proofs.Served.{full, none_left, served, tables_then, told}
use Rattle.scr_serving.proofs.unregistering.judge_unregister.Goals as goal

pub returns-in-Some : goal.returns-in-Some
returns-in-Some c = record { judged = told c.args.journal.now.limit c.args.state.now (Unregister c.args.bundle c.args.service) c.refusal_of_foreign.result c.refusal_of_foreign.ensures refl c.in-Some.fault c.in-Some.is }

pub returns-then-not-has_room_for_command : goal.returns-then-not-has_room_for_command
returns-then-not-has_room_for_command c = record { judged = full c.args.journal.now.limit c.args.state.now (Unregister c.args.bundle c.args.service) c.refusal_of_foreign.result c.refusal_of_foreign.ensures c.in_default.is refl c.has_room_for_command.result c.has_room_for_command.ensures c.if-not-has_room_for_command.true }

pub returns-in_err-registry : goal.returns-in_err-registry
returns-in_err-registry c = record { judged = none_left c.args.journal.now.limit c.args.state.now (Unregister c.args.bundle c.args.service) c.refusal_of_foreign.result c.refusal_of_foreign.ensures c.in_default.is refl c.has_room_for_command.result c.has_room_for_command.ensures c.if-not-has_room_for_command.false c.from_residual.result c.from_residual.ensures.1 }

pub draft_with-requires-clause-tables : goal.draft_with-requires-clause-tables
draft_with-requires-clause-tables c =
    subst (λ (t : TablesAfter). AreTablesBy c.args.state.now c.args.step.now t) (sym c.services_after.ensures)
    (tables_then c.args.journal.now c.args.state.now c.requires.keeps c.args.step.now (Unregister c.args.bundle c.args.service) c.requires.command refl refl (Some c.in_ok-registry.registry) None c.in_ok-registry.ensures refl)

pub returns-in_err-draft : goal.returns-in_err-draft
returns-in_err-draft c = record { judged = none_left c.args.journal.now.limit c.args.state.now (Unregister c.args.bundle c.args.service) c.refusal_of_foreign.result c.refusal_of_foreign.ensures c.in_default.is refl c.has_room_for_command.result c.has_room_for_command.ensures c.if-not-has_room_for_command.false c.from_residual-in_err-draft.result c.from_residual-in_err-draft.ensures.1 }

pub returns : goal.returns
returns c = record {
  judged = served c.args.journal.now.limit c.args.state.now (Unregister c.args.bundle c.args.service) c.refusal_of_foreign.result c.refusal_of_foreign.ensures c.in_default.is refl c.has_room_for_command.result c.has_room_for_command.ensures c.if-not-has_room_for_command.false Done refl c.args.step.now c.requires.command c.in_ok-draft.draft c.in_ok-draft.ensures;
}

pub without_service-requires : goal.without_service-requires
without_service-requires c = owned c.args.state.now.world c.args.bundle c.args.service (sym c.refusal_of_foreign.ensures ∙ c.in_default.is)
