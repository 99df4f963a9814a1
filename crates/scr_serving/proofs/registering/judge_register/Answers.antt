use Rattle.std.proofs.Common.{refl, subst, sym, ap, Some, None, ◌∙◌, List, ℕ, true}
use Rattle.scr_judgements.specs.Drafting.{AreTablesBy}
use Rattle.scr_judgements.specs.declared.drafting.TablesAfter.{TablesAfter}
use Rattle.scr_world.specs.declared.command.Command.TheVariants.{Register}
use Rattle.scr_world.specs.declared.reply.Reply.TheVariants.{Service}
use Rattle.scr_world.specs.Tables.{direct_scope}
use Rattle.service_registry.specs.Registries.{Registered, registered}
use Rattle.scr_serving.proofs.Served.{full, none_left, served, tables_then, told}
use Rattle.scr_serving.proofs.registering.judge_register.Goals as goal

pub returns-in-Some : goal.returns-in-Some
returns-in-Some c = record { judged = told c.args.journal.now.limit c.args.state.now (Register c.args.bundle c.args.interfaces.now c.args.properties.now) c.refusal_of_register.result (c.refusal_of_register.ensures c.args.interfaces.now c.args.properties.now) refl c.in-Some.fault c.in-Some.is }

pub returns-then-not-has_room_for_command : goal.returns-then-not-has_room_for_command
returns-then-not-has_room_for_command c = record { judged = full c.args.journal.now.limit c.args.state.now (Register c.args.bundle c.args.interfaces.now c.args.properties.now) c.refusal_of_register.result (c.refusal_of_register.ensures c.args.interfaces.now c.args.properties.now) c.in_default.is refl c.has_room_for_command.result c.has_room_for_command.ensures c.if-not-has_room_for_command.true }

pub returns-in_err-registry : goal.returns-in_err-registry
returns-in_err-registry c = record { judged = none_left c.args.journal.now.limit c.args.state.now (Register c.args.bundle c.args.interfaces.now c.args.properties.now) c.refusal_of_register.result (c.refusal_of_register.ensures c.args.interfaces.now c.args.properties.now) c.in_default.is refl c.has_room_for_command.result c.has_room_for_command.ensures c.if-not-has_room_for_command.false c.from_residual.result c.from_residual.ensures.1 }

pub draft_with-requires-clause-tables : goal.draft_with-requires-clause-tables
draft_with-requires-clause-tables c =
    subst (λ (t : TablesAfter). AreTablesBy c.args.state.now c.args.step.now t) (sym c.services_after.ensures)
    (tables_then c.args.journal.now c.args.state.now c.requires.keeps c.args.step.now (Register c.args.bundle c.args.interfaces.now c.args.properties.now) c.requires.command refl refl (Some c.in_ok-registry.registry) None (c.in_ok-registry.ensures ∙ ap (λ (interfaces : List (List ℕ)). registered c.args.bundle interfaces direct_scope c.args.properties.now true c.args.state.now.world.registry) c.as_slice.ensures) refl)

pub returns-in_err-draft : goal.returns-in_err-draft
returns-in_err-draft c = record { judged = none_left c.args.journal.now.limit c.args.state.now (Register c.args.bundle c.args.interfaces.now c.args.properties.now) c.refusal_of_register.result (c.refusal_of_register.ensures c.args.interfaces.now c.args.properties.now) c.in_default.is refl c.has_room_for_command.result c.has_room_for_command.ensures c.if-not-has_room_for_command.false c.from_residual-in_err-draft.result c.from_residual-in_err-draft.ensures.1 }

pub returns : goal.returns
returns c = record {
  judged = served c.args.journal.now.limit c.args.state.now (Register c.args.bundle c.args.interfaces.now c.args.properties.now) c.refusal_of_register.result (c.refusal_of_register.ensures c.args.interfaces.now c.args.properties.now) c.in_default.is refl c.has_room_for_command.result c.has_room_for_command.ensures c.if-not-has_room_for_command.false (Service c.numbered.result) (ap (λ n. Service n) (c.numbered.ensures ∙ ap (λ (t : Registered). t.numbered) c.in_ok-registry.ensures)) c.args.step.now c.requires.command c.in_ok-draft.draft c.in_ok-draft.ensures;
}
