use Rattle.std.proofs.Common.{◌∙◌, ap, refl, subst, sym, List, Some}
use Rattle.std.proofs.lemmas.Result.{err_from_is_err_and}
use Rattle.std.specs.Prelude.{map}
use Rattle.scr_judgements.proofs.Changed.{asks_takes}
use Rattle.scr_judgements.proofs.Judged.{judged_step, no_memory_judged}
use Rattle.scr_judgements.specs.Changing.{ChangesUnlessFull}
use Rattle.scr_starting.proofs.Starts.{tables}
use Rattle.scr_world.specs.Tables.{set_back}
use Rattle.scr_world.specs.declared.contents.Contents.{Contents}
use Rattle.scr_world.specs.declared.command.Command.TheVariants.{Start}
use Rattle.scr_world.specs.declared.reply.Reply.TheVariants.{Done}
use Rattle.scr_world.specs.declared.step.Step.{Step}
use Rattle.scr_starting.proofs.starting.start_resting.Goals as goal

pub returns-in_err-documents : goal.returns-in_err-documents
returns-in_err-documents c =
    let p = err_from_is_err_and c.from_residual.result c.from_residual.ensures.1 in
    rw (p.1) (judged_step c.args.journal.now.limit c.args.state.now c.args.step.now (Start c.args.bundle) _ c.requires.command
    (no_memory_judged c.args.journal.now.limit c.args.state.now (Start c.args.bundle) refl (asks_takes c.args.state.now.world (Start c.args.bundle) c.requires.refused) p.0 p.2))

pub change_asking-requires-clause-changes : goal.change_asking-requires-clause-changes
change_asking-requires-clause-changes c =
    subst (λ (x : Step). ChangesUnlessFull c.args.state.now x Done (record c.none-tables.result { documents = Some c.in_ok-documents.documents })) (sym c.requires.command) (
      (record {
        refusals = c.requires.refused;
        effect = c.requires.effect;
        answers = refl;
        after = tables c.args.journal.now c.args.state.now c.requires.keeps c.args.bundle c.in_ok-documents.documents c.none-tables.result c.none-tables.ensures
            (c.in_ok-documents.ensures ∙ ap (λ (cs : List Contents). map (set_back c.args.bundle) cs) c.as_slice.ensures);
      }),
      refl,
    )
