use Rattle.std.proofs.Common.{◌≡◌, ◌∙◌, ap, subst, sym}
use Rattle.journal_core.specs.Rooms.{JournalRows}
use Rattle.scr_growth.proofs.Growing.{amid, grown, kept, shut_then}
use Rattle.scr_state.specs.declared.draft.Draft.{Draft}
use Rattle.scr_state.specs.declared.state.State.{State}
use Rattle.scr_world.specs.declared.step.Step.{Step}
use Rattle.scr_world.specs.declared.world.World.{World}
use Rattle.std.specs.Prelude.{Option}
use Rattle.bundle_life.specs.Lives.{BundleTable}
use Rattle.bundle_life.specs.Numbers.{SavedBundles}
use Rattle.scr_bundles.proofs.Coming.{step_may_change}
use Rattle.scr_bundles.specs.Changes.{IsSavedOf, MayChange}
use Rattle.scr_state.specs.Drafts.{with_draft}
use Rattle.scr_state.specs.Keeps.{Keeps}
use Rattle.scr_world.specs.Legal.{MayCome}
use Rattle.scr_world.specs.Steps.{history_of}
use Rattle.scr_world.specs.Tables.{bundles_by}
use Rattle.scr_growth.proofs.growth.grow_told.Goals as goal

pub finish-requires : goal.finish-requires
finish-requires c =
    amid c.args.journal.now c.args.state.now c.requires.keeps c.args.step.value c.change_bundles.new.bundles (c.in-Ok.ensures.ok ∙ ap (λ (x : Step). bundles_by x c.args.state.now.world.bundles) c.deref.ensures) c.requires.may c.requires.room c.args.undo.now c.requires.draft
    c.swap_in.new.world c.swap_in.ensures.world c.swap_in.new.draft c.swap_in.ensures.back c.swap_in.ensures.descriptions c.swap_in.ensures.levels
    c.args.told.now c.requires.told

pub returns-in-Ok-finish-clause-keeps : goal.returns-in-Ok-finish-clause-keeps
returns-in-Ok-finish-clause-keeps c =
    kept c.args.journal.now c.args.state.now c.requires.keeps c.args.step.value c.change_bundles.new.bundles (c.in-Ok.ensures.ok ∙ ap (λ (x : Step). bundles_by x c.args.state.now.world.bundles) c.deref.ensures) c.requires.may c.requires.room c.args.undo.now c.requires.draft
    c.swap_in.new.world c.swap_in.ensures.world c.swap_in.new.draft c.swap_in.ensures.back c.swap_in.ensures.descriptions c.swap_in.ensures.levels
    c.finish.new.journal c.finish.new.state c.in-Ok-finish.finished c.in-Ok-finish.ensures.finished
    c.take_over.new.state c.take_over.ensures.world c.take_over.ensures.descriptions c.take_over.ensures.levels c.take_over.ensures.satisfied

pub returns-in-Ok-finish-clause-limit : goal.returns-in-Ok-finish-clause-limit
returns-in-Ok-finish-clause-limit c = ap (λ (j : JournalRows Step). j.limit) c.in-Ok-finish.ensures.finished.journal

pub returns-in-Ok-finish-clause-grown : goal.returns-in-Ok-finish-clause-grown
returns-in-Ok-finish-clause-grown c =
    grown c.args.journal.now c.args.state.now c.requires.keeps c.args.step.value c.change_bundles.new.bundles (c.in-Ok.ensures.ok ∙ ap (λ (x : Step). bundles_by x c.args.state.now.world.bundles) c.deref.ensures) c.requires.may c.requires.room c.args.undo.now c.requires.draft
    c.swap_in.new.world c.swap_in.ensures.world c.swap_in.new.draft c.swap_in.ensures.back c.swap_in.ensures.descriptions c.swap_in.ensures.levels
    c.finish.new.journal c.finish.new.state c.in-Ok-finish.finished c.in-Ok-finish.ensures.finished

pub returns-in-Ok-finish-clause-shut : goal.returns-in-Ok-finish-clause-shut
returns-in-Ok-finish-clause-shut c =
    c.take_over.ensures.shut
    ∙ shut_then c.args.journal.now c.args.state.now c.requires.keeps c.args.step.value c.change_bundles.new.bundles (c.in-Ok.ensures.ok ∙ ap (λ (x : Step). bundles_by x c.args.state.now.world.bundles) c.deref.ensures) c.requires.may c.requires.room c.args.undo.now c.requires.draft
    c.swap_in.new.world c.swap_in.ensures.world c.swap_in.new.draft c.swap_in.ensures.back c.swap_in.ensures.descriptions c.swap_in.ensures.levels
    c.finish.new.journal c.finish.new.state c.in-Ok-finish.finished c.in-Ok-finish.ensures.finished

pub change_bundles-requires : goal.change_bundles-requires
change_bundles-requires c =
    subst (λ (x : Step). MayChange c.args.state.now.world.bundles x) (sym c.deref.ensures)
    (subst (λ (w : World). MayChange w.bundles c.args.step.value) (sym c.requires.keeps.world)
    (step_may_change c.args.journal.now.limit (history_of c.args.journal.now.entries) c.requires.keeps.legal c.args.step.value (subst (λ (w : World). MayCome w c.args.step.value) c.requires.keeps.world c.requires.may)))

pub put_back-requires : goal.put_back-requires
put_back-requires c =
    let world = c.swap_in-in-Err-finish.ensures.world ∙ ap (λ (x : State). with_draft c.swap_in.new.draft x.world) c.in-Err-finish.ensures.state ∙ c.swap_in.ensures.back in record {
      before = c.args.state.now.world.bundles;
      is = subst (λ (t : BundleTable). IsSavedOf c.args.state.now.world.bundles t c.in-Ok.saved) (sym (ap (λ (w : World). w.bundles) world)) c.in-Ok.ensures.saved;
    }

saved_then : (before now then_ : BundleTable) (saved : Option SavedBundles) → then_ ≡ now → IsSavedOf before now saved → IsSavedOf before then_ saved
saved_then before now then_ saved same is = subst (λ (t : BundleTable). IsSavedOf before t saved) (sym same) is

back_again : (s fs : State) (m w : World) (undo : Draft) (b put : BundleTable) → fs ≡ record s { world = m } → w ≡ with_draft undo fs.world → with_draft undo m ≡ record s.world { bundles = b } → put ≡ s.world.bundles
    → record fs { world = record w { bundles = put } } ≡ s
back_again s fs m w undo b put is swapped back was =
    ap (λ (x : State). record x { world = record w { bundles = put } }) is
    ∙ ap (λ (v : World). record s { world = record v { bundles = put } }) (swapped ∙ ap (λ (x : State). with_draft undo x.world) is ∙ back)
    ∙ ap (λ (t : BundleTable). record s { world = record s.world { bundles = t } }) was

pub returns-in-Err-clause-keeps : goal.returns-in-Err-clause-keeps
returns-in-Err-clause-keeps c =
    subst (λ (t : BundleTable). Keeps c.args.journal.now (record c.args.state.now { world = record c.args.state.now.world { bundles = t } })) (sym c.in-Err.ensures.err) c.requires.keeps

pub returns-in-Err-finish-clause-state : goal.returns-in-Err-finish-clause-state
returns-in-Err-finish-clause-state c =
    let world = c.swap_in-in-Err-finish.ensures.world ∙ ap (λ (x : State). with_draft c.swap_in.new.draft x.world) c.in-Err-finish.ensures.state ∙ c.swap_in.ensures.back in
    back_again c.args.state.now c.finish.new.state c.swap_in.new.world c.swap_in-in-Err-finish.new.world c.swap_in.new.draft c.change_bundles.new.bundles c.put_back.new.bundles c.in-Err-finish.ensures.state c.swap_in-in-Err-finish.ensures.world c.swap_in.ensures.back
    (c.put_back.ensures c.args.state.now.world.bundles
    (saved_then c.args.state.now.world.bundles c.change_bundles.new.bundles c.swap_in-in-Err-finish.new.world.bundles c.in-Ok.saved (ap (λ (w : World). w.bundles) world) c.in-Ok.ensures.saved))

pub returns-in-Err-finish-clause-keeps : goal.returns-in-Err-finish-clause-keeps
returns-in-Err-finish-clause-keeps c =
    let world = c.swap_in-in-Err-finish.ensures.world ∙ ap (λ (x : State). with_draft c.swap_in.new.draft x.world) c.in-Err-finish.ensures.state ∙ c.swap_in.ensures.back in
    let state =
    back_again c.args.state.now c.finish.new.state c.swap_in.new.world c.swap_in-in-Err-finish.new.world c.swap_in.new.draft c.change_bundles.new.bundles c.put_back.new.bundles c.in-Err-finish.ensures.state c.swap_in-in-Err-finish.ensures.world c.swap_in.ensures.back
    (c.put_back.ensures c.args.state.now.world.bundles
    (saved_then c.args.state.now.world.bundles c.change_bundles.new.bundles c.swap_in-in-Err-finish.new.world.bundles c.in-Ok.saved (ap (λ (w : World). w.bundles) world) c.in-Ok.ensures.saved)) in
    subst (λ (j : JournalRows Step). Keeps j (record c.finish.new.state { world = record c.swap_in-in-Err-finish.new.world { bundles = c.put_back.new.bundles } })) (sym c.in-Err-finish.ensures.journal)
    (subst (λ (x : State). Keeps c.args.journal.now x) (sym state) c.requires.keeps)

pub swap_in-requires : goal.swap_in-requires
swap_in-requires c = record { room = c.requires.draft.room }
