-- A turn that was taken.
use Rattle.std.proofs.Common.{◌≡◌, ◌+◌, ◌∙◌, List, ap, refl, sym, subst, Some, None, false}
use Rattle.journal_core.specs.Rooms.{JournalRows}
use Rattle.journal_core.specs.declared.entry.Entry.{Entry}
use Rattle.scr_core.specs.declared.turns.Prepared.{Prepared}
use Rattle.scr_core.specs.Beginnings.{IsLineOf, IsPrepared}
use Rattle.scr_core.specs.Steps.{turn_of}
use Rattle.scr_core.proofs.Begun.{next_is_beginning}
use Rattle.scr_core.proofs.Idle.{idle}
use Rattle.scr_core.proofs.Lines.{grown_work}
use Rattle.scr_core.proofs.UnderWay.{begun_work, work_number}
use Rattle.scr_laws.proofs.LegalOrder.{legal_ordered}
use Rattle.scr_laws.proofs.Ordered.{AreOrdered}
use Rattle.scr_laws.proofs.Numbering.{next_turn}
use Rattle.scr_state.specs.Drafts.{with_draft}
use Rattle.scr_state.specs.Keeps.{IsDraft, Keeps}
use Rattle.scr_state.specs.declared.draft.Draft.{Draft}
use Rattle.scr_state.specs.declared.state.State.{State}
use Rattle.scr_world.specs.Calls.{FindsNoRoom, Grown, Takes, world_at}
use Rattle.scr_world.specs.Dues.{due_in, next_begin}
use Rattle.scr_world.specs.Room.{has_room, needed_by}
use Rattle.scr_world.specs.Stepping.{world_after_step}
use Rattle.scr_world.specs.TurnSteps.{work_under_way}
use Rattle.scr_world.specs.Steps.{history_of}
use Rattle.scr_world.specs.declared.step.Step.{Step}
use Rattle.scr_world.specs.declared.step.Step.TheVariants.{Command as Commanded, Begin, End, Drained, Got, Released}
use Rattle.scr_world.specs.declared.world.World.{World}

module _ (j : JournalRows Step) (s : State) (keeps : Keeps j s) where
  pub none_due : next_begin s.world ≡ None → due_in (world_at j.entries) ≡ None
  none_due none = subst (λ (w : World). due_in w ≡ None) keeps.world (idle s.world none)

  module _ (step : Step) (next : next_begin s.world ≡ Some step) where
    pub next_at : next_begin (world_at j.entries) ≡ Some step
    next_at = subst (λ (w : World). next_begin w ≡ Some step) keeps.world next

    pub no_room : has_room j.limit s.world (needed_by step) ≡ false → FindsNoRoom j.limit j.entries j.entries
    no_room full = (step, next_at, subst (λ (w : World). has_room j.limit w (needed_by step) ≡ false) keeps.world full, refl)

    module _ (p : Prepared) (ready : IsPrepared s step p) (new : List (Entry Step)) (grown : Grown j.limit j.entries step new) where
      pub next_number : p.work.number ≡ (world_at j.entries).turns_begun + 1
      next_number = ready.next ∙ ap (λ (w : World). w.turns_begun + 1) keeps.world

      pub taken : Takes j.limit j.entries p.work new
      taken = (
        step,
        next_at,
        grown_work j.limit j.entries new step p.work.number grown ∙ ap (λ (w : World). work_under_way (world_after_step step w) p.work.number) (sym keeps.world) ∙ ready.work,
        grown,
      )

-- what is ready before a turn begins
pub prepared : (j : JournalRows Step) (s : State) → Keeps j s → (step : Step) → next_begin s.world ≡ Some step → (p : Prepared) → IsDraft s step p.draft → work_under_way (with_draft p.draft s.world) (turn_of step) ≡ Some p.work → IsLineOf step s.world p.line
    → IsPrepared s step p
prepared j s keeps (Commanded command) next p drafted told line = let no = next_is_beginning s.world (Commanded command) next in cc
prepared j s keeps (Begin t i c b callback chosen) next p drafted told line =
    let work : work_under_way (world_after_step (Begin t i c b callback chosen) s.world) t ≡ Some p.work = ap (λ (w : World). work_under_way w t) (sym drafted.world) ∙ told in
    let number = work_number (world_after_step (Begin t i c b callback chosen) s.world) t p.work work in
    record {
      draft = drafted;
      work = ap (work_under_way (world_after_step (Begin t i c b callback chosen) s.world)) number ∙ work;
      next = number ∙ next_turn s.world t i c b callback chosen next;
      line = line;
    }
prepared j s keeps (End t o) next p drafted told line = let no = next_is_beginning s.world (End t o) next in cc
prepared j s keeps (Drained i) next p drafted told line = let no = next_is_beginning s.world (Drained i) next in cc
prepared j s keeps (Got b service) next p drafted told line = let no = next_is_beginning s.world (Got b service) next in cc
prepared j s keeps (Released place) next p drafted told line = let no = next_is_beginning s.world (Released place) next in cc

-- its work is told
pub has_work : (j : JournalRows Step) (s : State) → Keeps j s → (step : Step) → next_begin s.world ≡ Some step → (d : Draft) → IsDraft s step d → None ≡ work_under_way (with_draft d s.world) (turn_of step) → ⊥
has_work j s keeps (Commanded command) next d drafted none = let no = next_is_beginning s.world (Commanded command) next in cc
has_work j s keeps (Begin t i c b callback chosen) next d drafted none =
    let ordered = subst (λ (w : World). AreOrdered w) (sym keeps.world) (legal_ordered j.limit (history_of j.entries) keeps.legal) in
    let told = begun_work s.world ordered t i c b callback chosen next in
    let both : None ≡ Some told.0 = none ∙ ap (λ (w : World). work_under_way w t) drafted.world ∙ told.1 in cc
has_work j s keeps (End t o) next d drafted none = let no = next_is_beginning s.world (End t o) next in cc
has_work j s keeps (Drained i) next d drafted none = let no = next_is_beginning s.world (Drained i) next in cc
has_work j s keeps (Got b service) next d drafted none = let no = next_is_beginning s.world (Got b service) next in cc
has_work j s keeps (Released place) next d drafted none = let no = next_is_beginning s.world (Released place) next in cc
