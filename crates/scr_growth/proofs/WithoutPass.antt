-- A command that no component tells apart: the pass that does nothing is its pass.
use Rattle.std.proofs.Common.{◌≡◌, ◌∙◌, ◌∷◌, [], ◌++◌, ap, refl, sym, true, ℕ, List}
use Rattle.component_state.specs.Passes.{HasPassed}
use Rattle.journal_core.specs.Rooms.{JournalRows}
use Rattle.journal_core.specs.declared.entry.Entry.{Entry}
use Rattle.journal_core.specs.declared.entry.GateKey.{GateKey}
use Rattle.prop_map.specs.Words.{has}
use Rattle.scr_laws.specs.Following.{entry_of}
use Rattle.scr_laws.proofs.FollowingEntries.{follows}
use Rattle.scr_laws.proofs.Scratch.{satisfied_then}
use Rattle.scr_growth.specs.Growths.{HasFinished, HasSettled, IsAmid, no_lists, passed_world}
use Rattle.scr_growth.specs.declared.passing.Finished.{Finished}
use Rattle.scr_growth.specs.declared.told.Told.{Told}
use Rattle.scr_laws.proofs.StillLaw.{legal_calm}
use Rattle.scr_laws.specs.Stills.{passed_nothing}
use Rattle.scr_state.specs.declared.draft.Draft.{Draft}
use Rattle.scr_state.specs.declared.state.State.{State}
use Rattle.scr_unseen.specs.Unseen.{is_unseen}
use Rattle.scr_unseen.proofs.UnseenEntries.{same_satisfied, unseen_passes}
use Rattle.scr_unseen.proofs.UnseenStages.{none_stop}
use Rattle.scr_world.specs.Calls.{world_at}
use Rattle.scr_world.specs.Consequences.{shut_between, stage_in, stage_of, stopped_by}
use Rattle.scr_world.specs.Legal.{Follows}
use Rattle.scr_world.specs.Lists.{world_after_entry, world_of}
use Rattle.scr_world.specs.Room.{reserved}
use Rattle.scr_world.specs.Stepping.{world_after_step}
use Rattle.scr_world.specs.Steps.{History, history_of}
use Rattle.scr_world.specs.Worlds.{satisfied_in}
use Rattle.scr_world.specs.declared.step.Step.{Step}
use Rattle.scr_world.specs.declared.world.World.{World}

-- such a pass leaves open what is open
open_stays : (step : Step) (w : World) → world_after_step step w ≡ passed_world step w (passed_nothing (stage_of step w)).open_now
unfolding stage_of stage_in
open_stays step w = refl

world_of_more : (entry : Entry Step) (past : History) → world_of (entry ∷ past) ≡ world_after_entry entry (world_of past)
unfolding world_of
world_of_more entry past = refl

module _ (journal : JournalRows Step) (step : Step) (s : State) (undo : Draft) (told : Told) (amid : IsAmid journal step s undo told) (told_unseen : told.unseen ≡ true) where
  unseen : is_unseen step (world_at journal.entries) ≡ true
  unseen = sym amid.told.unseen ∙ told_unseen

  pub passed : HasPassed (stage_of step (world_at journal.entries)) (passed_nothing (stage_of step (world_at journal.entries)))
  passed = unseen_passes journal.limit (history_of journal.entries) amid.grows.legal step unseen

  pub stops : stopped_by step (world_at journal.entries) ≡ []
  stops = none_stop (world_at journal.entries) (legal_calm journal.limit (history_of journal.entries) amid.grows.legal) step unseen

  pub world_is : s.world ≡ passed_world step (world_at journal.entries) (passed_nothing (stage_of step (world_at journal.entries))).open_now
  world_is = amid.world ∙ open_stays step (world_at journal.entries)

  it_follows : Follows journal.limit (entry_of step (passed_nothing (stage_of step (world_at journal.entries))) (world_at journal.entries)) (history_of journal.entries)
  it_follows = follows journal.limit (history_of journal.entries) amid.grows.legal step amid.grows.may amid.grows.room (passed_nothing (stage_of step (world_at journal.entries))) passed

  satisfied_stay : (number : ℕ) → has s.satisfied number ≡ has (passed_nothing (stage_of step (world_at journal.entries))).satisfied number
  satisfied_stay number =
      let entry = entry_of step (passed_nothing (stage_of step (world_at journal.entries))) (world_at journal.entries) in
      amid.satisfied number
      ∙ sym (same_satisfied journal.limit entry (history_of journal.entries) (it_follows, amid.grows.legal) unseen number)
      ∙ ap (λ (w : World). has (satisfied_in w) number) (world_of_more entry (history_of journal.entries))
      ∙ ap (λ (ns : List ℕ). has ns number) (sym (satisfied_then step (world_at journal.entries) (passed_nothing (stage_of step (world_at journal.entries))) passed))

  module _ (new : JournalRows Step) (now : State) (keys : List GateKey) (done : HasSettled journal step no_lists s new now keys) (numbers : List ℕ) (same : numbers ≡ s.satisfied) where
    pub finished : HasFinished journal step s new now (record { shut = keys; satisfied = numbers })
    finished = record {
      pass = passed_nothing (stage_of step (world_at journal.entries));
      passed = passed;
      journal = done.journal
          ∙ ap (λ (ns : List ℕ). record journal { entries = journal.entries ++ record { step = step; closed = []; opened = []; stopped = ns } ∷ []; reserved = reserved now.world }) (sym stops);
      state = done.state ∙ ap (λ (ns : List ℕ). record s { world = world_after_entry (record { step = step; closed = []; opened = []; stopped = ns }) (world_at journal.entries) }) (sym stops);
      shut = done.shut;
      satisfied = λ number. ap (λ (ns : List ℕ). has ns number) same ∙ satisfied_stay number;
    }
