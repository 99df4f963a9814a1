-- An entry at the end of the journal: the state after it is what the longer journal says.
use Rattle.std.proofs.Common.{◌≡◌, ◌+◌, ◌≤◌, ◌∙◌, ◌++◌, ◌∷◌, [], ap, arith, refl, subst, sym, true, ℕ, List, length}
use Rattle.std.specs.Option.{unwrap_or}
use Rattle.std.proofs.lemmas.List.{length-reverse, reverse-append}
use Rattle.bundle_life.specs.Lives.{BundleTable}
use Rattle.component_state.specs.Inside.Ready.{IsReady}
use Rattle.component_state.specs.Passes.{HasPassed, Stage}
use Rattle.component_state.specs.declared.pass.Passed.{Passed}
use Rattle.journal_core.specs.Rooms.{JournalRows}
use Rattle.journal_core.specs.declared.entry.Entry.{Entry}
use Rattle.prop_map.specs.Words.{has}
use Rattle.scr_laws.specs.Following.{entry_of}
use Rattle.scr_laws.proofs.FollowingEntries.{follows}
use Rattle.scr_laws.proofs.Reserved.{room_in}
use Rattle.scr_laws.proofs.Scratch.{satisfied_then}
use Rattle.scr_growth.specs.Growths.{AreCached, HasFinished, IsAmid, IsBefore, IsTold, MayGrow}
use Rattle.scr_growth.specs.declared.passing.Finished.{Finished}
use Rattle.scr_growth.specs.declared.told.Told.{Told}
use Rattle.scr_laws.proofs.ReadyStages.{legal_ready}
use Rattle.scr_state.specs.Drafts.{with_draft}
use Rattle.scr_state.specs.Keeps.{IsDraft, Keeps}
use Rattle.scr_state.specs.declared.draft.Draft.{Draft}
use Rattle.scr_state.specs.declared.state.State.{State}
use Rattle.scr_world.specs.Calls.{Grown, world_at}
use Rattle.scr_world.specs.Consequences.{shut_between, stage_in, stage_of, stopped_by, stopped_in}
use Rattle.scr_world.specs.Legal.{Follows, IsLegal, MayCome}
use Rattle.scr_world.specs.Levels.{levels_of}
use Rattle.scr_world.specs.Lists.{world_after_entry, world_of}
use Rattle.scr_world.specs.Room.{has_room, needed_by, reserved}
use Rattle.scr_world.specs.Stepping.{failing, world_after_step}
use Rattle.scr_world.specs.Steps.{History, history_of}
use Rattle.scr_world.specs.Tables.{bundles_by, descriptions_of}
use Rattle.scr_world.specs.Worlds.{satisfied_in}
use Rattle.scr_world.specs.declared.step.Step.{Step}
use Rattle.scr_world.specs.declared.world.World.{World}

-- ---- small facts

-- an entry at the end of a journal is the first of its history
history_append : (entries : List (Entry Step)) (entry : Entry Step) → history_of (entries ++ entry ∷ []) ≡ entry ∷ history_of entries
history_append entries entry = reverse-append entries (entry ∷ [])

stage_is_in : (step : Step) (w : World) → stage_in (world_after_step step w) (failing step w) ≡ stage_of step w
unfolding stage_of
stage_is_in step w = refl

pub stopped_is_in : (step : Step) (w : World) → stopped_in (world_after_step step w) ≡ stopped_by step w
unfolding stopped_by
stopped_is_in step w = refl

world_of_more : (entry : Entry Step) (past : History) → world_of (entry ∷ past) ≡ world_after_entry entry (world_of past)
unfolding world_of
world_of_more entry past = refl

documents_then : (entry : Entry Step) (w : World) → (world_after_entry entry w).documents ≡ (world_after_step entry.step w).documents
unfolding world_after_entry
documents_then entry w = refl

held_before : (step : Step) (w : World) → (world_after_step step w).unregistered_held ≡ w.unregistered_held
unfolding world_after_step
held_before step w = refl

registry_of : (d : Draft) (w : World) → (with_draft d w).registry ≡ unwrap_or d.registry w.registry
unfolding with_draft
registry_of d w = refl

periods_of : (d : Draft) (w : World) → (with_draft d w).open_periods ≡ unwrap_or d.open_periods w.open_periods
unfolding with_draft
periods_of d w = refl

-- ---- the step stands in the world

module _ (journal : JournalRows Step) (s : State) (keeps : Keeps journal s) (step : Step) (b : BundleTable) (b_is : b ≡ bundles_by step s.world.bundles) (may : MayCome s.world step) (room : has_room journal.limit s.world (needed_by step) ≡ true)
    (d : Draft) (draft : IsDraft s step d) (m : World) (m_is : m ≡ with_draft d (record s.world { bundles = b })) (undo : Draft) (back : with_draft undo m ≡ record s.world { bundles = b }) (ds : undo.descriptions ≡ d.descriptions) (ls : undo.levels ≡ d.levels) where
  step_in : m ≡ world_after_step step s.world
  step_in = m_is ∙ ap (λ (t : BundleTable). with_draft d (record s.world { bundles = t })) b_is ∙ draft.world

  abbrev past : History
  past = history_of journal.entries

  abbrev was : World
  was = world_at journal.entries

  stepped_is : m ≡ world_after_step step (world_at journal.entries)
  stepped_is = step_in ∙ ap (world_after_step step) keeps.world

  grows : MayGrow journal step
  grows = record {
    legal = keeps.legal;
    small = keeps.small;
    reserved = keeps.reserved ∙ ap reserved keeps.world;
    may = subst (λ (w : World). MayCome w step) keeps.world may;
    room = ap (λ (w : World). has_room journal.limit w (needed_by step)) (sym keeps.world) ∙ room;
  }

  cached : AreCached (record s { world = m }) undo
  cached = record {
    descriptions = ap (λ o. unwrap_or o s.descriptions) ds ∙ draft.descriptions ∙ ap (λ (w : World). descriptions_of w.documents) (sym step_in);
    levels = ap (λ o. unwrap_or o s.levels) ls ∙ draft.levels ∙ ap levels_of (sym draft.descriptions ∙ ap (λ o. unwrap_or o s.descriptions) (sym ds));
  }

  before : IsBefore (world_at journal.entries) m undo m.open_periods
  before = record {
    registry = ap (λ t. t.rows) (sym (registry_of undo m)) ∙ ap (λ (w : World). w.registry.rows) back ∙ ap (λ (w : World). w.registry.rows) keeps.world;
    periods = sym (periods_of undo m) ∙ ap (λ (w : World). w.open_periods) back ∙ ap (λ (w : World). w.open_periods) keeps.world;
    held = sym (held_before step (world_at journal.entries)) ∙ ap (λ (w : World). w.unregistered_held) (sym stepped_is);
  }

  pub amid : (told : Told) → IsTold step s.world told → IsAmid journal step (record s { world = m }) undo told
  amid told is = record {
    grows = grows;
    world = stepped_is;
    cached = cached;
    before = before;
    told = subst (λ (w : World). IsTold step w told) keeps.world is;
    satisfied = λ number. keeps.satisfied number ∙ ap (λ (w : World). has (satisfied_in w) number) keeps.world;
  }

  -- ---- and its entry stands in the journal

  module _ (new : JournalRows Step) (now : State) (f : Finished) (done : HasFinished journal step (record s { world = m }) new now f) where
    abbrev entry : Entry Step
    entry = entry_of step done.pass (world_at journal.entries)

    it_follows : Follows journal.limit (entry_of step done.pass (world_at journal.entries)) (history_of journal.entries)
    it_follows = follows journal.limit (history_of journal.entries) keeps.legal step grows.may grows.room done.pass done.passed

    history_then : history_of new.entries ≡ entry_of step done.pass (world_at journal.entries) ∷ history_of journal.entries
    history_then = ap (λ (j : JournalRows Step). history_of j.entries) done.journal ∙ history_append journal.entries (entry_of step done.pass (world_at journal.entries))

    world_is : now.world ≡ world_after_entry (entry_of step done.pass (world_at journal.entries)) (world_at journal.entries)
    world_is = ap (λ (x : State). x.world) done.state

    pub world_then : now.world ≡ world_at new.entries
    world_then = world_is ∙ sym (world_of_more (entry_of step done.pass (world_at journal.entries)) (history_of journal.entries)) ∙ ap world_of (sym history_then)

    pub limit_then : new.limit ≡ journal.limit
    limit_then = ap (λ (j : JournalRows Step). j.limit) done.journal

    documents_now : m.documents ≡ now.world.documents
    documents_now = ap (λ (w : World). w.documents) stepped_is ∙ sym (documents_then (entry_of step done.pass (world_at journal.entries)) (world_at journal.entries)) ∙ ap (λ (w : World). w.documents) (sym world_is)

    module _ (end : State) (world : end.world ≡ now.world) (descriptions : end.descriptions ≡ unwrap_or undo.descriptions now.descriptions) (levels : end.levels ≡ unwrap_or undo.levels now.levels) (satisfied : end.satisfied ≡ f.satisfied) where
      end_descriptions : end.descriptions ≡ unwrap_or undo.descriptions s.descriptions
      end_descriptions = descriptions ∙ ap (λ (x : State). unwrap_or undo.descriptions x.descriptions) done.state

      pub kept : Keeps new end
      kept = record {
        world = world ∙ world_then;
        descriptions = end_descriptions ∙ cached.descriptions ∙ ap descriptions_of (documents_now ∙ ap (λ (w : World). w.documents) (sym world));
        levels = levels ∙ ap (λ (x : State). unwrap_or undo.levels x.levels) done.state ∙ cached.levels ∙ ap levels_of (sym end_descriptions);
        satisfied = λ number.
            ap (λ ns. has ns number) satisfied ∙ done.satisfied number
            ∙ ap (λ ns. has ns number) (satisfied_then step (world_at journal.entries) done.pass done.passed)
            ∙ ap (λ (w : World). has (satisfied_in w) number) (sym (world ∙ world_is));
        reserved = ap (λ (j : JournalRows Step). j.reserved) done.journal ∙ ap reserved (sym world);
        legal = subst (λ (h : History). IsLegal new.limit h) (sym history_then)
            (subst (λ (l : ℕ). IsLegal l (entry_of step done.pass (world_at journal.entries) ∷ history_of journal.entries)) (sym limit_then) (it_follows, keeps.legal));
        small = subst (λ (l : ℕ). l ≤ 4194304) (sym limit_then) keeps.small;
      }

    pub grown : Grown journal.limit journal.entries step new.entries
    grown = (entry_of step done.pass (world_at journal.entries), refl, it_follows, ap (λ (j : JournalRows Step). j.entries) done.journal)

    pub shut_then : f.shut ≡ shut_between (world_at journal.entries) (world_at new.entries)
    shut_then = done.shut ∙ ap (shut_between (world_at journal.entries)) world_then

-- ---- the pass

module _ (journal : JournalRows Step) (step : Step) (s : State) (undo : Draft) (told : Told) (amid_it : IsAmid journal step s undo told) where
  stage_is : stage_in s.world told.failing ≡ stage_of step (world_at journal.entries)
  stage_is = ap (stage_in s.world) amid_it.told.failing ∙ ap (λ (w : World). stage_in w (failing step (world_at journal.entries))) amid_it.world ∙ stage_is_in step (world_at journal.entries)

  pub ready_then : IsReady (stage_in s.world told.failing)
  ready_then = subst (λ (t : Stage). IsReady t) (sym stage_is) (legal_ready journal.limit (history_of journal.entries) amid_it.grows.legal step amid_it.grows.may)

  pub passed_then : (pass : Passed) → HasPassed (stage_in s.world told.failing) pass → HasPassed (stage_of step (world_at journal.entries)) pass
  passed_then pass passed = subst (λ (t : Stage). HasPassed t pass) stage_is passed

-- ---- room for the entry

pub room_then : (journal : JournalRows Step) (step : Step) (pass : Passed) → MayGrow journal step → HasPassed (stage_of step (world_at journal.entries)) pass
    → length journal.entries + 1 + reserved (world_after_entry (entry_of step pass (world_at journal.entries)) (world_at journal.entries)) ≤ journal.limit
room_then journal step pass grows passed =
    let it = follows journal.limit (history_of journal.entries) grows.legal step grows.may grows.room pass passed in
    let within = room_in journal.limit (entry_of step pass (world_at journal.entries) ∷ history_of journal.entries) (it, grows.legal) in
    let world = ap reserved (world_of_more (entry_of step pass (world_at journal.entries)) (history_of journal.entries)) in
    let long = length-reverse journal.entries in
    omega (arith, within, world, long)
