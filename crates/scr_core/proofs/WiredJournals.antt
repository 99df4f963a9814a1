-- What is kept of the manifests' needs and offers in the world of a journal that has grown.
use Rattle.std.proofs.Common.{◌≡◌, ◌≤◌, ◌+◌, ◌∙◌, ap, arith, sym, refl, subst, ℕ, List, [], ◌∷◌, Bool, true, false, Result, Ok, Err, Some}
use Rattle.std.specs.List.{Contains}
use Rattle.std.specs.Result.{IfOk, OnErr, OnOk}
use Rattle.std.proofs.lemmas.Bool.{ne_eqb}
use Rattle.callback_orders.specs.declared.callback.Outcome.{Outcome}
use Rattle.component_state.proofs.Apart.{in_first, in_rest}
use Rattle.journal_core.specs.Rooms.{JournalRows, empty_journal}
use Rattle.journal_core.specs.declared.entry.Entry.{Entry}
use Rattle.journal_core.specs.declared.entry.GateKey.{GateKey}
use Rattle.kept_wirings.specs.KeptRows.{AreKept}
use Rattle.kept_wirings.specs.WiringChanges.{IsChangeBy, with_wiring_change}
use Rattle.kept_wirings.specs.WiringRows.{HaveOwnNumbers, rows_of}
use Rattle.kept_wirings.specs.declared.kept_wirings.KeptWirings.{KeptWirings}
use Rattle.kept_wirings.specs.declared.wiring_changes.WiringChange.{WiringChange}
use Rattle.kept_wirings.proofs.ChangedRows.{IsNew, own_by}
use Rattle.scr_core.specs.Steps.{is_beginning}
use Rattle.scr_core.specs.Turns.{TakesTurn}
use Rattle.scr_core.specs.declared.turn.Taken.{Taken}
use Rattle.scr_core.specs.declared.turn.Taken.TheVariants.{Turn as TakenTurn, Idle}
use Rattle.scr_core.proofs.Begun.{next_is_beginning}
use Rattle.scr_core.proofs.EmptyState.{first_world}
use Rattle.scr_core.proofs.Lines.{history_append, ungot_lines, world_of_more}
use Rattle.scr_laws.proofs.Histories.{legal_is_asked}
use Rattle.scr_state.specs.Keeps.{Keeps}
use Rattle.scr_state.specs.declared.state.State.{State}
use Rattle.scr_world.specs.Calls.{Drains, EndsTurn, EndsUse, Gets, Grown, world_at}
use Rattle.scr_world.specs.Legal.{IsLegal}
use Rattle.scr_world.specs.Lists.{world_after_entry, world_of}
use Rattle.scr_world.specs.Steps.{History, history_of}
use Rattle.scr_world.specs.Stepping.{world_after_step}
use Rattle.scr_world.specs.Tables.{documents_by}
use Rattle.scr_world.specs.declared.contents.Contents.{Contents}
use Rattle.scr_world.specs.declared.marks.Token.{Token}
use Rattle.scr_world.specs.declared.reply.CoreFault.{CoreFault}
use Rattle.scr_world.specs.declared.reply.CoreFault.TheVariants.{JournalFull, OutOfMemory}
use Rattle.scr_world.specs.declared.step.Step.{Step}
use Rattle.scr_world.specs.declared.step.Step.TheVariants.{Command as Commanded, Begin, End, Drained, Got, Released}
use Rattle.scr_world.specs.declared.turn.Ended.{Ended}
use Rattle.scr_world.specs.declared.world.World.{World}

-- ---- documents

documents_after : (entry : Entry Step) (w : World) → (world_after_entry entry w).documents ≡ documents_by entry.step (w.bundles.numbered + 1) w.documents
unfolding world_after_entry world_after_step
documents_after entry w = refl

module _ (limit : ℕ) (old new : List (Entry Step)) where
  -- those of a journal that has grown by a step
  grown_documents : (step : Step) → Grown limit old step new → (world_at new).documents ≡ documents_by step ((world_at old).bundles.numbered + 1) (world_at old).documents
  grown_documents step (entry, its_step, follows, grew) =
      ap (λ (j : List (Entry Step)). (world_at j).documents) grew
      ∙ (ap (λ (h : History). (world_of h).documents) (history_append old entry)
      ∙ (ap (λ (w : World). w.documents) (world_of_more entry (history_of old))
      ∙ (documents_after entry (world_at old) ∙ ap (λ (s : Step). documents_by s ((world_at old).bundles.numbered + 1) (world_at old).documents) its_step)))

  abbrev AreSame : Type 0
  AreSame = (world_at new).documents ≡ (world_at old).documents

  same_documents : new ≡ old → AreSame
  same_documents same = ap (λ (j : List (Entry Step)). (world_at j).documents) same

  begun_documents : (step : Step) → is_beginning step ≡ true → Grown limit old step new → AreSame
  begun_documents (Commanded command) begins grown = cc
  begun_documents (Begin t i c b callback chosen) begins grown = grown_documents (Begin t i c b callback chosen) grown
  begun_documents (End t o) begins grown = cc
  begun_documents (Drained i) begins grown = cc
  begun_documents (Got b service) begins grown = cc
  begun_documents (Released place) begins grown = cc

  untaken : (fault : CoreFault) → TakesTurn limit old (Err fault) new → new ≡ old
  untaken OutOfMemory is = is
  untaken JournalFull is = is.3
  untaken fault is = absurd is

  taken_documents : (answer : Result Taken CoreFault) → TakesTurn limit old answer new → AreSame
  taken_documents (Ok (TakenTurn turn work)) is = begun_documents is.2.0 (next_is_beginning (world_at old) is.2.0 is.2.1) is.2.3
  taken_documents (Ok Idle) is = same_documents is.1
  taken_documents (Err fault) is = same_documents (untaken fault is)

  got_documents : (bundle service : ℕ) (answer : Result Token CoreFault) → Gets limit old bundle service answer new → AreSame
  got_documents bundle service (Ok note) is = grown_documents (Got bundle service) is.1
  got_documents bundle service (Err fault) is = same_documents (ungot_lines limit old new bundle service fault is)

  released_documents : (note : Token) (stood : Bool) → EndsUse limit old note stood new → AreSame
  released_documents note true is = grown_documents (Released note.place) is.1
  released_documents note false is = same_documents is.1

-- ---- numbers of their own

new_number : (most : ℕ) (cs : List Contents) → ((c : Contents) → Contains cs c → c.bundle ≤ most) → IsNew (most + 1) (rows_of cs)
new_number most [] below = tt
new_number most (c ∷ cs) below = (let low = below c (in_first c cs) in ne_eqb (most + 1) c.bundle (λ same. omega (arith, low, same)), new_number most cs (λ d h. below d (in_rest c cs d h)))

legal_own : (limit : ℕ) (past : History) → IsLegal limit past → HaveOwnNumbers (rows_of (world_of past).documents)
unfolding world_of
legal_own limit [] legal = tt
legal_own limit (entry ∷ past) legal =
    let w = world_of past in
    let apart = (legal_is_asked limit past legal.1).apart in
    subst (λ (cs : List Contents). HaveOwnNumbers (rows_of cs)) (sym (documents_after entry w))
    (own_by entry.step (w.bundles.numbered + 1) w.documents (legal_own limit past legal.1) (new_number w.bundles.numbered w.documents apart.documents_so_far))

pub kept_own : (j : JournalRows Step) (s : State) → Keeps j s → HaveOwnNumbers (rows_of s.world.documents)
kept_own j s keeps = subst (λ (w : World). HaveOwnNumbers (rows_of w.documents)) (sym keeps.world) (legal_own j.limit (history_of j.entries) keeps.legal)

-- ---- an empty journal

pub first_kept : (limit : ℕ) (s : State) (n : KeptWirings) → Keeps (empty_journal limit) s → AreKept [] n → AreKept s.world.documents n
first_kept limit s n keeps none = subst (λ (cs : List Contents). AreKept cs n) (sym (ap (λ (w : World). w.documents) (keeps.world ∙ first_world))) none

-- ---- the states of two journals, one after the other

-- what is kept of the same documents
pub kept_still : (cs ds : List Contents) (k n : KeptWirings) → AreKept cs k → n.bundles.items ≡ k.bundles.items → n.faults.items ≡ k.faults.items → ds ≡ cs → AreKept ds n
kept_still cs ds k n kept bundles faults same = subst (λ (those : List Contents). AreKept those n) (sym same) (record { bundles = bundles ∙ kept.bundles; faults = faults ∙ kept.faults })

module _ (j k : JournalRows Step) (s t : State) (before : Keeps j s) (after : Keeps k t) where
  -- a change of the rows that a step makes
  pub changed_rows : (step : Step) → Grown j.limit j.entries step k.entries → (change : WiringChange) → IsChangeBy step (s.world.bundles.numbered + 1) change
      → rows_of t.world.documents ≡ with_wiring_change change (rows_of s.world.documents)
  changed_rows step grown change is =
      ap (λ (w : World). rows_of w.documents) after.world
      ∙ (ap rows_of (grown_documents j.limit j.entries k.entries step grown)
      ∙ (ap (λ (w : World). rows_of (documents_by step (w.bundles.numbered + 1) w.documents)) (sym before.world) ∙ is s.world.documents))

  module _ (n : KeptWirings) (kept : AreKept s.world.documents n) where
    abbrev Kept : Type 0
    Kept = AreKept t.world.documents n

    by_documents : (world_at k.entries).documents ≡ (world_at j.entries).documents → Kept
    by_documents same =
        subst (λ (cs : List Contents). AreKept cs n) (sym (ap (λ (w : World). w.documents) after.world ∙ (same ∙ sym (ap (λ (w : World). w.documents) before.world)))) kept

    unchanged : k ≡ j → Kept
    unchanged same = by_documents (same_documents j.limit j.entries k.entries (ap (λ (x : JournalRows Step). x.entries) same))

    pub taken_kept : (limit : ℕ) (answer : Result Taken CoreFault) → TakesTurn limit j.entries answer k.entries → Kept
    taken_kept limit answer is = by_documents (taken_documents limit j.entries k.entries answer is)

    pub ended_kept : {E : Type 0} (limit : ℕ) (r : Result Ended E) (turn : ℕ) (outcome : Outcome) → IfOk r (λ ended. EndsTurn limit j.entries turn outcome ended k.entries) → OnErr r (k ≡ j) → Kept
    ended_kept limit (Ok ended) turn outcome done failed = by_documents (grown_documents limit j.entries k.entries (End turn outcome) done.0)
    ended_kept limit (Err e) turn outcome done failed = unchanged failed

    pub drained_kept : {A E : Type 0} (r : Result A E) (key : GateKey) → OnOk r (Drains j.limit j.entries key k.entries) → OnErr r (k ≡ j) → Kept
    drained_kept (Ok a) key (i, found, grown) failed = by_documents (grown_documents j.limit j.entries k.entries (Drained i.number) grown)
    drained_kept (Err e) key done failed = unchanged failed

    pub got_kept : (bundle service : ℕ) (answer : Result Token CoreFault) → Gets j.limit j.entries bundle service answer k.entries → Kept
    got_kept bundle service answer is = by_documents (got_documents j.limit j.entries k.entries bundle service answer is)

    pub released_kept : {E : Type 0} (r : Result Bool E) (note : Token) → IfOk r (λ stood. EndsUse j.limit j.entries note stood k.entries) → OnErr r (k ≡ j) → Kept
    released_kept (Ok stood) note done failed = by_documents (released_documents j.limit j.entries k.entries note stood done)
    released_kept (Err e) note done failed = unchanged failed
