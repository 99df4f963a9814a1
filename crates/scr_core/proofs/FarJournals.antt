-- How far an instance in the making is known to be in the world of a journal that has grown.
use Rattle.std.proofs.Common.{◌≡◌, ◌∙◌, ap, sym, refl, subst, ℕ, List, Bool, true, false, Result, Ok, Err, Some}
use Rattle.callback_orders.specs.declared.callback.Outcome.{Outcome}
use Rattle.journal_core.specs.Rooms.{JournalRows}
use Rattle.journal_core.specs.declared.entry.Entry.{Entry}
use Rattle.journal_core.specs.declared.entry.GateKey.{GateKey}
use Rattle.scr_core.specs.Turns.{TakesTurn}
use Rattle.scr_core.specs.declared.turn.Taken.{Taken}
use Rattle.scr_core.specs.declared.turn.Taken.TheVariants.{Turn as TakenTurn, Idle}
use Rattle.scr_core.proofs.Begun.{next_is_beginning}
use Rattle.scr_core.proofs.FarSteps.{begun_far, drained_far, ended_far, got_far, released_far, same_far}
use Rattle.scr_core.proofs.Lines.{history_append, ungot_lines, world_of_more}
use Rattle.scr_dues.specs.declared.making.Making.{Making}
use Rattle.scr_dues.specs.Makings.{AreNumbered, IsThatFar, known_after_end}
use Rattle.scr_laws.proofs.LegalOrder.{legal_ordered}
use Rattle.scr_laws.proofs.LivingLaws.{legal_told}
use Rattle.scr_state.specs.Keeps.{Keeps}
use Rattle.scr_state.specs.declared.state.State.{State}
use Rattle.scr_world.specs.Calls.{Drains, EndsUse, Gets, Grown, world_at}
use Rattle.scr_world.specs.Dues.{next_begin}
use Rattle.scr_world.specs.Legal.{IsLegal}
use Rattle.scr_world.specs.Lists.{world_after_entry, world_of}
use Rattle.scr_world.specs.Steps.{History, history_of}
use Rattle.scr_world.specs.Stepping.{world_after_step}
use Rattle.scr_world.specs.declared.marks.Token.{Token}
use Rattle.scr_world.specs.declared.reply.CoreFault.{CoreFault}
use Rattle.scr_world.specs.declared.reply.CoreFault.TheVariants.{JournalFull, OutOfMemory}
use Rattle.scr_world.specs.declared.step.Step.{Step}
use Rattle.scr_world.specs.declared.step.Step.TheVariants.{Command as Commanded, Begin, End, Drained, Got, Released}
use Rattle.scr_world.specs.declared.world.World.{World}

-- instances of a legal journal have numbers of their own
pub legal_numbered : (limit : ℕ) (past : History) → IsLegal limit past → AreNumbered (world_of past)
legal_numbered limit past legal = let told = legal_told limit past legal in record { apart = told.numbers; given = told.numbered }

-- the lists of an entry leave instances and component configurations as they are
entry_far : (entry : Entry Step) (w : World) (m : Making) → IsThatFar (world_after_step entry.step w) m → IsThatFar (world_after_entry entry w) m
unfolding world_after_entry
entry_far entry w m far = same_far (world_after_step entry.step w) (world_after_entry entry w) m refl refl refl far

module _ (limit : ℕ) (old new : List (Entry Step)) (m : Making) where
  abbrev Far : List (Entry Step) → Type 0
  Far journal = IsThatFar (world_at journal) m

  pub grown_known : (step : Step) → Grown limit old step new → IsThatFar (world_after_step step (world_at old)) m → Far new
  grown_known step (entry, its_step, follows, grew) far =
      subst (λ (w : World). IsThatFar w m)
      (sym (ap (λ (j : List (Entry Step)). world_at j) grew ∙ ap (λ (h : History). world_of h) (history_append old entry) ∙ world_of_more entry (history_of old)))
      (entry_far entry (world_at old) m (subst (λ (s : Step). IsThatFar (world_after_step s (world_at old)) m) (sym its_step) far))

  pub same_known : new ≡ old → Far old → Far new
  same_known same far = subst Far (sym same) far

  module _ (legal : IsLegal limit (history_of old)) (far : Far old) where
    begun_known : (step : Step) → next_begin (world_at old) ≡ Some step → Grown limit old step new → Far new
    begun_known (Commanded command) next grown = let no = next_is_beginning (world_at old) (Commanded command) next in cc
    begun_known (Begin t i c b callback chosen) next grown =
        grown_known (Begin t i c b callback chosen) grown (begun_far (world_at old) (legal_ordered limit (history_of old) legal) t i c b callback chosen m far next)
    begun_known (End t o) next grown = let no = next_is_beginning (world_at old) (End t o) next in cc
    begun_known (Drained i) next grown = let no = next_is_beginning (world_at old) (Drained i) next in cc
    begun_known (Got b service) next grown = let no = next_is_beginning (world_at old) (Got b service) next in cc
    begun_known (Released place) next grown = let no = next_is_beginning (world_at old) (Released place) next in cc

    untaken : (fault : CoreFault) → TakesTurn limit old (Err fault) new → new ≡ old
    untaken OutOfMemory is = is
    untaken JournalFull is = is.3
    untaken fault is = absurd is

    -- a turn was taken, or none
    pub taken_known : (answer : Result Taken CoreFault) → TakesTurn limit old answer new → Far new
    taken_known (Ok (TakenTurn turn work)) is = begun_known is.2.0 is.2.1 is.2.3
    taken_known (Ok Idle) is = same_known is.1 far
    taken_known (Err fault) is = same_known (untaken fault is) far

  module _ (far : Far old) where
    pub drained_known : (key : GateKey) → Drains limit old key new → Far new
    drained_known key (i, found, grown) = grown_known (Drained i.number) grown (drained_far (world_at old) m far i.number)

    pub got_known : (bundle service : ℕ) (answer : Result Token CoreFault) → Gets limit old bundle service answer new → Far new
    got_known bundle service (Ok note) is = grown_known (Got bundle service) is.1 (got_far (world_at old) m far bundle service)
    got_known bundle service (Err fault) is = same_known (ungot_lines limit old new bundle service fault is) far

    pub released_known : (note : Token) (stood : Bool) → EndsUse limit old note stood new → Far new
    released_known note true is = grown_known (Released note.place) is.1 (released_far (world_at old) m far note.place)
    released_known note false is = same_known is.1 far

-- a turn has ended
pub ended_known : (limit : ℕ) (old new : List (Entry Step)) (m : Making) (turn : ℕ) (outcome : Outcome) → IsThatFar (world_at old) m → Grown limit old (End turn outcome) new → IsThatFar (world_at new) (known_after_end (world_at old) turn m)
ended_known limit old new m turn outcome far grown =
    grown_known limit old new (known_after_end (world_at old) turn m) (End turn outcome) grown (ended_far (world_at old) m far turn outcome)

-- ---- the states of two journals, one after the other

module _ (j k : JournalRows Step) (s t : State) (before : Keeps j s) (after : Keeps k t) (m : Making) (far : IsThatFar s.world m) where
  at : IsThatFar (world_at j.entries) m
  at = subst (λ (w : World). IsThatFar w m) before.world far

  then : (n : Making) → IsThatFar (world_at k.entries) n → IsThatFar t.world n
  then n is = subst (λ (w : World). IsThatFar w n) (sym after.world) is

  pub far_still : k ≡ j → IsThatFar t.world m
  far_still same = then m (same_known j.limit j.entries k.entries m (ap (λ (x : JournalRows Step). x.entries) same) at)

  pub far_taken : (answer : Result Taken CoreFault) → TakesTurn j.limit j.entries answer k.entries → IsThatFar t.world m
  far_taken answer is = then m (taken_known j.limit j.entries k.entries m before.legal at answer is)

  pub far_ended : (turn : ℕ) (outcome : Outcome) → Grown j.limit j.entries (End turn outcome) k.entries → IsThatFar t.world (known_after_end s.world turn m)
  far_ended turn outcome grown =
      then (known_after_end s.world turn m)
      (subst (λ (w : World). IsThatFar (world_at k.entries) (known_after_end w turn m)) (sym before.world) (ended_known j.limit j.entries k.entries m turn outcome at grown))

  pub far_drained : (key : GateKey) → Drains j.limit j.entries key k.entries → IsThatFar t.world m
  far_drained key is = then m (drained_known j.limit j.entries k.entries m at key is)

  pub far_got : (bundle service : ℕ) (answer : Result Token CoreFault) → Gets j.limit j.entries bundle service answer k.entries → IsThatFar t.world m
  far_got bundle service answer is = then m (got_known j.limit j.entries k.entries m at bundle service answer is)

  pub far_released : (note : Token) (stood : Bool) → EndsUse j.limit j.entries note stood k.entries → IsThatFar t.world m
  far_released note stood is = then m (released_known j.limit j.entries k.entries m at note stood is)
