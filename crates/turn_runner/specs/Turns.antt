-- Turns one after the other, over a desk that is known by relations between its states alone (our own).
use Rattle.std.specs.Arc.{arc_value}
use Rattle.std.specs.Prelude.{zero, suc, ℕ, ◌≤◌, ◌<◌, List, Bool, true, false, ◌≡◌, ◌⊎◌, Option, Some, None, Result, Ok, Err}
use Rattle.prop_map.specs.declared.properties.Property.{Property}
use Rattle.callback_orders.specs.declared.callback.Outcome.{Outcome}
use Rattle.kind_trait.specs.declared.kind_fault.KindFault.{KindFault}
use Rattle.turn_work.specs.declared.site.Site.{Site}
use Rattle.kind_trait.specs.Meanings.{Told}
use Rattle.turn_work.specs.declared.work.TurnWork.{TurnWork}
use Rattle.turn_runner.specs.declared.came.Came.{Came}
use Rattle.turn_runner.specs.declared.desk_fault.DeskFault.{DeskFault}
use Rattle.turn_runner.specs.declared.desk_fault.DeskFault.TheVariants.{JournalFull as NoRoom, OutOfMemory as NoMemoryLeft}
use Rattle.turn_runner.specs.declared.settle_fault.SettleFault.{SettleFault}
use Rattle.turn_runner.specs.declared.settle_fault.SettleFault.TheVariants.{Unsettled, JournalFull, OutOfMemory}
use Rattle.turn_runner.specs.Outcomes.{is_refused, IsHeard, IsMadeFor, IsMadeFrom, IsOutcome, IsOwnFrom, outcome_where}

-- the first due turn was taken, exactly where one is due and there is room for it
abbrev pub IsTaken : {S : Type 0} → (S → Bool) → (S → Bool) → (S → TurnWork → S → Type 0) → S → Result (Option TurnWork) DeskFault → S → Type 0
IsTaken has_due has_room begins before (Ok None) after = (has_due before ≡ false) × (after ≡ before)
IsTaken has_due has_room begins before (Ok (Some work)) after = (has_due before ≡ true) × (has_room before ≡ true) × begins before work after
IsTaken has_due has_room begins before (Err NoRoom) after = (has_due before ≡ true) × (has_room before ≡ false) × (after ≡ before)
IsTaken has_due has_room begins before (Err NoMemoryLeft) after = after ≡ before

-- the object of a turn's instance is handed out once, and the turn ends with an outcome: what an object of its instance's own answered, where one
-- has to be told. An own object afterwards was so before, or the turn is a Create and made it for its class and properties
abbrev pub HeardEnds : {S O : Type 0} → (S → ℕ → Option TurnWork) → (S → ℕ → O → Type 0) → (O → Site → Type 0) → (O → Site → Told → Result (Unit {0}) KindFault → Type 0) → (S → ℕ → S → Type 0) → (S → ℕ → Outcome → S → Type 0) → S → ℕ → Outcome → S → Type 0
HeardEnds {S} running owns made hears hands ends before number outcome after =
    ((handed : S) × hands before number handed × ends handed number outcome after) × IsHeard owns hears before (running before number) outcome × IsOwnFrom owns made before (running before number) after

-- what a turn came to: its outcome is right, an object of its instance's own answered it where one has to be told, and what was made was made for
-- the class and the properties of the turn
abbrev pub IsAnswered : {S O : Type 0} → (S → ℕ → O → Type 0) → (O → Site → Type 0) → (O → Site → Told → Result (Unit {0}) KindFault → Type 0) → (List ℕ → List Property → Told → Bool) → S → Came O → Type 0
IsAnswered owns made hears refuses desk came =
    IsOutcome (is_refused refuses came.work) came.ran.outcome × IsHeard owns hears desk (Some came.work) came.ran.outcome × IsMadeFrom made arc_value came.work.site came.ran.made

-- a turn that has begun goes on: all is as it was, or its object was handed out to be told of it, and what it came to is kept
abbrev pub Stays : {S O : Type 0} → (S → ℕ → O → Type 0) → (O → Site → Type 0) → (O → Site → Told → Result (Unit {0}) KindFault → Type 0) → (List ℕ → List Property → Told → Bool) → (S → ℕ → S → Type 0) → (S → Came O → S → Type 0) → S → TurnWork → S → Type 0
Stays {S} {O} owns made hears refuses hands keeps before work after =
    (after ≡ before) ⊎ ((handed : S) × (came : Came O) × (came.work ≡ work) × hands before work.number handed × keeps handed came after × IsAnswered owns made hears refuses before came)

-- a turn that wasn't told is told and ends with this outcome, which is Refused exactly where component code refuses it
abbrev pub EndsUntold : {S : Type 0} → (S → ℕ → Outcome → S → Type 0) → (List ℕ → List Property → Told → Bool) → S → TurnWork → Outcome → S → Type 0
EndsUntold heard_ends refuses before work outcome after = IsOutcome (is_refused refuses work) outcome × heard_ends before work.number outcome after

-- a turn that was told before ends with what is kept of it, and nobody hears of it. An own object afterwards was so before, or is the one that is kept
abbrev pub KeptEnds : {S O : Type 0} → (S → ℕ → Option (Came O)) → (S → ℕ → O → Type 0) → (S → ℕ → Outcome → S → Type 0) → S → TurnWork → Outcome → S → Type 0
KeptEnds {S} {O} kept owns ends before work outcome after =
    (came : Came O) × (kept before work.number ≡ Some came) × (came.work ≡ work) × (outcome ≡ came.ran.outcome) × ends before work.number outcome after
    × ((instance : ℕ) (object : O) → owns after instance object → owns before instance object ⊎ IsMadeFor arc_value (Some work) came.ran.made instance object)

-- a turn is told once: one of which nothing is kept is told and ends, and one that was told ends with what is kept of it
abbrev pub EndsOnce : {S O : Type 0} → (S → ℕ → Option (Came O)) → (S → ℕ → O → Type 0) → (S → ℕ → Outcome → S → Type 0) → (S → ℕ → Outcome → S → Type 0) → (List ℕ → List Property → Told → Bool) → S → TurnWork → Outcome → S → Type 0
EndsOnce kept owns heard_ends ends refuses before work outcome after =
    ((kept before work.number ≡ None) × EndsUntold heard_ends refuses before work outcome after) ⊎ KeptEnds kept owns ends before work outcome after

-- a turn begins and then goes on
abbrev pub Starts : {S : Type 0} → (S → TurnWork → S → Type 0) → (S → TurnWork → S → Type 0) → S → TurnWork → S → Type 0
Starts {S} begins stays before work after = (begun : S) × begins before work begun × stays begun work after

-- a turn begins, it ends with this outcome, and the drains that are due then are posted
abbrev pub Ends : {S : Type 0} → (S → TurnWork → S → Type 0) → (S → ℕ → Outcome → S → Type 0) → (S → S → Type 0) → TurnWork → Outcome → S → S → Type 0
Ends {S} begins ends posts work outcome before after = (begun : S) × (ended : S) × begins before work begun × ends begun work.number outcome ended × posts ended after

-- a turn runs, its outcome is Refused where the component code refuses it, else Done, and no drain is left to be posted behind it
abbrev pub Turn : {S : Type 0} → (S → Bool) → (S → TurnWork → S → Type 0) → (S → ℕ → Outcome → S → Type 0) → (S → S → Type 0) → (List ℕ → List Property → Told → Bool) → S → S → Type 0
Turn has_drain begins ends posts refuses before after = (work : TurnWork) × Ends begins ends posts work (outcome_where (is_refused refuses work)) before after × (has_drain after ≡ false)

-- so many turns run
abbrev pub Turns : {S : Type 0} → (S → Bool) → (S → TurnWork → S → Type 0) → (S → ℕ → Outcome → S → Type 0) → (S → S → Type 0) → (List ℕ → List Property → Told → Bool) → ℕ → S → S → Type 0
Turns has_drain begins ends posts refuses zero before after = before ≡ after
Turns {S} has_drain begins ends posts refuses (suc count) before after = (between : S) × Turns has_drain begins ends posts refuses count before between × Turn has_drain begins ends posts refuses between after

-- the drains that are due are posted, and then so many turns run
abbrev pub Settles : {S : Type 0} → (S → Bool) → (S → TurnWork → S → Type 0) → (S → ℕ → Outcome → S → Type 0) → (S → S → Type 0) → (List ℕ → List Property → Told → Bool) → ℕ → S → S → Type 0
Settles {S} has_drain begins ends posts refuses count before after = (start : S) × posts before start × (has_drain start ≡ false) × Turns has_drain begins ends posts refuses count start after

-- a turn is cut off by want of memory: it has begun and goes on, or it has ended, and some of the drains are posted
abbrev pub IsCutOff : {S : Type 0} → (S → TurnWork → S → Type 0) → (S → TurnWork → S → Type 0) → (S → ℕ → Outcome → S → Type 0) → (S → S → Type 0) → (List ℕ → List Property → Told → Bool) → S → S → Type 0
IsCutOff begins starts ends posts refuses before after = ((work : TurnWork) × starts before work after) ⊎ ((work : TurnWork) × (outcome : Outcome) × IsOutcome (is_refused refuses work) outcome × Ends begins ends posts work outcome before after)

-- a turn that has begun ends with this outcome, and the drains that are due then are posted; want of memory leaves it going on, or it has ended and
-- some of the drains are posted
abbrev pub IsFinished : {S E : Type 0} → (S → Bool) → (S → TurnWork → S → Type 0) → (S → TurnWork → Outcome → S → Type 0) → (S → S → Type 0) → TurnWork → S → Result Outcome E → S → Type 0
IsFinished {S} has_drain stays ends posts work begun (Ok outcome) after = (ended : S) × ends begun work outcome ended × posts ended after × (has_drain after ≡ false)
IsFinished {S} has_drain stays ends posts work begun (Err _) after = stays begun work after ⊎ ((outcome : Outcome) × (ended : S) × ends begun work outcome ended × posts ended after)

-- a turn that has begun ends, other than with NoMemory, which is told as want of memory
abbrev pub IsEndRun : {S T E : Type 0} → (S → Bool) → (S → TurnWork → S → Type 0) → (S → ℕ → Outcome → S → Type 0) → (S → S → Type 0) → Bool → TurnWork → S → Result T E → S → Type 0
IsEndRun {S} has_drain stays ends posts refused work begun (Ok _) after = (ended : S) × ends begun work.number (outcome_where refused) ended × posts ended after × (has_drain after ≡ false)
IsEndRun {S} has_drain stays ends posts refused work begun (Err _) after = stays begun work after ⊎ ((outcome : Outcome) × (ended : S) × IsOutcome refused outcome × ends begun work.number outcome ended × posts ended after)

-- one due turn, if there is any
abbrev pub IsDueRun : {S : Type 0} → (S → Bool) → (S → Bool) → (S → Bool) → (S → TurnWork → S → Type 0) → (S → TurnWork → S → Type 0) → (S → ℕ → Outcome → S → Type 0) → (S → S → Type 0) → (List ℕ → List Property → Told → Bool) → S → Result Bool DeskFault → S → Type 0
IsDueRun has_due has_room has_drain begins starts ends posts refuses before (Ok true) after = (has_due before ≡ true) × Turn has_drain begins ends posts refuses before after
IsDueRun has_due has_room has_drain begins starts ends posts refuses before (Ok false) after = (has_due before ≡ false) × (after ≡ before)
IsDueRun has_due has_room has_drain begins starts ends posts refuses before (Err NoRoom) after = (has_due before ≡ true) × (has_room before ≡ false) × (after ≡ before)
IsDueRun has_due has_room has_drain begins starts ends posts refuses before (Err NoMemoryLeft) after = (before ≡ after) ⊎ IsCutOff begins starts ends posts refuses before after

-- a settling: turns run until nothing is due, as many as the budget at most; want of memory cuts it off at its first drains, behind a turn, or in one
abbrev pub IsSettled : {S : Type 0} → (S → Bool) → (S → Bool) → (S → Bool) → (S → TurnWork → S → Type 0) → (S → TurnWork → S → Type 0) → (S → ℕ → Outcome → S → Type 0) → (S → S → Type 0) → (List ℕ → List Property → Told → Bool) → ℕ → S → Result ℕ SettleFault → S → Type 0
IsSettled has_due has_room has_drain begins starts ends posts refuses budget before (Ok count) after = (count ≤ budget) × Settles has_drain begins ends posts refuses count before after × (has_due after ≡ false) × (has_drain after ≡ false)
IsSettled has_due has_room has_drain begins starts ends posts refuses budget before (Err Unsettled) after = Settles has_drain begins ends posts refuses budget before after × (has_due after ≡ true) × (has_drain after ≡ false)
IsSettled has_due has_room has_drain begins starts ends posts refuses budget before (Err JournalFull) after = (count : ℕ) × (count < budget) × Settles has_drain begins ends posts refuses count before after × (has_due after ≡ true) × (has_room after ≡ false) × (has_drain after ≡ false)
IsSettled {S} has_due has_room has_drain begins starts ends posts refuses budget before (Err OutOfMemory) after =
    posts before after
    ⊎ (((count : ℕ) × (count ≤ budget) × Settles has_drain begins ends posts refuses count before after)
    ⊎ ((count : ℕ) × (between : S) × (count < budget) × Settles has_drain begins ends posts refuses count before between × IsCutOff begins starts ends posts refuses between after))
