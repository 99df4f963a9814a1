-- A turn that begins, one that ends, and one that is run: each comes to one platform.
use Rattle.std.proofs.Common.{◌≡◌, ◌⊎◌, ℕ, List, Bool, true, false, ap, sym, ◌∙◌, refl, subst, Option, Some, None, Ok, Err, inl, inr}
use Rattle.std.proofs.lemmas.Bool.{both_ways}
use Rattle.std.specs.Prelude.{Result}
use Rattle.callback_orders.specs.declared.callback.Outcome.{Outcome}
use Rattle.callback_orders.specs.declared.callback.Outcome.TheVariants.{Done, Refused, NoMemory}
use Rattle.journal_core.specs.declared.entry.Entry.{Entry}
use Rattle.kind_trait.specs.Meanings.{Told}
use Rattle.platform_hall.proofs.Desks.{same_view}
use Rattle.platform_hall.proofs.Settlings.{HasLegal, begins_legal, ends_legal}
use Rattle.platform_hall.proofs.Taking.{taken_step}
use Rattle.platform_hall.specs.Cores.{CoreView}
use Rattle.platform_hall.specs.Platforms.{Begins, BeginsTurn, Ends, Finishes, FinishesTurn, Posts, has_drain, has_due, has_room}
use Rattle.platform_hall.specs.declared.finish_fault.FinishFault.{FinishFault}
use Rattle.platform_hall.specs.declared.finish_fault.FinishFault.TheVariants.{NoTurn, OutOfMemory as Short}
use Rattle.prop_map.specs.declared.properties.Property.{Property}
use Rattle.scr_world.specs.Calls.{world_at}
use Rattle.scr_world.specs.TurnSteps.{work_under_way}
use Rattle.scr_world.specs.declared.reply.CoreFault.{CoreFault}
use Rattle.scr_world.specs.declared.reply.CoreFault.TheVariants.{JournalFull, OutOfMemory}
use Rattle.scr_world.specs.declared.step.Step.{Step}
use Rattle.scr_world.specs.declared.step.Step.TheVariants.{End}
use Rattle.turn_runner.specs.Outcomes.{IsOutcome, is_refused, outcome_where}
use Rattle.turn_runner.specs.Turns.{Turn}
use Rattle.turn_work.specs.declared.work.TurnWork.{TurnWork}
use Rattle.script_laws.proofs.Drains.{posts_once}
use Rattle.script_laws.proofs.Entries.{grown_alike, grown_once}
use Rattle.script_laws.proofs.Parts.{never_some, some_same}

-- ---- beginnings

work_once : (journal : List (Entry Step)) (one other : TurnWork) → one.number ≡ other.number → work_under_way (world_at journal) one.number ≡ Some one → work_under_way (world_at journal) other.number ≡ Some other → one ≡ other
work_once journal one other same is its =
    some_same one other (sym is ∙ ap (λ n. work_under_way (world_at journal) n) same ∙ its)

-- the turn that begins is the first due one
pub begins_once : (before one other : CoreView) (work same : TurnWork) → HasLegal before → Begins before work one → Begins before same other → (one ≡ other) × (work ≡ same)
begins_once before one other work same legal (limits, number, (step, next, is, grown)) (limits', number', (step', next', is', grown')) =
    let steps : step ≡ step' = some_same step step' (sym next ∙ next') in
    let journals = grown_alike before.limits.journal before.journal step step' one.journal other.journal legal steps grown grown' in
    let here : work_under_way (world_at other.journal) work.number ≡ Some work = subst (λ (j : List (Entry Step)). work_under_way (world_at j) work.number ≡ Some work) journals is in
    (same_view one other (limits ∙ sym limits') journals, work_once other.journal work same (number ∙ sym number') here is')

-- ---- ends

pub ends_once : (before one other : CoreView) (turn : ℕ) (outcome : Outcome) → HasLegal before → Ends before turn outcome one → Ends before turn outcome other → one ≡ other
ends_once before one other turn outcome legal (limits, grown) (limits', grown') =
    same_view one other (limits ∙ sym limits') (grown_once before.limits.journal before.journal (End turn outcome) one.journal other.journal legal grown grown')

-- an end, and the drains behind it
pub ended_once : (before over over' one other : CoreView) (turn : ℕ) (outcome : Outcome) → HasLegal before → Ends before turn outcome over → Ends before turn outcome over' → Posts over one → Posts over' other
    → has_drain one ≡ false → has_drain other ≡ false → one ≡ other
ended_once before over over' one other turn outcome legal ends ends' posts posts' clear clear' =
    let same = ends_once before over over' turn outcome legal ends ends' in
    posts_once over' one other (ends_legal before over' turn outcome legal ends') (subst (λ (p : CoreView). Posts p one) same posts) posts' clear clear'

-- ---- whole turns

module _ (refuses : List ℕ → List Property → Told → Bool) where
  -- how a turn ends where there is memory
  abbrev EndsWell : CoreView → TurnWork → CoreView → Type 0
  EndsWell begun work over = Ends begun work.number (outcome_where (is_refused refuses work)) over

  abbrev RunsTurn : CoreView → CoreView → Type 0
  RunsTurn before after = Turn has_drain Begins Ends Posts refuses before after

  pub turn_once : (before one other : CoreView) → HasLegal before → RunsTurn before one → RunsTurn before other → one ≡ other
  turn_once before one other legal (work, (begun, over, begins, ends, posts), clear) (work', (begun', over', begins', ends', posts'), clear') =
      let first = begins_once before begun begun' work work' legal begins begins' in
      let there : EndsWell begun' work over = subst (λ (p : CoreView). EndsWell p work over) first.0 ends in
      let its : EndsWell begun' work' over = subst (λ (w : TurnWork). EndsWell begun' w over) first.1 there in
      ended_once begun' over over' one other work'.number (outcome_where (is_refused refuses work')) (begins_legal before begun' work' legal begins') its ends' posts posts' clear clear'

  -- a turn runs where one is due and has room
  pub turn_due : (before after : CoreView) → RunsTurn before after → (has_due before ≡ true) × (has_room before ≡ true)
  turn_due before after (work, (begun, over, begins, ends, posts), clear) = let taken = taken_step before begun work begins in (taken.0, taken.1)

-- ---- the lines `begin` and `finish`

-- what the beginning of a turn answers, but for want of memory
abbrev BeginsSo : CoreView → Result (Option ℕ) CoreFault → CoreView → Type 0
BeginsSo before answer after =
    ((answer ≡ Ok None) × (has_due before ≡ false) × (after ≡ before))
    ⊎ (((work : TurnWork) × (answer ≡ Ok (Some work.number)) × Begins before work after)
    ⊎ ((answer ≡ Err JournalFull) × (has_due before ≡ true) × (has_room before ≡ false) × (after ≡ before)))

begins_so : (before after : CoreView) (answer : Result (Option ℕ) CoreFault) → (answer ≡ Err OutOfMemory → ⊥) → BeginsTurn before answer after → BeginsSo before answer after
begins_so before after (Ok None) some (due, same) = inl (refl, due, same)
begins_so before after (Ok (Some turn)) some (work, is, begins, runs) = inr (inl (work, ap (λ n. Ok (Some n)) (sym is), begins))
begins_so before after (Err JournalFull) some (due, room, same) = inr (inr (refl, due, room, same))
begins_so before after (Err OutOfMemory) some begins = absurd (some refl)
begins_so before after (Err _) some begins = absurd begins

so_once : (before one other : CoreView) (a b : Result (Option ℕ) CoreFault) → HasLegal before → BeginsSo before a one → BeginsSo before b other → (a ≡ b) × (one ≡ other)
so_once before one other a b legal (inl (is, due, same)) (inl (is', due', same')) = (is ∙ sym is', same ∙ sym same')
so_once before one other a b legal (inl (is, due, same)) (inr (inl (work, is', begins))) = absurd (both_ways (has_due before) due (taken_step before other work begins).0)
so_once before one other a b legal (inl (is, due, same)) (inr (inr (is', due', room, same'))) = absurd (both_ways (has_due before) due due')
so_once before one other a b legal (inr (inl (work, is, begins))) (inl (is', due, same)) = absurd (both_ways (has_due before) due (taken_step before one work begins).0)
so_once before one other a b legal (inr (inl (work, is, begins))) (inr (inl (work', is', begins'))) =
    let all = begins_once before one other work work' legal begins begins' in (is ∙ ap (λ (w : TurnWork). Ok (Some w.number)) all.1 ∙ sym is', all.0)
so_once before one other a b legal (inr (inl (work, is, begins))) (inr (inr (is', due, room, same))) = absurd (both_ways (has_room before) room (taken_step before one work begins).1)
so_once before one other a b legal (inr (inr (is, due, room, same))) (inl (is', due', same')) = absurd (both_ways (has_due before) due' due)
so_once before one other a b legal (inr (inr (is, due, room, same))) (inr (inl (work, is', begins))) = absurd (both_ways (has_room before) room (taken_step before other work begins).1)
so_once before one other a b legal (inr (inr (is, due, room, same))) (inr (inr (is', due', room', same'))) = (is ∙ sym is', same ∙ sym same')

pub begun_once : (before one other : CoreView) (a b : Result (Option ℕ) CoreFault) → HasLegal before → (a ≡ Err OutOfMemory → ⊥) → (b ≡ Err OutOfMemory → ⊥) → BeginsTurn before a one → BeginsTurn before b other → (a ≡ b) × (one ≡ other)
begun_once before one other a b legal some some' begins begins' = so_once before one other a b legal (begins_so before one a some begins) (begins_so before other b some' begins')

-- the component code refuses or not
outcome_once : (refused : Bool) (a b : Outcome) → (a ≡ NoMemory → ⊥) → (b ≡ NoMemory → ⊥) → IsOutcome refused a → IsOutcome refused b → a ≡ b
outcome_once refused Done Done some some' is its = refl
outcome_once refused Done Refused some some' is its = absurd (both_ways refused is its)
outcome_once refused Refused Done some some' is its = absurd (both_ways refused its is)
outcome_once refused Refused Refused some some' is its = refl
outcome_once refused NoMemory b some some' is its = absurd (some refl)
outcome_once refused Done NoMemory some some' is its = absurd (some' refl)
outcome_once refused Refused NoMemory some some' is its = absurd (some' refl)

module _ (refuses : List ℕ → List Property → Told → Bool) where
  finishes_once : (before one other : CoreView) (turn : ℕ) (a b : Outcome) → HasLegal before → (a ≡ NoMemory → ⊥) → (b ≡ NoMemory → ⊥)
      → Finishes refuses before turn a one → Finishes refuses before turn b other → has_drain one ≡ false → has_drain other ≡ false → (a ≡ b) × (one ≡ other)
  finishes_once before one other turn a b legal some some' (work, over, runs, is, ends, posts) (work', over', runs', is', ends', posts') clear clear' =
      let works : work ≡ work' = some_same work work' (sym runs ∙ runs') in
      let its : IsOutcome (is_refused refuses work') a = subst (λ (w : TurnWork). IsOutcome (is_refused refuses w) a) works is in
      let outcomes = outcome_once (is_refused refuses work') a b some some' its is' in
      let ends_so : Ends before turn b over = subst (λ (o : Outcome). Ends before turn o over) outcomes ends in
      (outcomes, ended_once before over over' one other turn b legal ends_so ends' posts posts' clear clear')

  -- what finishing a turn answers and does, but for want of memory
  pub finished_once : (before one other : CoreView) (turn : ℕ) (a b : Result Outcome FinishFault) → HasLegal before
      → (a ≡ Ok NoMemory → ⊥) → (a ≡ Err Short → ⊥) → (b ≡ Ok NoMemory → ⊥) → (b ≡ Err Short → ⊥)
      → FinishesTurn refuses before turn a one → FinishesTurn refuses before turn b other → (a ≡ b) × (one ≡ other)
  finished_once before one other turn (Err Short) b legal some fits some' fits' ends ends' = absurd (fits refl)
  finished_once before one other turn a (Err Short) legal some fits some' fits' ends ends' = absurd (fits' refl)
  finished_once before one other turn (Err NoTurn) (Err NoTurn) legal some fits some' fits' (none, same) (none', same') = (refl, same ∙ sym same')
  finished_once before one other turn (Err NoTurn) (Ok b) legal some fits some' fits' (none, same) ((work, over, runs, is, ends, posts), clear) = absurd (never_some work (sym none ∙ runs))
  finished_once before one other turn (Ok a) (Err NoTurn) legal some fits some' fits' ((work, over, runs, is, ends, posts), clear) (none, same) = absurd (never_some work (sym none ∙ runs))
  finished_once before one other turn (Ok a) (Ok b) legal some fits some' fits' (finishes, clear) (finishes', clear') =
      let all = finishes_once before one other turn a b legal (λ is. some (ap (λ (o : Outcome). Ok o) is)) (λ is. some' (ap (λ (o : Outcome). Ok o) is)) finishes finishes' clear clear' in
      (ap (λ (o : Outcome). Ok o) all.0, all.1)
