-- A settling that begins on a calm platform keeps to its bound.
use Rattle.std.proofs.Common.{◌≡◌, ◌<◌, ◌≤◌, ℕ, ◌+◌, List, [], ◌∷◌, ◌++◌, ap, sym, ◌∙◌, refl, subst, arith, Bool, true, false, Ok, Err, inl, inr}
use Rattle.std.specs.Prelude.{Option, Result, is_some}
use Rattle.std.proofs.lemmas.Bool.{both_ways, cases_lt}
use Rattle.std.proofs.lemmas.List.{append_cancel_right}
use Rattle.callback_orders.specs.declared.due.DueRef.{DueRef}
use Rattle.kind_trait.specs.Meanings.{Told}
use Rattle.prop_map.specs.declared.properties.Property.{Property}
use Rattle.turn_runner.specs.declared.settle_fault.SettleFault.{SettleFault}
use Rattle.turn_runner.specs.declared.settle_fault.SettleFault.TheVariants.{Unsettled, JournalFull, OutOfMemory}
use Rattle.scr_requests.specs.Cores.{CoreView}
use Rattle.scr_promises.specs.Bounds.{IsWithinBound}
use Rattle.scr_promises.specs.Names.{HaveOwnNames}
use Rattle.scr_promises.specs.Settlings.{OnlySettles, is_settling}
use Rattle.scr_promises.proofs.NoneDue.{none_due_at_bound}
use Rattle.scr_promises.proofs.NothingCloses.{nothing_closes}
use Rattle.scr_promises.proofs.WithinBound.{settles_within_bound}
use Rattle.scr_world.specs.Bounds.{is_calm, settle_bound}
use Rattle.scr_world.specs.Dues.{due_in}
use Rattle.scr_world.specs.Legal.{IsLegal}
use Rattle.scr_world.specs.Lists.{world_of}
use Rattle.scr_world.specs.Steps.{History, history_of}
use Rattle.scr_world.specs.declared.command.Limits.{Limits}
use Rattle.scr_world.specs.declared.step.Step.{Step}
use Rattle.scr_world.specs.declared.step.Step.TheVariants.{Command as Commanded, Begin, End, Drained as DrainedStep, Got, Released}
use Rattle.scr_world.specs.declared.world.World.{World}
use Rattle.platform_hall.specs.Platforms.{SettlesAs, has_due, world}
use Rattle.platform_hall.specs.SettleBounds.{AnswersWithin, IsBounded, KeepsWithin, NothingFails, SettlesWithin, fails_nothing}
use Rattle.platform_hall.proofs.Settlings.{HasLegal}
use Rattle.platform_hall.proofs.Spans.{AreTurning, Spans, is_turning, posts_spans, settles_cut_spans, settles_spans}

-- a step of a settling, where no creation or activation fails by it
turning_settles : (step : Step) (w : World) → is_turning step ≡ true → fails_nothing step w ≡ true → is_settling step w ≡ true
turning_settles (Commanded command) w turning fine = absurd cc
turning_settles (Begin turn instance configuration consumer callback chosen) w turning fine = refl
turning_settles (End turn outcome) w turning fine = fine
turning_settles (DrainedStep instance) w turning fine = refl
turning_settles (Got bundle service) w turning fine = absurd cc
turning_settles (Released place) w turning fine = absurd cc

all_settle : (past entries : History) → AreTurning entries → NothingFails past entries → OnlySettles past entries
all_settle past [] turning fine = tt
all_settle past (entry ∷ entries) turning fine = (turning_settles entry.step (world_of (entries ++ past)) turning.0 fine.0, all_settle past entries turning.1 fine.1)

module _ (before after : CoreView) (legal : HasLegal before) (names : HaveOwnNames (world before)) (turns : ℕ) (spans : Spans before after turns) where
  abbrev past : History
  past = history_of before.journal

  abbrev limit : ℕ
  limit = before.limits.journal

  abbrev bound : ℕ
  bound = settle_bound (world before)

  legal_all : IsLegal limit (spans.entries ++ past)
  legal_all =
      let P : Limits → Type 0 = λ l. IsLegal l.journal (history_of after.journal) in
      let Q : History → Type 0 = λ h. IsLegal limit h in
      subst Q spans.grown (subst P spans.limits (spans.legal legal))

  module _ (calm : is_calm (world before) ≡ true) (fine : NothingFails past spans.entries) where
    settles : OnlySettles past spans.entries
    settles = all_settle past spans.entries spans.turning fine

    within : IsWithinBound past spans.entries
    within = settles_within_bound limit past spans.entries legal_all calm names settles

    at_most : turns ≤ bound
    at_most = let most = within in let begun = spans.begun in omega (arith, most, begun)

    none_due : bound ≤ turns → has_due after ≡ false
    none_due enough =
        let most = at_most in
        let begun = spans.begun in
        let none = none_due_at_bound limit past spans.entries legal_all calm names settles (omega (arith, most, begun, enough)) in
        ap (λ (o : Option DueRef). is_some o) (ap (λ (h : History). due_in (world_of h)) spans.grown ∙ none)

    -- where a turn is still due, fewer ran
    fewer : has_due after ≡ true → turns < bound
    fewer due = elim (cases_lt turns bound) [
      | inl less ↦ less
      | inr enough ↦ absurd (both_ways (has_due after) (none_due enough) due)
    ]

    keeps : (answer : Result ℕ SettleFault) → (turns ≤ bound → (has_due after ≡ true → turns < bound) → AnswersWithin bound before.limits.turns answer) → KeepsWithin before answer spans.entries
    keeps answer answers = record {
      closes_nothing = nothing_closes limit past spans.entries legal_all calm settles;
      turns = within;
      answered = answers at_most fewer;
    }

  bounded_by : (answer : Result ℕ SettleFault) → (turns ≤ bound → (has_due after ≡ true → turns < bound) → AnswersWithin bound before.limits.turns answer) → IsBounded before answer after
  bounded_by answer answers calm entries grown fine =
      let same : spans.entries ≡ entries = append_cancel_right spans.entries entries past (sym spans.grown ∙ grown) in
      let P : History → Type 0 = λ h. NothingFails past h in
      let Q : History → Type 0 = λ h. KeepsWithin before answer h in
      subst Q same (keeps calm (subst P (sym same) fine) answer answers)

-- a settling, however it ends
pub settled_bounded : (refuses : List ℕ → List Property → Told → Bool) (before after : CoreView) (answer : Result ℕ SettleFault) → HasLegal before → HaveOwnNames (world before) → SettlesAs refuses before.limits.turns before answer after → IsBounded before answer after
settled_bounded refuses before after (Ok count) legal names (low, settles, due, drain) =
    bounded_by before after legal names count (settles_spans refuses count before after settles) (Ok count) (λ most fewer. most)
settled_bounded refuses before after (Err Unsettled) legal names (settles, due, drain) =
    bounded_by before after legal names before.limits.turns (settles_spans refuses before.limits.turns before after settles) (Err Unsettled) (λ most fewer. fewer due)
settled_bounded refuses before after (Err JournalFull) legal names (count, below, settles, due, room, drain) =
    bounded_by before after legal names count (settles_spans refuses count before after settles) (Err JournalFull) (λ most fewer. tt)
settled_bounded refuses before after (Err OutOfMemory) legal names (inl posts) =
    bounded_by before after legal names 0 (posts_spans before after posts) (Err OutOfMemory) (λ most fewer. tt)
settled_bounded refuses before after (Err OutOfMemory) legal names (inr (inl (count, low, settles))) =
    bounded_by before after legal names count (settles_spans refuses count before after settles) (Err OutOfMemory) (λ most fewer. tt)
settled_bounded refuses before after (Err OutOfMemory) legal names (inr (inr (count, between, below, settles, cut))) =
    bounded_by before after legal names (count + 1) (settles_cut_spans refuses count before between after settles cut) (Err OutOfMemory) (λ most fewer. tt)

-- so what a settling up to the platform's limit answers and does is within its bound
pub settles_within : (refuses : List ℕ → List Property → Told → Bool) (turns : ℕ) (before after : CoreView) (answer : Result ℕ SettleFault) → HasLegal before → turns ≡ before.limits.turns → SettlesAs refuses turns before answer after
    → SettlesWithin refuses before answer after
settles_within refuses turns before after answer legal same settles =
    let P : ℕ → Type 0 = λ n. SettlesAs refuses n before answer after in
    let all = subst P same settles in
    (all, λ names. settled_bounded refuses before after answer legal names all)
