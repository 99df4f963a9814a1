-- The entries by which a settling grows a journal: turns begin and end and drains are posted, and so many turns begin.
use Rattle.std.proofs.Common.{◌≡◌, ℕ, zero, suc, ◌+◌, List, [], ◌∷◌, ◌++◌, ap, sym, ◌∙◌, refl, subst, arith, append_assoc, Bool, true, false, inl, inr}
use Rattle.std.specs.Prelude.{⊤}
use Rattle.callback_orders.specs.declared.callback.Outcome.{Outcome}
use Rattle.journal_core.specs.declared.entry.Entry.{Entry}
use Rattle.kind_trait.specs.Meanings.{Told}
use Rattle.prop_map.specs.declared.properties.Property.{Property}
use Rattle.turn_work.specs.declared.work.TurnWork.{TurnWork}
use Rattle.turn_runner.specs.Turns.{Ends as EndsTurn, IsCutOff, Settles, Turns}
use Rattle.scr_requests.specs.Cores.{CoreView}
use Rattle.scr_promises.specs.Bounds.{turns_begun_in}
use Rattle.scr_promises.proofs.Sums.{total_cons, total_over}
use Rattle.scr_world.specs.declared.command.Limits.{Limits}
use Rattle.scr_world.specs.declared.step.Step.{Step}
use Rattle.scr_world.specs.declared.step.Step.TheVariants.{Command as Commanded, Begin, End, Drained as DrainedStep, Got, Released}
use Rattle.scr_world.specs.Calls.{Grown}
use Rattle.scr_world.specs.Stepping.{begins_by}
use Rattle.scr_world.specs.Steps.{History, history_of}
use Rattle.platform_hall.specs.Platforms.{Begins, Drained, Ends, Posts, has_drain, world}
use Rattle.platform_hall.proofs.Settlings.{HasLegal, begins_legal, ends_legal}
use Rattle.platform_hall.proofs.Steps.{grown_legal, history_append}
use Rattle.platform_hall.proofs.Turns.{begins_next, is_begin}

-- a turn begins or ends, or a drain is posted
abbrev pub is_turning : Step → Bool
is_turning (Commanded command) = false
is_turning (Begin turn instance configuration consumer callback chosen) = true
is_turning (End turn outcome) = true
is_turning (DrainedStep instance) = true
is_turning (Got bundle service) = false
is_turning (Released place) = false

-- in each of these entries
abbrev pub AreTurning : History → Type 0
AreTurning [] = ⊤
AreTurning (entry ∷ entries) = (is_turning entry.step ≡ true) × AreTurning entries

both_turning : (xs ys : History) → AreTurning xs → AreTurning ys → AreTurning (xs ++ ys)
both_turning [] ys first second = second
both_turning (x ∷ xs) ys first second = (first.0, both_turning xs ys first.1 second)

-- the journal grew by such entries, which begin so many turns, and it stays legal
pub record Spans (before after : CoreView) (turns : ℕ) : Type 0 where
  pub entries : History
  pub grown : history_of after.journal ≡ entries ++ history_of before.journal
  pub limits : after.limits ≡ before.limits
  pub begun : turns_begun_in entries ≡ turns
  pub turning : AreTurning entries
  pub legal : HasLegal before → HasLegal after

-- nothing happens
spans_none : (before after : CoreView) → after ≡ before → Spans before after 0
spans_none before after same = record {
  entries = [];
  grown = ap (λ (p : CoreView). history_of p.journal) same;
  limits = ap (λ (p : CoreView). p.limits) same;
  begun = refl;
  turning = tt;
  legal = λ legal. (let P : CoreView → Type 0 = λ p. HasLegal p in subst P (sym same) legal);
}

-- one entry
spans_step : (before after : CoreView) (step : Step) (turns : ℕ) → after.limits ≡ before.limits → Grown before.limits.journal before.journal step after.journal → is_turning step ≡ true → begins_by step ≡ turns
    → (HasLegal before → HasLegal after) → Spans before after turns
spans_step before after step turns same (entry, is, follows, more) turning begun legal = record {
  entries = entry ∷ [];
  grown = ap (λ (j : List (Entry Step)). history_of j) more ∙ history_append before.journal entry;
  limits = same;
  begun =
      let count = total_cons (λ (e : Entry Step). begins_by e.step) entry [] in
      let here : begins_by entry.step ≡ turns = ap begins_by is ∙ begun in
      omega (arith, count, here);
  turning = (ap is_turning is ∙ turning, tt);
  legal = legal;
}

-- some behind others
spans_then : (a b c : CoreView) (m n all : ℕ) → m + n ≡ all → Spans a b m → Spans b c n → Spans a c all
spans_then a b c m n all is first second = record {
  entries = second.entries ++ first.entries;
  grown = second.grown ∙ ap (λ (h : History). second.entries ++ h) first.grown ∙ sym (append_assoc second.entries first.entries (history_of a.journal));
  limits = second.limits ∙ first.limits;
  begun =
      let both = total_over (λ (e : Entry Step). begins_by e.step) second.entries first.entries in
      let one = first.begun in
      let other = second.begun in
      omega (arith, both, one, other, is);
  turning = both_turning second.entries first.entries second.turning first.turning;
  legal = λ legal. second.legal (first.legal legal);
}

-- a platform with this journal
abbrev with_journal : CoreView → List (Entry Step) → CoreView
with_journal p journal = record { limits = p.limits; journal = journal }

drained_spans : (count : ℕ) (before : CoreView) (journal : List (Entry Step)) → Drained before.limits.journal count before.journal journal → Spans before (with_journal before journal) 0
drained_spans zero before journal same = spans_none before (with_journal before journal) (ap (with_journal before) same)
drained_spans (suc count) before journal (between, key, next, rest, (i, found, grown)) =
    spans_then before (with_journal before between) (with_journal before journal) 0 0 0 refl (drained_spans count before between rest)
    (spans_step (with_journal before between) (with_journal before journal) (DrainedStep i.number) 0 refl grown refl refl (λ legal. grown_legal before.limits.journal between journal (DrainedStep i.number) legal grown))

-- drains begin no turn
pub posts_spans : (before after : CoreView) → Posts before after → Spans before after 0
posts_spans before after (same, count, drained) =
    let P : CoreView → Type 0 = λ p. Spans before p 0 in
    subst P (sym (ap (λ (l : Limits). record { limits = l; journal = after.journal }) same)) (drained_spans count before after.journal drained)

begin_turning : (step : Step) → is_begin step ≡ true → is_turning step ≡ true
begin_turning (Commanded command) is = absurd cc
begin_turning (Begin turn instance configuration consumer callback chosen) is = refl
begin_turning (End turn outcome) is = absurd cc
begin_turning (DrainedStep instance) is = absurd cc
begin_turning (Got bundle service) is = absurd cc
begin_turning (Released place) is = absurd cc

begin_one : (step : Step) → is_begin step ≡ true → begins_by step ≡ 1
begin_one (Commanded command) is = absurd cc
begin_one (Begin turn instance configuration consumer callback chosen) is = refl
begin_one (End turn outcome) is = absurd cc
begin_one (DrainedStep instance) is = absurd cc
begin_one (Got bundle service) is = absurd cc
begin_one (Released place) is = absurd cc

-- a turn begins
begins_spans : (before after : CoreView) (work : TurnWork) → Begins before work after → Spans before after 1
begins_spans before after work (same, number, (step, next, named, grown)) =
    let is = begins_next (world before) step next in
    spans_step before after step 1 same grown (begin_turning step is) (begin_one step is) (λ legal. begins_legal before after work legal (same, number, (step, next, named, grown)))

-- it ends
ends_spans : (before after : CoreView) (turn : ℕ) (outcome : Outcome) → Ends before turn outcome after → Spans before after 0
ends_spans before after turn outcome (same, grown) = spans_step before after (End turn outcome) 0 same grown refl refl (λ legal. ends_legal before after turn outcome legal (same, grown))

turn_spans : (before after : CoreView) (work : TurnWork) (outcome : Outcome) → EndsTurn Begins Ends Posts work outcome before after → Spans before after 1
turn_spans before after work outcome (begun, over, begins, ends, posts) =
    spans_then before begun after 1 0 1 refl (begins_spans before begun work begins) (spans_then begun over after 0 0 0 refl (ends_spans begun over work.number outcome ends) (posts_spans over after posts))

module _ (refuses : List ℕ → List Property → Told → Bool) where
  turns_spans : (count : ℕ) (before after : CoreView) → Turns has_drain Begins Ends Posts refuses count before after → Spans before after count
  turns_spans zero before after same = spans_none before after (sym same)
  turns_spans (suc count) before after (between, rest, (work, turn, clear)) =
      spans_then before between after count 1 (suc count) (omega arith) (turns_spans count before between rest) (turn_spans between after work _ turn)

  -- so many turns run
  pub settles_spans : (count : ℕ) (before after : CoreView) → Settles has_drain Begins Ends Posts refuses count before after → Spans before after count
  settles_spans count before after (start, posts, clear, ran) = spans_then before start after 0 count count (omega arith) (posts_spans before start posts) (turns_spans count start after ran)

  cut_spans : (before after : CoreView) → IsCutOff Begins Begins Ends Posts refuses before after → Spans before after 1
  cut_spans before after (inl (work, begins)) = begins_spans before after work begins
  cut_spans before after (inr (work, outcome, is, ends)) = turn_spans before after work outcome ends

  -- a settling that is cut off within a turn
  pub settles_cut_spans : (count : ℕ) (before between after : CoreView) → Settles has_drain Begins Ends Posts refuses count before between → IsCutOff Begins Begins Ends Posts refuses between after → Spans before after (count + 1)
  settles_cut_spans count before between after settles cut = spans_then before between after count 1 (count + 1) refl (settles_spans count before between settles) (cut_spans between after cut)
