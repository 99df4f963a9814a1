-- How a platform's calls make its journal grow, and what is kept of its servlets then.
use Rattle.std.proofs.Common.{◌≡◌, ◌≤◌, ℕ, zero, suc, List, [], ◌∷◌, ◌++◌, length, ap, sym, ◌∙◌, subst, append_assoc, Bool, Option, Some, None, Ok, Err, inl, inr}
use Rattle.std.proofs.Math.Nat.{min-le_right}
use Rattle.std.proofs.Math.Seq.{take-length}
use Rattle.std.proofs.lemmas.List.{append-nil, length-take, take-append-le}
use Rattle.std.specs.Prelude.{IfOk, MatchOption, Result, take}
use Rattle.callback_orders.specs.declared.callback.Outcome.{Outcome}
use Rattle.journal_core.specs.declared.entry.Entry.{Entry}
use Rattle.kind_trait.specs.Meanings.{Told}
use Rattle.prop_map.specs.declared.properties.Property.{Property}
use Rattle.scr_requests.specs.Cores.{CoreView}
use Rattle.scr_requests.specs.Requests.{AreServletsOf}
use Rattle.scr_requests.specs.declared.servlets.Servlets.{Servlets}
use Rattle.scr_world.specs.Calls.{Grown}
use Rattle.scr_world.specs.declared.step.Step.{Step}
use Rattle.turn_runner.specs.Turns.{Ends as EndsTurn, IsCutOff, Settles, Turns}
use Rattle.turn_runner.specs.declared.settle_fault.SettleFault.{SettleFault}
use Rattle.turn_runner.specs.declared.settle_fault.SettleFault.TheVariants.{Unsettled, JournalFull as NoRoom, OutOfMemory as NoMemory}
use Rattle.turn_work.specs.declared.work.TurnWork.{TurnWork}
use Rattle.platform_hall.specs.Platforms.{Begins, Drained, Ends, Posts, SettlesAs, has_drain}
use Rattle.platform_hall.specs.Requests.{WereServletsOf}

-- ---- a journal that has grown at its end, or stayed as it was

abbrev pub Grows : List (Entry Step) → List (Entry Step) → Type 0
Grows old new = (more : List (Entry Step)) × (new ≡ old ++ more)

pub grows_none : (old new : List (Entry Step)) → new ≡ old → Grows old new
grows_none old new same = ([], same ∙ sym (append-nil old))

pub grows_then : (a b c : List (Entry Step)) → Grows a b → Grows b c → Grows a c
grows_then a b c (m, first) (n, second) = (m ++ n, second ∙ ap (λ x. x ++ n) first ∙ append_assoc a m n)

pub grown_grows : (limit : ℕ) (old : List (Entry Step)) (step : Step) (new : List (Entry Step)) → Grown limit old step new → Grows old new
grown_grows limit old step new (entry, its_step, follows, grew) = (entry ∷ [], grew)

drained_grows : (limit count : ℕ) (old new : List (Entry Step)) → Drained limit count old new → Grows old new
drained_grows limit zero old new same = grows_none old new same
drained_grows limit (suc count) old new (between, key, next, rest, (i, found, grown)) =
    grows_then old between new (drained_grows limit count old between rest) (grown_grows limit between _ new grown)

pub posts_grows : (before after : CoreView) → Posts before after → Grows before.journal after.journal
posts_grows before after (same, count, drained) = drained_grows before.limits.journal count before.journal after.journal drained

pub begins_grows : (before after : CoreView) (work : TurnWork) → Begins before work after → Grows before.journal after.journal
begins_grows before after work (same, number, (step, next, named, grown)) = grown_grows before.limits.journal before.journal step after.journal grown

pub ends_grows : (before after : CoreView) (turn : ℕ) (outcome : Outcome) → Ends before turn outcome after → Grows before.journal after.journal
ends_grows before after turn outcome (same, grown) = grown_grows before.limits.journal before.journal _ after.journal grown

-- ---- settlings

turn_grows : (before after : CoreView) (work : TurnWork) (outcome : Outcome) → EndsTurn Begins Ends Posts work outcome before after → Grows before.journal after.journal
turn_grows before after work outcome (begun, over, begins, ends, posts) =
    grows_then before.journal begun.journal after.journal (begins_grows before begun work begins)
    (grows_then begun.journal over.journal after.journal (ends_grows begun over work.number outcome ends) (posts_grows over after posts))

module _ (refuses : List ℕ → List Property → Told → Bool) where
  turns_grows : (count : ℕ) (before after : CoreView) → Turns has_drain Begins Ends Posts refuses count before after → Grows before.journal after.journal
  turns_grows zero before after same = grows_none before.journal after.journal (ap (λ (p : CoreView). p.journal) (sym same))
  turns_grows (suc count) before after (between, rest, (work, turn, clear)) =
      grows_then before.journal between.journal after.journal (turns_grows count before between rest) (turn_grows between after work _ turn)

  settles_grows : (count : ℕ) (before after : CoreView) → Settles has_drain Begins Ends Posts refuses count before after → Grows before.journal after.journal
  settles_grows count before after (start, posts, clear, ran) =
      grows_then before.journal start.journal after.journal (posts_grows before start posts) (turns_grows count start after ran)

  cut_grows : (before after : CoreView) → IsCutOff Begins Begins Ends Posts refuses before after → Grows before.journal after.journal
  cut_grows before after (inl (work, begins)) = begins_grows before after work begins
  cut_grows before after (inr (work, outcome, is, ends)) = turn_grows before after work outcome ends

  pub settled_grows : (turns : ℕ) (before : CoreView) (answer : Result ℕ SettleFault) (after : CoreView) → SettlesAs refuses turns before answer after → Grows before.journal after.journal
  settled_grows turns before (Ok count) after (most, ran, idle, clear) = settles_grows count before after ran
  settled_grows turns before (Err Unsettled) after (ran, due, clear) = settles_grows turns before after ran
  settled_grows turns before (Err NoRoom) after (count, fewer, ran, due, full, clear) = settles_grows count before after ran
  settled_grows turns before (Err NoMemory) after (inl posts) = posts_grows before after posts
  settled_grows turns before (Err NoMemory) after (inr (inl (count, most, ran))) = settles_grows count before after ran
  settled_grows turns before (Err NoMemory) after (inr (inr (count, between, fewer, ran, cut))) =
      grows_then before.journal between.journal after.journal (settles_grows count before between ran) (cut_grows between after cut)

-- ---- the servlets that are kept

-- a beginning of a journal is one of what the journal grows to
begins_alike : (n : ℕ) (old new : List (Entry Step)) → n ≡ length (take n old) → Grows old new → take n new ≡ take n old
begins_alike n old new fits (more, grew) =
    let within : n ≤ length old = subst (λ k. k ≤ length old) (sym (fits ∙ length-take n old)) (min-le_right n (length old)) in
    ap (take n) grew ∙ take-append-le n old more within

abbrev pub AreKept : List (Entry Step) → Option Servlets → Type 0
AreKept journal kept = MatchOption kept (Unit {0}) (WereServletsOf journal)

-- what was kept is kept as the journal grows
pub kept_on : (old new : List (Entry Step)) (kept : Option Servlets) → Grows old new → AreKept old kept → AreKept new kept
kept_on old new None grows are = tt
kept_on old new (Some servlets) grows were =
    subst (λ (j : List (Entry Step)). AreServletsOf j servlets) (sym (begins_alike servlets.made_at old new were.made_at grows)) were

-- servlets of a journal are kept
pub kept_now : (journal : List (Entry Step)) (servlets : Servlets) → AreServletsOf journal servlets → WereServletsOf journal servlets
kept_now journal servlets are =
    subst (λ (j : List (Entry Step)). AreServletsOf j servlets) (sym (ap (λ n. take n journal) are.made_at ∙ take-length journal)) are

-- and those that are kept are the journal's where it is no longer than it was
pub kept_stand : (journal : List (Entry Step)) (servlets : Servlets) → servlets.made_at ≡ length journal → WereServletsOf journal servlets → AreServletsOf journal servlets
kept_stand journal servlets same were =
    subst (λ (j : List (Entry Step)). AreServletsOf j servlets) (ap (λ n. take n journal) same ∙ take-length journal) were

pub made_kept : {E : Type 0} (journal : List (Entry Step)) (made : Result Servlets E) → IfOk made (AreServletsOf journal) → IfOk made (WereServletsOf journal)
made_kept journal (Ok servlets) are = kept_now journal servlets are
made_kept journal (Err e) are = tt
