-- What is kept of turns stays what they came to when they were told, at each of a desk's calls.
use Rattle.std.proofs.Common.{◌≡◌, ℕ, zero, suc, List, [], ◌∷◌, ◌++◌, Bool, sym, ◌∙◌, ap, subst, inl, inr, Option, Some, None, Result, Ok, Err}
use Rattle.std.specs.List.{Contains}
use Rattle.callback_orders.specs.declared.callback.Outcome.{Outcome}
use Rattle.kind_trait.specs.declared.kind_fault.KindFault.{KindFault}
use Rattle.kind_trait.specs.Meanings.{Told}
use Rattle.prop_map.specs.declared.properties.Property.{Property}
use Rattle.component_state.proofs.Apart.{in_none}
use Rattle.turn_runner.specs.declared.came.Came.{Came}
use Rattle.turn_runner.specs.declared.desk_fault.DeskFault.{DeskFault}
use Rattle.turn_runner.specs.declared.desk_fault.DeskFault.TheVariants.{JournalFull as NoRoom, OutOfMemory as NoMemoryLeft}
use Rattle.turn_runner.specs.declared.settle_fault.SettleFault.{SettleFault}
use Rattle.turn_runner.specs.declared.settle_fault.SettleFault.TheVariants.{Unsettled, JournalFull, OutOfMemory}
use Rattle.turn_runner.specs.Turns.{Ends, IsAnswered, IsCutOff, IsFinished, IsTaken, Settles, Starts, Turns}
use Rattle.turn_work.specs.declared.site.Site.{Site}
use Rattle.turn_work.specs.declared.work.TurnWork.{TurnWork}
use Rattle.platform_hall.specs.Desks.{AreAnswered, DeskBegins, DeskFinishes, DeskHears, DeskPosts, DeskSettles, DeskStays, DeskView, Owns, kept_but}
use Rattle.platform_hall.specs.Platforms.{has_drain, has_due, has_room}
use Rattle.platform_hall.proofs.Keeping.{kept_before, kept_or_new}
use Rattle.platform_hall.proofs.Seen.{kept_same}

module _ {O : Type 0} (made : O → Site → Type 0) (hears : O → Site → Told → Result (Unit {0}) KindFault → Type 0) (refuses : List ℕ → List Property → Told → Bool) where
  abbrev Known : List (Came O) → Type 0
  Known kept = AreAnswered made hears refuses kept

  pub answered_none : (kept : List (Came O)) → kept ≡ [] → Known kept
  answered_none kept none = λ came there. absurd (in_none came (subst (λ (xs : List (Came O)). Contains xs came) none there))

  pub answered_same : (old new : List (Came O)) → new ≡ old → Known old → Known new
  answered_same old new same known = subst (λ (kept : List (Came O)). Known kept) (sym same) known

  answered_less : (old new : List (Came O)) (turn : ℕ) → new ≡ kept_but turn old → Known old → Known new
  answered_less old new turn less known = λ came there. known came (kept_before old new turn less came there).0

  answered_more : (desk : DeskView O) (old new : List (Came O)) (one : Came O) → new ≡ old ++ one ∷ [] → IsAnswered Owns made hears refuses desk one → Known old → Known new
  answered_more desk old new one grew is known = λ came there.
      elim (kept_or_new old new one grew came there) [
        | inl before ↦ known came before
        | inr same ↦ (desk, subst (λ (c : Came O). IsAnswered Owns made hears refuses desk c) same is)
      ]

  hears_answered : (before : DeskView O) (number : ℕ) (outcome : Outcome) (after : DeskView O) → DeskHears made hears before number outcome after → Known before.kept → Known after.kept
  hears_answered before number outcome after ((handed, hands, ends), heard, own) known = answered_less handed.kept after.kept number ends.2 (answered_same before.kept handed.kept hands.3 known)

  finishes_answered : (before : DeskView O) (work : TurnWork) (outcome : Outcome) (after : DeskView O) → DeskFinishes made hears refuses before work outcome after → Known before.kept → Known after.kept
  finishes_answered before work outcome after (inl (untold, told)) known = hears_answered before work.number outcome after told.1 known
  finishes_answered before work outcome after (inr (came, kept, its, same, ends, own)) known = answered_less before.kept after.kept work.number ends.2 known

  stays_answered : (before : DeskView O) (work : TurnWork) (after : DeskView O) → DeskStays made hears refuses before work after → Known before.kept → Known after.kept
  stays_answered before work after (inl same) known = answered_same before.kept after.kept (kept_same same) known
  stays_answered before work after (inr (handed, came, its, hands, keeps, is)) known =
      answered_more before before.kept after.kept came (keeps.3 ∙ ap (λ (xs : List (Came O)). xs ++ came ∷ []) hands.3) is known

  -- a turn that is taken, or isn't
  pub taken_answered : (before after : DeskView O) (answer : Result (Option TurnWork) DeskFault) → IsTaken (λ (d : DeskView O). has_due d.core) (λ (d : DeskView O). has_room d.core) DeskBegins before answer after → Known before.kept → Known after.kept
  taken_answered before after (Ok None) (idle, same) known = answered_same before.kept after.kept (kept_same same) known
  taken_answered before after (Ok (Some work)) (due, room, begins) known = answered_same before.kept after.kept begins.2 known
  taken_answered before after (Err NoRoom) (due, full, same) known = answered_same before.kept after.kept (kept_same same) known
  taken_answered before after (Err NoMemoryLeft) same known = answered_same before.kept after.kept (kept_same same) known

  -- ---- settlings

  turn_answered : (before : DeskView O) (work : TurnWork) (outcome : Outcome) (after : DeskView O) → Ends DeskBegins (DeskHears made hears) DeskPosts work outcome before after → Known before.kept → Known after.kept
  turn_answered before work outcome after (begun, ended, begins, ends, posts) known =
      answered_same ended.kept after.kept posts.2 (hears_answered begun work.number outcome ended ends (answered_same before.kept begun.kept begins.2 known))

  abbrev drains : DeskView O → Bool
  drains d = has_drain d.core

  turns_answered : (count : ℕ) (before after : DeskView O) → Turns drains DeskBegins (DeskHears made hears) DeskPosts refuses count before after → Known before.kept → Known after.kept
  turns_answered zero before after same known = answered_same before.kept after.kept (kept_same (sym same)) known
  turns_answered (suc count) before after (between, rest, (work, turn, clear)) known = turn_answered between work _ after turn (turns_answered count before between rest known)

  settles_answered : (count : ℕ) (before after : DeskView O) → Settles drains DeskBegins (DeskHears made hears) DeskPosts refuses count before after → Known before.kept → Known after.kept
  settles_answered count before after (start, posts, clear, ran) known = turns_answered count start after ran (answered_same before.kept start.kept posts.2 known)

  cut_answered : (before after : DeskView O) → IsCutOff DeskBegins (Starts DeskBegins (DeskStays made hears refuses)) (DeskHears made hears) DeskPosts refuses before after → Known before.kept → Known after.kept
  cut_answered before after (inl (work, (begun, begins, stays))) known = stays_answered begun work after stays (answered_same before.kept begun.kept begins.2 known)
  cut_answered before after (inr (work, outcome, is, ends)) known = turn_answered before work outcome after ends known

  pub settled_answered : (turns : ℕ) (before : DeskView O) (answer : Result ℕ SettleFault) (after : DeskView O) → DeskSettles made hears refuses turns before answer after → Known before.kept → Known after.kept
  settled_answered turns before (Ok count) after (low, settles, due, clear) known = settles_answered count before after settles known
  settled_answered turns before (Err Unsettled) after (settles, due, clear) known = settles_answered turns before after settles known
  settled_answered turns before (Err JournalFull) after (count, low, settles, due, room, clear) known = settles_answered count before after settles known
  settled_answered turns before (Err OutOfMemory) after (inl posts) known = answered_same before.kept after.kept posts.2 known
  settled_answered turns before (Err OutOfMemory) after (inr (inl (count, low, settles))) known = settles_answered count before after settles known
  settled_answered turns before (Err OutOfMemory) after (inr (inr (count, between, low, settles, cut))) known = cut_answered between after cut (settles_answered count before between settles known)

  -- ---- a turn that is finished

  pub finished_answered : {E : Type 0} (before after : DeskView O) (work : TurnWork) (answer : Result Outcome E) → IsFinished {S = DeskView O} {E = E} drains (DeskStays made hears refuses) (DeskFinishes made hears refuses) DeskPosts work before answer after → Known before.kept → Known after.kept
  finished_answered before after work (Ok outcome) (ended, finishes, posts, clear) known = answered_same ended.kept after.kept posts.2 (finishes_answered before work outcome ended finishes known)
  finished_answered before after work (Err fault) (inl stays) known = stays_answered before work after stays known
  finished_answered before after work (Err fault) (inr (outcome, ended, finishes, posts)) known = answered_same ended.kept after.kept posts.2 (finishes_answered before work outcome ended finishes known)
