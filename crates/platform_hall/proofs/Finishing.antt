-- A turn that is finished on a desk, as its core tells it.
use Rattle.std.proofs.Common.{◌≡◌, ℕ, List, Bool, ap, sym, refl, subst, inl, inr, Result, Ok, Err, Option, Some}
use Rattle.std.specs.Prelude.{◌==◌}
use Rattle.callback_orders.specs.declared.callback.Outcome.{Outcome}
use Rattle.kind_trait.specs.declared.kind_fault.KindFault.{KindFault}
use Rattle.kind_trait.specs.Meanings.{Told}
use Rattle.prop_map.specs.declared.properties.Property.{Property}
use Rattle.turn_work.specs.declared.site.Site.{Site}
use Rattle.turn_work.specs.declared.work.TurnWork.{TurnWork}
use Rattle.scr_laws.proofs.Listed.{found_was}
use Rattle.turn_runner.specs.declared.came.Came.{Came}
use Rattle.turn_runner.specs.Outcomes.{IsOutcome, is_refused}
use Rattle.turn_runner.specs.Turns.{IsFinished}
use Rattle.platform_hall.specs.declared.finish_fault.FinishFault.TheVariants.{OutOfMemory as NoMemory}
use Rattle.platform_hall.specs.Desks.{AreAnswered, DeskFinishes, DeskPosts, DeskStays, DeskView, FinishesHeard}
use Rattle.platform_hall.specs.Platforms.{Ends, Finishes, FinishesTurn, has_drain, running}
use Rattle.platform_hall.proofs.Seen.{hears_ends, stays_core}

module _ {O : Type 0} (made : O → Site → Type 0) (hears : O → Site → Told → Result (Unit {0}) KindFault → Type 0) (refuses : List ℕ → List Property → Told → Bool) (before after : DeskView O) (work : TurnWork) (runs : running before.core work.number ≡ Some work) (known : AreAnswered made hears refuses before.kept) where
  abbrev IsDone : {E : Type 0} → Result Outcome E → Type 0
  IsDone {E} answer = IsFinished {S = DeskView O} {E = E} (λ (d : DeskView O). has_drain d.core) (DeskStays made hears refuses) (DeskFinishes made hears refuses) DeskPosts work before answer after

  -- the outcome is right, and the turn has ended in the core
  finishes_ends : (outcome : Outcome) (ended : DeskView O) → DeskFinishes made hears refuses before work outcome ended → IsOutcome (is_refused refuses work) outcome × Ends before.core work.number outcome ended.core
  finishes_ends outcome ended (inl (untold, told)) = (told.0, hears_ends made hears before work.number outcome ended told.1)
  finishes_ends outcome ended (inr (came, kept, its, same, ends, own)) = (
    subst (λ (o : Outcome). IsOutcome (is_refused refuses work) o) (sym same)
        (subst (λ (w : TurnWork). IsOutcome (is_refused refuses w) came.ran.outcome) its (known came (found_was (λ (k : Came O). k.work.number == work.number) before.kept came kept).0).1.0),
    ends.0,
  )

  finishes : (ended : DeskView O) (outcome : Outcome) → DeskFinishes made hears refuses before work outcome ended → DeskPosts ended after → Finishes refuses before.core work.number outcome after.core
  finishes ended outcome is posts = let ends = finishes_ends outcome ended is in (work, ended.core, runs, ends.0, ends.1, posts.0)

  pub finished_ok : (outcome : Outcome) → IsDone {E = Unit {0}} (Ok outcome) → FinishesTurn refuses before.core work.number (Ok outcome) after.core
  finished_ok outcome (ended, is, posts, clear) = (finishes ended outcome is posts, clear)

  pub finished_heard : (outcome : Outcome) → IsDone {E = Unit {0}} (Ok outcome) → FinishesHeard made hears refuses before.core work.number outcome after.core
  finished_heard outcome (ended, is, posts, clear) = (before, ended, after, work, refl, refl, runs, known, is, posts)

  pub finished_err : {E : Type 0} (fault : E) → IsDone (Err fault) → FinishesTurn refuses before.core work.number (Err NoMemory) after.core
  finished_err fault (inl stays) = inl (stays_core made hears refuses before work after stays)
  finished_err fault (inr (outcome, ended, is, posts)) = inr (outcome, finishes ended outcome is posts)
