-- A move of the call that runs, from what its parts do.
use Rattle.std.proofs.Common.{◌≡◌, ◌≤◌, ℕ, List, refl, subst, sym}
use Rattle.std.specs.Prelude.{IfOk, Result}
use Rattle.kind_trait.specs.Meanings.{Answers, Asking, Refuses}
use Rattle.call_moves.specs.Evaluations.{Declined, Frame, Meaning, Reaching, Said}
use Rattle.call_moves.specs.Progress.{EndsBy, next_move}
use Rattle.call_runner.specs.declared.advance.Step.{Step}
use Rattle.call_runner.specs.declared.advance.Step.TheVariants.{Goes, Ends}
use Rattle.call_runner.specs.declared.calls.Calls.{Calls}
use Rattle.call_runner.specs.declared.calls.Paused.{Paused}
use Rattle.call_runner.specs.declared.calls.Running.{Running}
use Rattle.call_runner.specs.declared.run.End.{End}
use Rattle.call_runner.specs.declared.run.End.TheVariants.{Said as EndSaid, Declined as EndDeclined}
use Rattle.call_runner.specs.Runs.{HasFewer, HasStepped, IsAt, IsOwnStep, Outer, ended_of, frame_of, frame_of_paused}
use Rattle.call_runner.specs.Steps.{HasEnded}
use Rattle.call_runner.proofs.Measures.{fewer_ended}
use Rattle.call_runner.proofs.Owning.{owns_resumed}
use Rattle.call_runner.proofs.Results.{if_ok_then}
use Rattle.call_runner.proofs.Stepping.{ended_step}

module _ {O W E : Type 0} where
  -- ---- a call that ends

  pub own_ended : (owns : ℕ → O → Type 0) (before after : Calls W) (place : ℕ) (end : End) (result : Result (Step O W) E) → IfOk result (HasEnded before place end after) → IfOk result (IsOwnStep owns)
  own_ended owns before after place end result ended = if_ok_then (HasEnded before place end after) (IsOwnStep owns) result go ended
    where
      go : (step : Step O W) → HasEnded before place end after step → IsOwnStep owns step
      go (Goes running) (resumed, noted) = owns_resumed owns before.waiting after.waiting _ running resumed
      go (Ends last) is = tt

  pub fewer_after : (before after : Calls W) (place : ℕ) (end : End) (result : Result (Step O W) E) → before.waiting.nested ≤ 64 → IfOk result (HasEnded before place end after) → IfOk result (HasFewer before.waiting after.waiting)
  fewer_after before after place end result few ended = if_ok_then (HasEnded before place end after) (HasFewer before.waiting after.waiting) result (λ step is. fewer_ended before after place end step few is) ended

  module _ (reaches : Reaching) (next : Meaning) (front : ℕ) (stands_for : W → Asking) (outer : Outer) (before after : Calls W) (running : Running O W) (result : Result (Step O W) E) where
    ended_as : (end : End) → EndsBy (next_move next (frame_of stands_for running)) (ended_of end) → IfOk result (HasEnded before running.place end after) → IsAt reaches next front stands_for outer before (frame_of stands_for running)
        → IfOk result (HasStepped reaches next front stands_for outer after)
    ended_as end ends ended at =
        if_ok_then (HasEnded before running.place end after) (HasStepped reaches next front stands_for outer after) result
        (λ step is. ended_step reaches next front stands_for outer before after (frame_of stands_for running) running.place end step refl at ends is) ended

    -- it answers
    pub answers_so : (text : List ℕ) → next_move next (frame_of stands_for running) ≡ Answers text → IfOk result (HasEnded before running.place (EndSaid text) after) → IsAt reaches next front stands_for outer before (frame_of stands_for running)
        → IfOk result (HasStepped reaches next front stands_for outer after)
    answers_so text moves = ended_as (EndSaid text) (subst (λ m. EndsBy m (Said text)) (sym moves) refl)

    -- it refuses
    pub refuses_so : next_move next (frame_of stands_for running) ≡ Refuses → IfOk result (HasEnded before running.place EndDeclined after) → IsAt reaches next front stands_for outer before (frame_of stands_for running)
        → IfOk result (HasStepped reaches next front stands_for outer after)
    refuses_so moves = ended_as EndDeclined (subst (λ m. EndsBy m Declined) (sym moves) refl)

-- ---- a call that waits is the one that ran

abbrev frame_with : ℕ → ℕ → Asking → Frame
frame_with instance place asking = record { instance = instance; asking = asking; place = place }

module _ {O W : Type 0} (stands_for : W → Asking) (running : Running O W) (paused : Paused W) (its : stands_for paused.work ≡ (frame_of stands_for running).asking) (number : paused.instance ≡ running.instance) (place : paused.place ≡ running.place) where
  pub same_frame : frame_of stands_for running ≡ frame_of_paused stands_for paused
  same_frame =
      subst (λ a. frame_with running.instance running.place a ≡ frame_of_paused stands_for paused) its
      (subst (λ n. frame_with n running.place (stands_for paused.work) ≡ frame_of_paused stands_for paused) number
      (subst (λ k. frame_with paused.instance k (stands_for paused.work) ≡ frame_of_paused stands_for paused) place refl))
