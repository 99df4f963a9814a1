-- A call that goes on has fewer moves left.
use Rattle.std.proofs.Common.{◌≡◌, ℕ, ◌+◌, ◌≤◌, ◌<◌, ◌||◌, [], ◌∷◌, length, Bool, true, false, inl, inr, ap, ◌∙◌, arith}
use Rattle.std.specs.Prelude.{◌==◌}
use Rattle.std.proofs.lemmas.Bool.{both_ways, cases_eq, eq-eqb, or_right}
use Rattle.std.proofs.lemmas.List.{length-append}
use Rattle.kind_trait.specs.Stacks.{Stack}
use Rattle.kind_trait.specs.declared.nested_reply.NestedReply.{NestedReply}
use Rattle.call_runner.specs.declared.advance.Step.{Step}
use Rattle.call_runner.specs.declared.advance.Step.TheVariants.{Goes, Ends}
use Rattle.call_runner.specs.declared.calls.Calls.{Calls}
use Rattle.call_runner.specs.declared.calls.Paused.{Paused}
use Rattle.call_runner.specs.declared.calls.Running.{Running}
use Rattle.call_runner.specs.declared.run.End.{End}
use Rattle.call_runner.specs.Runs.{HasFewer}
use Rattle.call_runner.specs.Steps.{HasEnded, HasResumed, HasWaited}

not_full : (n : ℕ) (b : Bool) → n ≤ 64 → (b || (n == 64)) ≡ false → n < 64
not_full n b few short = elim (cases_eq n 64) [
  | inl same ↦ absurd (both_ways (b || (n == 64)) short (or_right b (n == 64) (eq-eqb n 64 same)))
  | inr differ ↦ omega (arith, few, differ)
]

module _ {O W : Type 0} where
  resumed_length : (before after : Stack (Paused W)) (reply : NestedReply) (running : Running O W) → HasResumed before reply running after → length before.calls ≡ length after.calls + 1
  resumed_length before after reply running (paused, popped, is) = ap length popped.1 ∙ length-append after.calls (record { service = popped.0; work = paused } ∷ [])

  pub fewer_ended : (before after : Calls W) (place : ℕ) (end : End) (step : Step O W) → before.waiting.nested ≤ 64 → HasEnded before place end after step → HasFewer before.waiting after.waiting step
  fewer_ended before after place end (Goes running) few ((paused, popped, is), noted) =
      let same = popped.2 in
      let long = resumed_length before.waiting after.waiting _ running (paused, popped, is) in
      (omega (arith, same, long, few), omega (arith, same, few))
  fewer_ended before after place end (Ends last) few ended = tt

  pub fewer_resumed : (before between after : Stack (Paused W)) (paused : Paused W) (reply : NestedReply) (running : Running O W) → before.nested ≤ 64 → HasWaited before paused true between → HasResumed between reply running after → HasFewer before after (Goes running)
  fewer_resumed before between after paused reply running few (short, pushed, more) resumed =
      let low = not_full before.nested _ few short in
      let popped = resumed.1.2 in
      let long = ap length pushed ∙ length-append before.calls (record { service = paused.service; work = paused } ∷ []) in
      let less = resumed_length between after reply running resumed in
      (omega (arith, low, more, popped, long, less), omega (arith, low, more, popped))

  pub fewer_taken : (before between after : Stack (Paused W)) (paused : Paused W) (running : Running O W) → before.nested ≤ 64 → HasWaited before paused true between → after ≡ between → HasFewer before after (Goes running)
  fewer_taken before between after paused running few (short, pushed, more) same =
      let low = not_full before.nested _ few short in
      let long = ap length pushed ∙ length-append before.calls (record { service = paused.service; work = paused } ∷ []) in
      let calls = ap (λ (s : Stack (Paused W)). length s.calls) same in
      let nested = ap (λ (s : Stack (Paused W)). s.nested) same in
      (omega (arith, low, more, long, calls, nested), omega (arith, low, more, nested))
