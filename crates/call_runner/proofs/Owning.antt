-- An object that is asked next is its instance's own.
use Rattle.std.proofs.Common.{◌≡◌, ℕ, List, subst, sym}
use Rattle.std.specs.Arc.{arc_value}
use Rattle.kind_trait.specs.Stacks.{Stack}
use Rattle.kind_trait.specs.declared.nested_reply.NestedReply.{NestedReply}
use Rattle.call_runner.specs.declared.callees.Party.{Party}
use Rattle.call_runner.specs.declared.calls.Paused.{Paused}
use Rattle.call_runner.specs.declared.calls.Running.{Running}
use Rattle.call_runner.specs.Runs.{IsOwnRunning}
use Rattle.call_runner.specs.Steps.{HasResumed, taken_up_by}

module _ {O W : Type 0} (owns : ℕ → O → Type 0) where
  pub owns_resumed : (before after : Stack (Paused W)) (reply : NestedReply) (running : Running O W) → HasResumed before reply running after → IsOwnRunning owns running
  owns_resumed before after reply running (paused, popped, is) = subst (λ (r : Running O W). IsOwnRunning owns r) (sym is) tt

  pub owns_taken : (service : ℕ) (party : Party O) (request : List ℕ) (place : ℕ) (running : Running O W) → running ≡ taken_up_by service party request place → owns party.instance (arc_value party.object) → IsOwnRunning owns running
  owns_taken service party request place running is own = subst (λ (r : Running O W). IsOwnRunning owns r) (sym is) own
