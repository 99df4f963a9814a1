-- A call that is taken up.
use Rattle.std.proofs.Common.{◌≡◌, ℕ, List, [], length, sym, ap, ◌∙◌, subst}
use Rattle.kind_trait.specs.Meanings.{Asking}
use Rattle.call_moves.specs.declared.nested_call.NestedCall.{NestedCall}
use Rattle.call_moves.specs.Evaluations.{Frame, Meaning, Reaching, taken_up}
use Rattle.call_moves.specs.Progress.{HasCome}
use Rattle.call_moves.proofs.Steps.{starts}
use Rattle.call_runner.specs.declared.calls.Calls.{Calls}
use Rattle.call_runner.specs.Runs.{AreAt, IsAt, Outer, frames_of}

abbrev Come : Reaching → Meaning → Outer → List Frame → Frame → List NestedCall → Type 0
Come reaches next outer waiting f nested = HasCome reaches next outer.instance outer.site outer.request waiting f nested

module _ (reaches : Reaching) (next : Meaning) (front : ℕ) {W : Type 0} (stands_for : W → Asking) (outer : Outer) where
  pub begins : (calls : Calls W) (f : Frame) → calls.waiting.calls ≡ [] → calls.waiting.nested ≡ 0 → calls.nested.items ≡ [] → f ≡ taken_up outer.instance outer.site outer.request 0 → IsAt reaches next front stands_for outer calls f
  begins calls f none zero nothing is = record {
    come = subst (λ ws. Come reaches next outer (frames_of stands_for ws) f calls.nested.items) (sym none)
        (subst (λ ns. Come reaches next outer [] f ns) (sym nothing) (subst (λ g. Come reaches next outer [] g []) (sym is) (starts reaches next outer.instance outer.site outer.request)));
    counted = zero ∙ sym (ap length nothing);
    at_front = subst (AreAt front) (sym nothing) tt;
  }
