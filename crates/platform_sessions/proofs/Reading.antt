-- A look at the core, in one turn at the lock.
use Rattle.std.proofs.Common.{◌≡◌, ℕ, ◌+◌, List, length, sym, refl, subst}
use Rattle.front_lock.specs.Histories.{Distinct, Extends}
use Rattle.front_lock.specs.Passes.{names_of}
use Rattle.hall_locked.specs.Locks.{IsLocked, LockedView, log_of}
use Rattle.journal_core.specs.declared.entry.Entry.{Entry}
use Rattle.platform_sessions.specs.Halls.{View}
use Rattle.platform_sessions.specs.Reads.{Reads}
use Rattle.platform_sessions.proofs.Stretches.{journal_is, looked}
use Rattle.scr_world.specs.declared.command.Limits.{Limits}
use Rattle.scr_world.specs.declared.step.Step.{Step}

pub read_so : {L O : Type 0} (looks : L → List (Entry Step) → Limits → L → Type 0) (p q : View) (value : LockedView O) (kept : List (ℕ × ℕ)) → Distinct (names_of p) → Extends (names_of p) p.seen (log_of value)
    → q ≡ record p { seen = log_of value; kept = kept; entered = p.entered + 1 } → IsLocked value → (limits : Limits) → value.core.limits ≡ limits → (look looked_at : L) (front : ℕ) → front ≡ length q.seen
    → looks look value.core.journal value.core.limits looked_at → Reads looks limits p q look front looked_at
read_so looks p q value kept apart goes same locked limits its look looked_at front is learned = record {
  went = looked p q value value kept apart goes same refl;
  front_is = is;
  learned = subst (λ (xs : List (Entry Step)). looks look xs limits looked_at) (sym (journal_is p q value value kept apart goes same locked))
      (subst (λ (l : Limits). looks look value.core.journal l looked_at) its learned);
}
