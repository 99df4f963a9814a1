use Rattle.std.proofs.Common.{ℕ, List, subst, sym, ap, ◌∙◌}
use Rattle.front_lock.specs.Histories.{In, Owners}
use Rattle.front_lock.specs.Passes.{names_of}
use Rattle.hall_locked.specs.Locks.{log_of}
use Rattle.hall_locked.specs.Owned.{owned}
use Rattle.journal_core.specs.declared.entry.Entry.{Entry}
use Rattle.platform_sessions.specs.Halls.{Own, View}
use Rattle.scr_world.specs.declared.step.Step.{Step}
use Rattle.platform_sessions.proofs.hall.Hall.into_journal.Goals as goal

pub returns-clause-owned_by : goal.returns-clause-owned_by
returns-clause-owned_by g c =
    let entries = c.into_journal.ensures.entries in
    let log =
    ap (λ (es : List (Entry Step)). owned c.close.result.owners es) (sym entries.0)
    ∙ ap (λ (os : List ℕ). owned os c.into_journal.result.0.entries) (sym entries.1) in
    subst (λ (l : Own). Owners (λ n. In n (names_of c.args.pass.front)) l) log
    (subst (λ (v : View). Owners (λ n. In n (names_of v)) (log_of c.close.result)) c.into_front.ensures.front c.close.ensures.owned)
