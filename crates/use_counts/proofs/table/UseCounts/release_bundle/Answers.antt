-- A filter leaves the rows in order and counted.
use Rattle.std.proofs.Common.{ap, subst, sym, ◌∙◌, ◌≤◌, filter, length}
use Rattle.std.specs.Prelude.{◌==◌, not}
use Rattle.use_counts.specs.declared.uses.UseRow.{UseRow}
use Rattle.use_counts.specs.Refusals.{AreUses}
use Rattle.use_counts.proofs.Undone.{fewer}
use Rattle.use_counts.proofs.UseRows.{uses_filtered}
use Rattle.use_counts.proofs.table.UseCounts.release_bundle.Goals as goal

pub invariant_of-self : goal.invariant_of-self
invariant_of-self c =
    subst AreUses (sym c.leave_bundle.ensures) (uses_filtered (λ (u : UseRow). not (u.bundle == c.args.bundle)) c.self.inside.rows.items c.self.invariant)

pub returns-clause-fewer : goal.returns-clause-fewer
returns-clause-fewer c =
    subst (λ us. length us ≤ length c.args.self.now) (sym (c.leave_bundle.ensures
    ∙ ap (filter (λ (u : UseRow). not (u.bundle == c.args.bundle))) c.self.view_is))
    (fewer (λ (u : UseRow). not (u.bundle == c.args.bundle)) c.args.self.now)
