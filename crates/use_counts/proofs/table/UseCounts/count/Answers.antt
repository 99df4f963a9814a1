use Rattle.std.proofs.Common.{◌<◌, ◌^◌, ◌∙◌, ap, subst, sym, List}
use Rattle.use_counts.specs.declared.uses.UseRow.{UseRow}
use Rattle.use_counts.specs.Uses.{total, use_of}
use Rattle.use_counts.proofs.UseRows.{small_use}
use Rattle.use_counts.proofs.table.UseCounts.count.Goals as goal

pub total-requires : goal.total-requires
total-requires c =
    subst (λ (u : UseRow). total u < 2 ^ 32) (sym (c.use_of.ensures
    ∙ ap (λ (us : List UseRow). use_of c.args.bundle c.args.service us) c.as_slice.ensures.value))
    (small_use c.args.bundle c.args.service c.self.inside.rows.items c.self.invariant)
