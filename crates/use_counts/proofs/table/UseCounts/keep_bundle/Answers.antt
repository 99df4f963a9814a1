use Rattle.std.proofs.Common.{ap, subst, sym, ◌∙◌, filter}
use Rattle.std.proofs.lemmas.List.Elements.{All-filter}
use Rattle.std.specs.List.{All}
use Rattle.std.specs.Prelude.{◌==◌}
use Rattle.use_counts.specs.declared.uses.UseRow.{UseRow}
use Rattle.use_counts.specs.Refusals.{IsCounted}
use Rattle.use_counts.proofs.table.UseCounts.keep_bundle.Goals as goal

pub of-requires : goal.of-requires
of-requires c =
    subst (All IsCounted) (sym (c.in_ok-uses.ensures ∙ ap (filter (λ (u : UseRow). u.bundle == c.args.bundle)) c.as_slice.ensures.value))
    (All-filter (λ (u : UseRow). u.bundle == c.args.bundle) IsCounted c.self.inside.rows.items c.self.invariant.1)
