use Rattle.std.proofs.Common.{ap, subst, sym, ◌∙◌, filter}
use Rattle.std.proofs.lemmas.List.Elements.{All-filter}
use Rattle.std.specs.List.{All}
use Rattle.use_counts.specs.Refusals.{IsCounted}
use Rattle.use_counts.specs.Uses.{is_use}
use Rattle.use_counts.proofs.table.UseCounts.keep_use.Goals as goal

pub of-requires : goal.of-requires
of-requires c =
    subst (All IsCounted) (sym (c.in_ok-uses.ensures ∙ ap (filter (is_use c.args.bundle c.args.service)) c.as_slice.ensures.value))
    (All-filter (is_use c.args.bundle c.args.service) IsCounted c.self.inside.rows.items c.self.invariant.1)
