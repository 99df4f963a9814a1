-- In rows by service, then by bundle, the search finds the one of both.
use Rattle.std.proofs.Common.{rules}
use Rattle.std.proofs.lemmas.Fn.{always_returns_same}
use Rattle.row_places.proofs.RowOrderLaws.{placed}
use Rattle.use_counts.specs.declared.uses.UseRow.{UseRow}
use Rattle.use_counts.specs.Uses.{no_use, use_cmp}
use Rattle.use_counts.proofs.UseRows.{use_cmp_total}
use Rattle.use_counts.proofs.rows.place_of.Goals as goal

pub returns-clause-place : goal.returns-clause-place
returns-clause-place c = placed use_cmp use_cmp_total (no_use c.args.bundle c.args.service) c.args.rows.now c.binary_search_by.result c.requires
    (c.binary_search_by.ensures.position (λ (u : UseRow). use_cmp u (no_use c.args.bundle c.args.service)) (always_returns_same _ _ _ (λ a r q k. search rules))) c.binary_search_by.ensures.bound
