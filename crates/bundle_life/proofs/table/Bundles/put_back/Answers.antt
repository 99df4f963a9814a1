-- A bundle as it was kept, and no more events than there were.
use Rattle.std.proofs.Common.{◌≡◌, ap, arith, sym, ◌∙◌}
use Rattle.bundle_life.specs.EventLists.{EventList}
use Rattle.bundle_life.specs.Lives.{BundleTable, is_stopping, state_is}
use Rattle.bundle_life.specs.Numbers.{NumberedRows}
use Rattle.bundle_life.specs.Undoing.{Kept, owing, with_kept, with_row}
use Rattle.bundle_life.proofs.RowLaws.{count_one}
use Rattle.bundle_life.proofs.Steps.{as_table, undone}
use Rattle.bundle_life.proofs.table.Bundles.put_back.Goals as goal

pub take_back-requires-clause-owed : goal.take_back-requires-clause-owed
take_back-requires-clause-owed c =
    let stops : owing c.is_stopping-owed.result ≡ owing (state_is is_stopping c.self.inside.rows.rows c.kept.inside.row.number) =
    ap owing (c.is_stopping-owed.ensures ∙ ap (λ (t : BundleTable). state_is is_stopping t.rows c.kept.inside.row.number) (sym c.self.view_is)) in
    omega (arith, stops, count_one c.kept.inside.row.number c.self.inside.rows.rows, c.self.invariant)

pub returns-clause-back : goal.returns-clause-back
returns-clause-back c =
    let rows : NumberedRows = record { rows = with_row c.kept.inside.row c.self.inside.rows.rows; numbered = c.self.inside.rows.numbered } in
    let now : BundleTable = as_table c.self.inside.rows c.self.inside.events.events in
    ap (λ (r : NumberedRows). as_table r c.take_back.new.self.events) c.put_back.ensures.rows
    ∙ ap (λ (l : EventList). as_table rows l.events) c.take_back.ensures
    ∙ ap (λ (k : Kept). with_kept k now) c.kept.view_is ∙ ap (with_kept c.args.kept) c.self.view_is

pub returns-clause-undone : goal.returns-clause-undone
returns-clause-undone c before is step = returns-clause-back c ∙ undone c.args.kept before c.args.self.now is step
