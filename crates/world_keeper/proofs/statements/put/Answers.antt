use Rattle.std.proofs.Common.{refl}
use Rattle.sqlite.specs.Held.{state}
use Rattle.sqlite.specs.Steps.{over_memory}
use Rattle.sqlite.proofs.Callers.{memory_is_clean}
use Rattle.world_keeper.proofs.RowLemmas.{puts, refused, stays_open}
use Rattle.world_keeper.proofs.statements.put.Goals as goal

pub returns-clause-refused : goal.returns-clause-refused
returns-clause-refused c lines kept =
    let clean = memory_is_clean c.execute.new.self in
    let old = state over_memory c.args.conn.now in
    let new = state over_memory c.execute.new.self in
    refused _ _ old new lines c.execute.result kept (stays_open old new lines kept clean (refl, refl) c.execute.ensures.survives) (c.execute.ensures.runs clean)

pub returns-clause-kept : goal.returns-clause-kept
returns-clause-kept c lines kept =
    puts (state over_memory c.args.conn.now) (state over_memory c.execute.new.self) _ lines c.execute.result kept
    (rw (c.params-to_sql.ensures, c.params-to_sql-2.ensures, c.params-to_sql-3.ensures, c.params-to_sql-4.ensures) at (c.execute.ensures.runs (memory_is_clean c.execute.new.self)))
