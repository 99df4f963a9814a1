use Rattle.std.proofs.Common.{[], subst}
use Rattle.world_keeper.specs.Tables.{KeepsChanges, Place}
use Rattle.world_keeper.proofs.ChangeLemmas.{first_kept}
use Rattle.world_keeper.proofs.database.put_at.Goals as goal

pub returns-in_ok-put_change-in-None-clause-kept : goal.returns-in_ok-put_change-in-None-clause-kept
returns-in_ok-put_change-in-None-clause-kept c changes is =
    first_kept c.put_change-in-None.new.conn changes c.args.change.now (subst (λ (p : Place). KeepsChanges p changes) c.in-None.is is) (c.in_ok-put_change-in-None.ensures.kept [] c.in_ok-conn-in-None.ensures)
