use Rattle.std.proofs.Common.{[], subst, sym, ◌∙◌}
use Rattle.world_keeper.specs.Tables.{KeepsChanges, Place}
use Rattle.world_keeper.proofs.ChangeLemmas.{none_kept}
use Rattle.world_keeper.proofs.database.found_at.Goals as goal

pub returns-in_ok-changes-in-None-clause-kept : goal.returns-in_ok-changes-in-None-clause-kept
returns-in_ok-changes-in-None-clause-kept c changes is =
    none_kept c.changes_in-in-None.new.conn changes (subst (λ (p : Place). KeepsChanges p changes) c.in-None.is is) (c.in_ok-changes-in-None.ensures.kept [] c.in_ok-conn-in-None.ensures)

pub returns-in_ok-changes-in-None-clause-all : goal.returns-in_ok-changes-in-None-clause-all
returns-in_ok-changes-in-None-clause-all c changes is =
    c.in_ok-changes-in-None.ensures.all [] c.in_ok-conn-in-None.ensures ∙ sym (subst (λ (p : Place). KeepsChanges p changes) c.in-None.is is)
