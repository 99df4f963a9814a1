use Rattle.std.proofs.Common.{ap, sym, subst, ◌∙◌}
use Rattle.world_keeper.specs.Orders.{IsOrdered}
use Rattle.world_keeper.specs.Stored.{StoredWorld}
use Rattle.world_keeper.specs.Tables.{changes_at}
use Rattle.world_keeper.proofs.KeptOrders.{ordered_by}
use Rattle.world_keeper.proofs.sqlite_keeper.SqliteKeeperKeeper.load.Goals as goal

pub invariant_of-self : goal.invariant_of-self
invariant_of-self c = (c.kept_at.ensures.stays (changes_at c.self.inside.place) c.self.invariant).0

pub returns-in-Ok-clause-same : goal.returns-in-Ok-clause-same
returns-in-Ok-clause-same c = (c.kept_at.ensures.stays (changes_at c.self.inside.place) c.self.invariant).1 ∙ ap (λ (w : StoredWorld). w.kept) c.self.view_is

pub returns-in-Err-clause-same : goal.returns-in-Err-clause-same
returns-in-Err-clause-same c = (c.kept_at.ensures.stays (changes_at c.self.inside.place) c.self.invariant).1 ∙ ap (λ (w : StoredWorld). w.kept) c.self.view_is

pub returns-in-Ok-clause-all : goal.returns-in-Ok-clause-all
returns-in-Ok-clause-all c = c.in-Ok.ensures.all (changes_at c.self.inside.place) c.self.invariant ∙ ap (λ (w : StoredWorld). w.kept) c.self.view_is

pub returns-in-Ok-clause-ordered : goal.returns-in-Ok-clause-ordered
returns-in-Ok-clause-ordered c = subst IsOrdered (sym (c.in-Ok.ensures.all (changes_at c.self.inside.place) c.self.invariant)) (ordered_by (changes_at c.self.inside.place))
