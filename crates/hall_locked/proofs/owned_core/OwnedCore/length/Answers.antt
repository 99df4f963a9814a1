use Rattle.std.proofs.Common.{ap, sym, ◌∙◌}
use Rattle.std.specs.Prelude.{length}
use Rattle.hall_locked.specs.OwnedCores.{OwnedView, log_owned}
use Rattle.hall_locked.proofs.Logs.{owned_length}
use Rattle.hall_locked.proofs.owned_core.OwnedCore.length.Goals as goal

pub returns : goal.returns
returns g c =
    c.length.ensures
    ∙ ap length c.journal.ensures.entries
    ∙ sym c.self.invariant.owners
    ∙ sym (owned_length c.self.inside.owners.items c.self.inside.core.journal c.self.invariant.owners)
    ∙ ap (λ (l : OwnedView g.row.O.Denot). length (log_owned l)) c.self.view_is
