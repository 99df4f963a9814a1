-- The listeners that stand come to their places among those that were removed.
use Rattle.std.proofs.Common.{◌∙◌, List, ap, sym, subst}
use Rattle.std.specs.List.{All}
use Rattle.std.specs.Prelude.{◌==◌}
use Rattle.service_listeners.specs.declared.listener.Listener.{Listener}
use Rattle.service_listeners.specs.Listening.{ListenerTable}
use Rattle.service_listeners.specs.Numbers.{AreNumbered, IsGiven}
use Rattle.service_listeners.specs.Undoing.{Kept, with_listeners}
use Rattle.service_listeners.proofs.TakenRows.{all_back, numbered_with_rows}
use Rattle.service_listeners.proofs.table.Listeners.put_listeners_back.Goals as goal

pub invariant_of-self : goal.invariant_of-self
invariant_of-self c =
    let given = subst (λ (k : Kept). All (IsGiven c.self.inside.numbered) k.listeners) (sym c.kept.view_is)
    (subst (λ (t : ListenerTable). All (IsGiven t.numbered) c.args.kept.listeners) (sym c.self.view_is) c.requires.given) in
    subst (AreNumbered c.self.inside.numbered) (sym c.put_each.ensures)
    (numbered_with_rows c.self.inside.numbered c.self.inside.rows.items c.kept.inside.rows.items c.self.invariant.1 (c.kept.invariant, given))

pub returns-clause-back : goal.returns-clause-back
returns-clause-back c =
    let t : ListenerTable = record { rows = c.self.inside.rows.items; numbered = c.self.inside.numbered } in
    ap (λ (rows : List Listener). let u : ListenerTable = record { rows = rows; numbered = c.self.inside.numbered } in u) c.put_each.ensures
    ∙ ap (λ (k : Kept). with_listeners k.listeners t) c.kept.view_is ∙ ap (with_listeners c.args.kept.listeners) c.self.view_is

pub returns-clause-undone : goal.returns-clause-undone
returns-clause-undone c before bundle numbered kept was =
    returns-clause-back c ∙ (λ i. with_listeners (kept i) (was i))
    ∙ ap (λ (rows : List Listener). let t : ListenerTable = record { rows = rows; numbered = before.numbered } in t)
    (all_back (λ (l : Listener). l.bundle == bundle) before.rows numbered.0)
