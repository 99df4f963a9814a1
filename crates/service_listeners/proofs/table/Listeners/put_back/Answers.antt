-- A listener that was removed stands at its place again.
use Rattle.std.proofs.Common.{ap, sym, subst, ◌∙◌, List}
use Rattle.service_listeners.specs.declared.listener.Listener.{Listener}
use Rattle.service_listeners.specs.Listening.{ListenerTable}
use Rattle.service_listeners.specs.Numbers.{IsGiven}
use Rattle.service_listeners.specs.Undoing.{with_listener}
use Rattle.row_places.proofs.NumberLaws.{taken_back}
use Rattle.service_listeners.proofs.table.Listeners.put_back.Goals as goal

pub invariant_of-self : goal.invariant_of-self
invariant_of-self c = c.put_into.ensures.numbered c.self.inside.numbered (subst (λ (t : ListenerTable). IsGiven t.numbered c.args.listener) (sym c.self.view_is) c.requires.given) c.self.invariant

pub returns-clause-back : goal.returns-clause-back
returns-clause-back c = rw (← c.self.view_is) (ap (λ (rows : List Listener). let t : ListenerTable = record { rows = rows; numbered = c.self.inside.numbered } in t) c.put_into.ensures.now)

pub returns-clause-undone : goal.returns-clause-undone
returns-clause-undone c before numbered there was =
    returns-clause-back c ∙ ap (with_listener c.args.listener) was
    ∙ ap (λ (rows : List Listener). let t : ListenerTable = record { rows = rows; numbered = before.numbered } in t) (taken_back (λ (l : Listener). l.number) c.args.listener before.rows numbered.0 there)
