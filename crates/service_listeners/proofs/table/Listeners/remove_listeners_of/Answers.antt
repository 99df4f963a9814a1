-- A filter leaves numbers as they rise.
use Rattle.std.proofs.Common.{◌<◌, ap, sym, subst}
use Rattle.std.proofs.lemmas.List.Elements.{All-filter}
use Rattle.std.proofs.lemmas.List.Kept.{AllPairs-filter}
use Rattle.std.specs.Prelude.{◌==◌, not}
use Rattle.service_listeners.specs.declared.listener.Listener.{Listener}
use Rattle.service_listeners.specs.Numbers.{AreNumbered, IsGiven}
use Rattle.service_listeners.proofs.table.Listeners.remove_listeners_of.Goals as goal

pub invariant_of-self : goal.invariant_of-self
invariant_of-self c = subst (AreNumbered c.self.inside.numbered) (sym c.keep_others.ensures) (
  AllPairs-filter (λ (l m : Listener). l.number < m.number) (λ (l : Listener). not (l.bundle == c.args.bundle)) c.self.inside.rows.items c.self.invariant.0,
  All-filter (λ (l : Listener). not (l.bundle == c.args.bundle)) (IsGiven c.self.inside.numbered) c.self.inside.rows.items c.self.invariant.1,
)

pub returns : goal.returns
returns c = rw (← c.self.view_is) (ap (λ rows. record { rows = rows; numbered = c.self.inside.numbered }) c.keep_others.ensures)
