-- A filter leaves numbers as they rise.
use Rattle.std.proofs.Common.{◌<◌, ◌∙◌, ◌++◌, ap, sym, subst}
use Rattle.std.proofs.lemmas.List.Elements.{All-filter}
use Rattle.std.proofs.lemmas.List.Kept.{AllPairs-filter}
use Rattle.std.specs.List.{All}
use Rattle.std.specs.Prelude.{◌==◌, filter, not}
use Rattle.service_listeners.specs.declared.listener.Listener.{Listener}
use Rattle.service_listeners.specs.Numbers.{AreNumbered, AreRising, IsGiven}
use Rattle.service_listeners.proofs.table.Listeners.take_listeners_of.Goals as goal

pub invariant_of-self : goal.invariant_of-self
invariant_of-self c = subst (AreNumbered c.self.inside.numbered) (sym c.move_those_of.ensures.left) (
  AllPairs-filter (λ (l m : Listener). l.number < m.number) (λ (l : Listener). not (l.bundle == c.args.bundle)) c.self.inside.rows.items c.self.invariant.0,
  All-filter (λ (l : Listener). not (l.bundle == c.args.bundle)) (IsGiven c.self.inside.numbered) c.self.inside.rows.items c.self.invariant.1,
)

pub invariant_of-result : goal.invariant_of-result
invariant_of-result c =
    let moved = c.move_those_of.ensures.moved ∙ ap (λ ls. ls ++ filter (λ (l : Listener). l.bundle == c.args.bundle) c.self.inside.rows.items) c.list-rows.ensures.empty in
    subst AreRising (sym moved) (AllPairs-filter (λ (l m : Listener). l.number < m.number) (λ (l : Listener). l.bundle == c.args.bundle) c.self.inside.rows.items c.self.invariant.0)

pub returns-clause-given : goal.returns-clause-given
returns-clause-given c =
    let moved = c.move_those_of.ensures.moved ∙ ap (λ ls. ls ++ filter (λ (l : Listener). l.bundle == c.args.bundle) c.self.inside.rows.items) c.list-rows.ensures.empty in
    subst (All (IsGiven c.self.inside.numbered)) (sym moved) (All-filter (λ (l : Listener). l.bundle == c.args.bundle) (IsGiven c.self.inside.numbered) c.self.inside.rows.items c.self.invariant.1)
