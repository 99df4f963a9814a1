use Rattle.std.proofs.Common.{rules, ◌≡◌, ◌<◌, ◌∷◌, Some, sym, ap, ◌∙◌, subst}
use Rattle.atomic_table.specs.Table.{rest}
use Rattle.front_lock.specs.Histories.{Extends, Distinct}
use Rattle.front_lock.specs.Keepings.{kept_by}
use Rattle.front_lock.specs.Passes.{names, shown_by}
use Rattle.front_lock.proofs.Turns.{puts_back_as}
use Rattle.front_lock.proofs.lock.FrontLock.put_down.Goals as goal

pub store-requires : goal.store-requires
store-requires g c = let a = c.exchange.ensures.3 in let h = c.requires.held in let l = c.requires.alive in (
  search rules,
  search rules,
  puts_back_as (shown_by g.T.Grows.entries g.T.Grows.kept) g.T.Grows.tie _ _ _ c.args.value c.args.ticket h.1.0 h.1.1 h.1.2 l.1.0 (ap (λ m. m.1) a ∙ ap (λ z. (0, Some c.args.value) ∷ rest z) h.0) (ap (λ m. m.0.stage) a ∙ h.1.3) (subst (λ m. 0 < m.0.parts) (sym a) l.0) (subst (λ m. m.0.own ≡ Some l.1.0) (sym a) l.1.1) (subst (λ m. g.T.Grows.tie c.args.value ≡ m.0.tie) (sym a) c.requires.tie),
)

pub returns-clause-learned : goal.returns-clause-learned
returns-clause-learned g c = let a = c.exchange.ensures.3 in
    λ fresh ns also e. subst (λ m. Extends ns also (g.T.Grows.entries c.args.value) × Extends (names m.0) m.0.seen (g.T.Grows.entries c.args.value) × (kept_by (names m.0) (g.T.Grows.kept c.args.value) ≡ m.0.kept)) a (c.store.ensures.2.1 c.args.ticket fresh (shown_by g.T.Grows.entries g.T.Grows.kept c.args.value) ns also (ap (λ m. m.0.stage) a ∙ e))

pub returns-clause-distinct : goal.returns-clause-distinct
returns-clause-distinct g c = subst (λ m. Distinct (names m.0)) c.exchange.ensures.3 c.store.ensures.2.3
