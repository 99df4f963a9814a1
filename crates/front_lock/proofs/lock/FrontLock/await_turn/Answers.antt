use Rattle.std.proofs.Common.{◌<◌, Some, rules, sym, ap, ◌∙◌, subst}
use Rattle.front_lock.specs.Passes.{shown_by}
use Rattle.front_lock.proofs.Tickets.{takes_turn}
use Rattle.front_lock.proofs.Slots.{top_is, one_top, some_is, taken}
use Rattle.front_lock.proofs.lock.FrontLock.await_turn.Goals as goal

pub load-serving-requires : goal.load-serving-requires
load-serving-requires g c =
    let i = c.loop.invariant in let q = c.requires in
    (search rules, search rules, takes_turn (shown_by g.T.Grows.entries g.T.Grows.kept) g.T.Grows.tie _ _ _ c.args.ticket (ap (λ m. m.0.stage) i.3 ∙ q.1) (subst (λ m. 0 < m.0.parts) (sym i.3) q.2))

pub exchange-requires : goal.exchange-requires
exchange-requires g c =
    let i = c.loop.invariant in let q = c.requires in
    let told = (c.load-serving.ensures.2 c.args.ticket (ap (λ m. m.0.stage) i.3 ∙ q.1)).0 c.if-serving-ticket.true in
    (search rules, (Some told.0, top_is (Some told.0) _ _ (ap (λ m. m.1) told.1)))

pub unwrap-requires : goal.unwrap-requires
unwrap-requires g c =
    let i = c.loop.invariant in let q = c.requires in
    let told = (c.load-serving.ensures.2 c.args.ticket (ap (λ m. m.0.stage) i.3 ∙ q.1)).0 c.if-serving-ticket.true in
    some_is told.0 _ (one_top (Some told.0) _ _ _ _ (ap (λ m. m.1) told.1) c.exchange.ensures.2)

pub returns-then-serving-ticket-clause-out : goal.returns-then-serving-ticket-clause-out
returns-then-serving-ticket-clause-out g c =
    let i = c.loop.invariant in let q = c.requires in let e = c.exchange.ensures in
    (taken (shown_by g.T.Grows.entries g.T.Grows.kept) g.T.Grows.tie _ _ _ _ _ _ _ _ i.3 q.3 c.if-serving-ticket.true ((c.load-serving.ensures.2 c.args.ticket (ap (λ m. m.0.stage) i.3 ∙ q.1)).0 c.if-serving-ticket.true) e.2 e.3 c.unwrap.ensures).0

pub returns-then-serving-ticket-clause-goes_on : goal.returns-then-serving-ticket-clause-goes_on
returns-then-serving-ticket-clause-goes_on g c =
    let i = c.loop.invariant in let q = c.requires in let e = c.exchange.ensures in
    (taken (shown_by g.T.Grows.entries g.T.Grows.kept) g.T.Grows.tie _ _ _ _ _ _ _ _ i.3 q.3 c.if-serving-ticket.true ((c.load-serving.ensures.2 c.args.ticket (ap (λ m. m.0.stage) i.3 ∙ q.1)).0 c.if-serving-ticket.true) e.2 e.3 c.unwrap.ensures).1.goes_on

pub returns-then-serving-ticket-clause-unnamed : goal.returns-then-serving-ticket-clause-unnamed
returns-then-serving-ticket-clause-unnamed g c =
    let i = c.loop.invariant in let q = c.requires in let e = c.exchange.ensures in
    (taken (shown_by g.T.Grows.entries g.T.Grows.kept) g.T.Grows.tie _ _ _ _ _ _ _ _ i.3 q.3 c.if-serving-ticket.true ((c.load-serving.ensures.2 c.args.ticket (ap (λ m. m.0.stage) i.3 ∙ q.1)).0 c.if-serving-ticket.true) e.2 e.3 c.unwrap.ensures).1.unnamed

pub returns-then-serving-ticket-clause-later : goal.returns-then-serving-ticket-clause-later
returns-then-serving-ticket-clause-later g c =
    let i = c.loop.invariant in let q = c.requires in let e = c.exchange.ensures in
    (taken (shown_by g.T.Grows.entries g.T.Grows.kept) g.T.Grows.tie _ _ _ _ _ _ _ _ i.3 q.3 c.if-serving-ticket.true ((c.load-serving.ensures.2 c.args.ticket (ap (λ m. m.0.stage) i.3 ∙ q.1)).0 c.if-serving-ticket.true) e.2 e.3 c.unwrap.ensures).1.later

pub returns-then-serving-ticket-clause-tie : goal.returns-then-serving-ticket-clause-tie
returns-then-serving-ticket-clause-tie g c =
    let i = c.loop.invariant in let q = c.requires in let e = c.exchange.ensures in
    (taken (shown_by g.T.Grows.entries g.T.Grows.kept) g.T.Grows.tie _ _ _ _ _ _ _ _ i.3 q.3 c.if-serving-ticket.true ((c.load-serving.ensures.2 c.args.ticket (ap (λ m. m.0.stage) i.3 ∙ q.1)).0 c.if-serving-ticket.true) e.2 e.3 c.unwrap.ensures).1.tied

pub returns-then-serving-ticket-clause-owned : goal.returns-then-serving-ticket-clause-owned
returns-then-serving-ticket-clause-owned g c =
    let i = c.loop.invariant in let q = c.requires in let e = c.exchange.ensures in
    (taken (shown_by g.T.Grows.entries g.T.Grows.kept) g.T.Grows.tie _ _ _ _ _ _ _ _ i.3 q.3 c.if-serving-ticket.true ((c.load-serving.ensures.2 c.args.ticket (ap (λ m. m.0.stage) i.3 ∙ q.1)).0 c.if-serving-ticket.true) e.2 e.3 c.unwrap.ensures).1.owned

pub returns-then-serving-ticket-clause-kept : goal.returns-then-serving-ticket-clause-kept
returns-then-serving-ticket-clause-kept g c =
    let i = c.loop.invariant in let q = c.requires in let e = c.exchange.ensures in
    (taken (shown_by g.T.Grows.entries g.T.Grows.kept) g.T.Grows.tie _ _ _ _ _ _ _ _ i.3 q.3 c.if-serving-ticket.true ((c.load-serving.ensures.2 c.args.ticket (ap (λ m. m.0.stage) i.3 ∙ q.1)).0 c.if-serving-ticket.true) e.2 e.3 c.unwrap.ensures).1.kept

pub returns-then-serving-ticket-clause-keeps : goal.returns-then-serving-ticket-clause-keeps
returns-then-serving-ticket-clause-keeps g c =
    let i = c.loop.invariant in let q = c.requires in let e = c.exchange.ensures in
    (taken (shown_by g.T.Grows.entries g.T.Grows.kept) g.T.Grows.tie _ _ _ _ _ _ _ _ i.3 q.3 c.if-serving-ticket.true ((c.load-serving.ensures.2 c.args.ticket (ap (λ m. m.0.stage) i.3 ∙ q.1)).0 c.if-serving-ticket.true) e.2 e.3 c.unwrap.ensures).1.keeps

pub returns-then-serving-ticket-clause-keepers : goal.returns-then-serving-ticket-clause-keepers
returns-then-serving-ticket-clause-keepers g c =
    let i = c.loop.invariant in let q = c.requires in let e = c.exchange.ensures in
    (taken (shown_by g.T.Grows.entries g.T.Grows.kept) g.T.Grows.tie _ _ _ _ _ _ _ _ i.3 q.3 c.if-serving-ticket.true ((c.load-serving.ensures.2 c.args.ticket (ap (λ m. m.0.stage) i.3 ∙ q.1)).0 c.if-serving-ticket.true) e.2 e.3 c.unwrap.ensures).1.keepers

pub loop-preserved : goal.loop-preserved
loop-preserved g c =
    let i = c.loop.invariant in let q = c.requires in let d = c.load-serving.ensures in
    ((tt, tt), d.0 ∙ i.1, d.1 ∙ i.2, (d.2 c.args.ticket (ap (λ m. m.0.stage) i.3 ∙ q.1)).1 c.if-serving-ticket.false ∙ i.3)
