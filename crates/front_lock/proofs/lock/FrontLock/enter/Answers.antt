use Rattle.std.proofs.Common.{ℕ, ◌<◌, sym, ap, subst}
use Rattle.front_lock.specs.Histories.{In, Owners}
use Rattle.front_lock.specs.Passes.{ticket_at, names_of, shown_by}
use Rattle.front_lock.proofs.Histories.{places_kept}
use Rattle.front_lock.proofs.Turns.{idle_is, turned_extends, turned_owned, turned_kept, turned_keeps, turned_later}
use Rattle.front_lock.proofs.lock.FrontLock.enter.Goals as goal

pub returns-clause-mine : goal.returns-clause-mine
returns-clause-mine g c =
    let is = idle_is (shown_by g.T.Grows.entries g.T.Grows.kept) g.T.Grows.tie c.pass.inside.badge.table_id _ _ c.args.pass c.pass.view_is c.pass.invariant.0 c.into_seat-seat.ensures.2 in
    let goes_on = turned_extends (shown_by g.T.Grows.entries g.T.Grows.kept) g.T.Grows.tie c.args.pass c.draw-ticket.result _ _ _ _ is c.draw-ticket.ensures.drawn c.await_turn-value.ensures.goes_on in
    λ n here. places_kept n (names_of c.args.pass) c.args.pass.seen (g.T.Grows.entries c.await_turn-value.result) here goes_on

pub returns-clause-owned : goal.returns-clause-owned
returns-clause-owned g c =
    let is = idle_is (shown_by g.T.Grows.entries g.T.Grows.kept) g.T.Grows.tie c.pass.inside.badge.table_id _ _ c.args.pass c.pass.view_is c.pass.invariant.0 c.into_seat-seat.ensures.2 in
    turned_owned (shown_by g.T.Grows.entries g.T.Grows.kept) g.T.Grows.tie c.args.pass c.draw-ticket.result _ _ _ _ is c.draw-ticket.ensures.drawn c.await_turn-value.ensures.owned

pub returns-clause-keepers : goal.returns-clause-keepers
returns-clause-keepers g c =
    let is = idle_is (shown_by g.T.Grows.entries g.T.Grows.kept) g.T.Grows.tie c.pass.inside.badge.table_id _ _ c.args.pass c.pass.view_is c.pass.invariant.0 c.into_seat-seat.ensures.2 in
    turned_owned (shown_by g.T.Grows.entries g.T.Grows.kept) g.T.Grows.tie c.args.pass c.draw-ticket.result _ _ _ _ is c.draw-ticket.ensures.drawn c.await_turn-value.ensures.keepers

pub returns-clause-kept : goal.returns-clause-kept
returns-clause-kept g c =
    let is = idle_is (shown_by g.T.Grows.entries g.T.Grows.kept) g.T.Grows.tie c.pass.inside.badge.table_id _ _ c.args.pass c.pass.view_is c.pass.invariant.0 c.into_seat-seat.ensures.2 in
    turned_kept (shown_by g.T.Grows.entries g.T.Grows.kept) g.T.Grows.tie c.args.pass c.draw-ticket.result _ _ _ _ is c.draw-ticket.ensures.drawn c.await_turn-value.ensures.kept

pub returns-clause-keeps : goal.returns-clause-keeps
returns-clause-keeps g c =
    let is = idle_is (shown_by g.T.Grows.entries g.T.Grows.kept) g.T.Grows.tie c.pass.inside.badge.table_id _ _ c.args.pass c.pass.view_is c.pass.invariant.0 c.into_seat-seat.ensures.2 in
    turned_keeps (shown_by g.T.Grows.entries g.T.Grows.kept) g.T.Grows.tie c.args.pass c.draw-ticket.result _ _ _ _ is c.draw-ticket.ensures.drawn c.await_turn-value.ensures.keeps

pub returns-clause-later : goal.returns-clause-later
returns-clause-later g c =
    let is = idle_is (shown_by g.T.Grows.entries g.T.Grows.kept) g.T.Grows.tie c.pass.inside.badge.table_id _ _ c.args.pass c.pass.view_is c.pass.invariant.0 c.into_seat-seat.ensures.2 in
    subst (λ k. (n : ℕ) → In n (names_of c.args.pass) → n < k) (sym (ap (λ m. ticket_at m.0.stage) c.await_turn-value.ensures.out))
    (turned_later (shown_by g.T.Grows.entries g.T.Grows.kept) g.T.Grows.tie c.args.pass c.draw-ticket.result _ _ _ is c.draw-ticket.ensures.drawn c.await_turn-value.ensures.later)

pub returns-clause-order : goal.returns-clause-order
returns-clause-order g c = subst (λ k. Owners (λ n. n < k) (g.T.Grows.entries c.await_turn-value.result)) (sym (ap (λ m. ticket_at m.0.stage) c.await_turn-value.ensures.out)) c.await_turn-value.ensures.unnamed
