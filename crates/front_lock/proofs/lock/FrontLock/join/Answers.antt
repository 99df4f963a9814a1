use Rattle.std.proofs.Common.{rules, arith, ◌<◌, ◌≡◌, Some, true, sym, ap, ◌∙◌, subst, refl}
use Rattle.front_lock.specs.Histories.{Extends}
use Rattle.front_lock.specs.Keepings.{kept_under}
use Rattle.front_lock.specs.Passes.{names_of, shown_by}
use Rattle.front_lock.proofs.Histories.{places_kept}
use Rattle.front_lock.proofs.Keepings.{of_this, of_that}
use Rattle.front_lock.proofs.Turns.{idle_is, turned_is, joins_as, joined_is, turned_extends, turned_kept, joined_distinct, joined_kept, kept_after, seen_after}
use Rattle.front_lock.proofs.Histories.{within_this, within_that}
use Rattle.front_lock.proofs.lock.FrontLock.join.Goals as goal

pub join_seat-requires : goal.join_seat-requires
join_seat-requires g c =
    let is = idle_is (shown_by g.T.Grows.entries g.T.Grows.kept) g.T.Grows.tie c.pass.inside.badge.table_id _ _ c.args.pass c.pass.view_is c.pass.invariant.0 c.into_seat-seat.ensures.2 in
    let other = idle_is (shown_by g.T.Grows.entries g.T.Grows.kept) g.T.Grows.tie c.other.inside.badge.table_id _ _ c.args.other c.other.view_is c.other.invariant.0 c.into_seat.ensures.2 in
    let turned = turned_is (shown_by g.T.Grows.entries g.T.Grows.kept) g.T.Grows.tie c.args.pass c.draw-ticket.result c.await_turn-value.result _ _ _ _ is c.draw-ticket.ensures.drawn c.await_turn-value.ensures.out in
    (search rules, search rules, search rules, search rules, joins_as (shown_by g.T.Grows.entries g.T.Grows.kept) g.T.Grows.tie _ _ _ _ c.args.pass c.args.other c.draw-ticket.result c.await_turn-value.result (ap (λ m. m.0) turned) other)

pub put_down-requires-clause-held : goal.put_down-requires-clause-held
put_down-requires-clause-held g c =
    let is = idle_is (shown_by g.T.Grows.entries g.T.Grows.kept) g.T.Grows.tie c.pass.inside.badge.table_id _ _ c.args.pass c.pass.view_is c.pass.invariant.0 c.into_seat-seat.ensures.2 in
    let other = idle_is (shown_by g.T.Grows.entries g.T.Grows.kept) g.T.Grows.tie c.other.inside.badge.table_id _ _ c.args.other c.other.view_is c.other.invariant.0 c.into_seat.ensures.2 in
    let turned = turned_is (shown_by g.T.Grows.entries g.T.Grows.kept) g.T.Grows.tie c.args.pass c.draw-ticket.result c.await_turn-value.result _ _ _ _ is c.draw-ticket.ensures.drawn c.await_turn-value.ensures.out in
    let joined = joined_is (shown_by g.T.Grows.entries g.T.Grows.kept) g.T.Grows.tie _ _ _ c.args.pass c.args.other c.draw-ticket.result c.await_turn-value.result turned other c.join_seat.ensures.2 in
    (ap (λ m. m.1) joined, (true, names_of c.args.other, c.args.other.seen, ap (λ m. m.0.stage) joined))

pub put_down-requires-clause-alive : goal.put_down-requires-clause-alive
put_down-requires-clause-alive g c =
    let is = idle_is (shown_by g.T.Grows.entries g.T.Grows.kept) g.T.Grows.tie c.pass.inside.badge.table_id _ _ c.args.pass c.pass.view_is c.pass.invariant.0 c.into_seat-seat.ensures.2 in
    let other = idle_is (shown_by g.T.Grows.entries g.T.Grows.kept) g.T.Grows.tie c.other.inside.badge.table_id _ _ c.args.other c.other.view_is c.other.invariant.0 c.into_seat.ensures.2 in
    let turned = turned_is (shown_by g.T.Grows.entries g.T.Grows.kept) g.T.Grows.tie c.args.pass c.draw-ticket.result c.await_turn-value.result _ _ _ _ is c.draw-ticket.ensures.drawn c.await_turn-value.ensures.out in
    let joined = joined_is (shown_by g.T.Grows.entries g.T.Grows.kept) g.T.Grows.tie _ _ _ c.args.pass c.args.other c.draw-ticket.result c.await_turn-value.result turned other c.join_seat.ensures.2 in
    (subst (λ m. 0 < m.0.parts) (sym joined) (omega arith), (c.args.pass.number, subst (λ m. m.0.own ≡ Some c.args.pass.number) (sym joined) refl), c.draw-ticket.ensures.small)

pub returns-clause-this : goal.returns-clause-this
returns-clause-this g c =
    let is = idle_is (shown_by g.T.Grows.entries g.T.Grows.kept) g.T.Grows.tie c.pass.inside.badge.table_id _ _ c.args.pass c.pass.view_is c.pass.invariant.0 c.into_seat-seat.ensures.2 in
    let other = idle_is (shown_by g.T.Grows.entries g.T.Grows.kept) g.T.Grows.tie c.other.inside.badge.table_id _ _ c.args.other c.other.view_is c.other.invariant.0 c.into_seat.ensures.2 in
    let turned = turned_is (shown_by g.T.Grows.entries g.T.Grows.kept) g.T.Grows.tie c.args.pass c.draw-ticket.result c.await_turn-value.result _ _ _ _ is c.draw-ticket.ensures.drawn c.await_turn-value.ensures.out in
    let joined = joined_is (shown_by g.T.Grows.entries g.T.Grows.kept) g.T.Grows.tie _ _ _ c.args.pass c.args.other c.draw-ticket.result c.await_turn-value.result turned other c.join_seat.ensures.2 in
    let learned = c.put_down.ensures.learned true (names_of c.args.other) c.args.other.seen (ap (λ m. m.0.stage) joined) in
    let this = turned_extends (shown_by g.T.Grows.entries g.T.Grows.kept) g.T.Grows.tie c.args.pass c.draw-ticket.result _ _ _ _ is c.draw-ticket.ensures.drawn c.await_turn-value.ensures.goes_on in
    let seen = seen_after (shown_by g.T.Grows.entries g.T.Grows.kept) g.T.Grows.tie c.args.pass c.args.other c.draw-ticket.result c.await_turn-value.result _ _ _ joined c.put_down.ensures.back c.into_badge.ensures.2 in
    subst (Extends (names_of c.args.pass) c.args.pass.seen) seen (within_this (names_of c.args.pass) (names_of c.args.other) c.args.pass.seen c.args.other.seen (g.T.Grows.entries c.await_turn-value.result) this learned.0)

pub returns-clause-that : goal.returns-clause-that
returns-clause-that g c =
    let is = idle_is (shown_by g.T.Grows.entries g.T.Grows.kept) g.T.Grows.tie c.pass.inside.badge.table_id _ _ c.args.pass c.pass.view_is c.pass.invariant.0 c.into_seat-seat.ensures.2 in
    let other = idle_is (shown_by g.T.Grows.entries g.T.Grows.kept) g.T.Grows.tie c.other.inside.badge.table_id _ _ c.args.other c.other.view_is c.other.invariant.0 c.into_seat.ensures.2 in
    let turned = turned_is (shown_by g.T.Grows.entries g.T.Grows.kept) g.T.Grows.tie c.args.pass c.draw-ticket.result c.await_turn-value.result _ _ _ _ is c.draw-ticket.ensures.drawn c.await_turn-value.ensures.out in
    let joined = joined_is (shown_by g.T.Grows.entries g.T.Grows.kept) g.T.Grows.tie _ _ _ c.args.pass c.args.other c.draw-ticket.result c.await_turn-value.result turned other c.join_seat.ensures.2 in
    let learned = c.put_down.ensures.learned true (names_of c.args.other) c.args.other.seen (ap (λ m. m.0.stage) joined) in
    let this = turned_extends (shown_by g.T.Grows.entries g.T.Grows.kept) g.T.Grows.tie c.args.pass c.draw-ticket.result _ _ _ _ is c.draw-ticket.ensures.drawn c.await_turn-value.ensures.goes_on in
    let seen = seen_after (shown_by g.T.Grows.entries g.T.Grows.kept) g.T.Grows.tie c.args.pass c.args.other c.draw-ticket.result c.await_turn-value.result _ _ _ joined c.put_down.ensures.back c.into_badge.ensures.2 in
    subst (Extends (names_of c.args.other) c.args.other.seen) seen (within_that (names_of c.args.pass) (names_of c.args.other) c.args.pass.seen c.args.other.seen (g.T.Grows.entries c.await_turn-value.result) this learned.0)

pub returns-clause-mine : goal.returns-clause-mine
returns-clause-mine g c = λ n here. places_kept n (names_of c.args.pass) c.args.pass.seen _ here (returns-clause-this g c)

pub returns-clause-theirs : goal.returns-clause-theirs
returns-clause-theirs g c = λ n here. places_kept n (names_of c.args.other) c.args.other.seen _ here (returns-clause-that g c)

pub returns-clause-keeps : goal.returns-clause-keeps
returns-clause-keeps g c =
    let is = idle_is (shown_by g.T.Grows.entries g.T.Grows.kept) g.T.Grows.tie c.pass.inside.badge.table_id _ _ c.args.pass c.pass.view_is c.pass.invariant.0 c.into_seat-seat.ensures.2 in
    let other = idle_is (shown_by g.T.Grows.entries g.T.Grows.kept) g.T.Grows.tie c.other.inside.badge.table_id _ _ c.args.other c.other.view_is c.other.invariant.0 c.into_seat.ensures.2 in
    let turned = turned_is (shown_by g.T.Grows.entries g.T.Grows.kept) g.T.Grows.tie c.args.pass c.draw-ticket.result c.await_turn-value.result _ _ _ _ is c.draw-ticket.ensures.drawn c.await_turn-value.ensures.out in
    let joined = joined_is (shown_by g.T.Grows.entries g.T.Grows.kept) g.T.Grows.tie _ _ _ c.args.pass c.args.other c.draw-ticket.result c.await_turn-value.result turned other c.join_seat.ensures.2 in
    let learned = c.put_down.ensures.learned true (names_of c.args.other) c.args.other.seen (ap (λ m. m.0.stage) joined) in
    let mine = turned_kept (shown_by g.T.Grows.entries g.T.Grows.kept) g.T.Grows.tie c.args.pass c.draw-ticket.result _ _ _ _ is c.draw-ticket.ensures.drawn c.await_turn-value.ensures.kept in
    let distinct = joined_distinct (shown_by g.T.Grows.entries g.T.Grows.kept) g.T.Grows.tie c.args.pass c.args.other c.draw-ticket.result c.await_turn-value.result _ joined c.put_down.ensures.distinct in
    let both = joined_kept (shown_by g.T.Grows.entries g.T.Grows.kept) g.T.Grows.tie c.args.pass c.args.other c.draw-ticket.result c.await_turn-value.result _ (g.T.Grows.kept c.await_turn-value.result) joined learned.2 in
    let kept = kept_after (shown_by g.T.Grows.entries g.T.Grows.kept) g.T.Grows.tie c.args.pass c.args.other c.draw-ticket.result c.await_turn-value.result _ _ _ joined c.put_down.ensures.back c.into_badge.ensures.2 in
    λ n here. ap (kept_under n) (sym kept) ∙ of_this n (names_of c.args.pass) (names_of c.args.other) (g.T.Grows.kept c.await_turn-value.result) c.args.pass.kept c.args.other.kept here distinct mine both

pub returns-clause-keeps_theirs : goal.returns-clause-keeps_theirs
returns-clause-keeps_theirs g c =
    let is = idle_is (shown_by g.T.Grows.entries g.T.Grows.kept) g.T.Grows.tie c.pass.inside.badge.table_id _ _ c.args.pass c.pass.view_is c.pass.invariant.0 c.into_seat-seat.ensures.2 in
    let other = idle_is (shown_by g.T.Grows.entries g.T.Grows.kept) g.T.Grows.tie c.other.inside.badge.table_id _ _ c.args.other c.other.view_is c.other.invariant.0 c.into_seat.ensures.2 in
    let turned = turned_is (shown_by g.T.Grows.entries g.T.Grows.kept) g.T.Grows.tie c.args.pass c.draw-ticket.result c.await_turn-value.result _ _ _ _ is c.draw-ticket.ensures.drawn c.await_turn-value.ensures.out in
    let joined = joined_is (shown_by g.T.Grows.entries g.T.Grows.kept) g.T.Grows.tie _ _ _ c.args.pass c.args.other c.draw-ticket.result c.await_turn-value.result turned other c.join_seat.ensures.2 in
    let learned = c.put_down.ensures.learned true (names_of c.args.other) c.args.other.seen (ap (λ m. m.0.stage) joined) in
    let mine = turned_kept (shown_by g.T.Grows.entries g.T.Grows.kept) g.T.Grows.tie c.args.pass c.draw-ticket.result _ _ _ _ is c.draw-ticket.ensures.drawn c.await_turn-value.ensures.kept in
    let distinct = joined_distinct (shown_by g.T.Grows.entries g.T.Grows.kept) g.T.Grows.tie c.args.pass c.args.other c.draw-ticket.result c.await_turn-value.result _ joined c.put_down.ensures.distinct in
    let both = joined_kept (shown_by g.T.Grows.entries g.T.Grows.kept) g.T.Grows.tie c.args.pass c.args.other c.draw-ticket.result c.await_turn-value.result _ (g.T.Grows.kept c.await_turn-value.result) joined learned.2 in
    let kept = kept_after (shown_by g.T.Grows.entries g.T.Grows.kept) g.T.Grows.tie c.args.pass c.args.other c.draw-ticket.result c.await_turn-value.result _ _ _ joined c.put_down.ensures.back c.into_badge.ensures.2 in
    λ n here. ap (kept_under n) (sym kept) ∙ of_that n (names_of c.args.pass) (names_of c.args.other) (g.T.Grows.kept c.await_turn-value.result) c.args.pass.kept c.args.other.kept here distinct mine both
