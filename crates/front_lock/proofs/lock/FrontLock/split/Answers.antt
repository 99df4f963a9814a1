use Rattle.std.proofs.Common.{rules, arith, ℕ, ◌<◌, ◌≡◌, Some, false, [], ◌∷◌, sym, ap, ◌∙◌, subst, refl}
use Rattle.front_lock.specs.Histories.{In, Owners}
use Rattle.front_lock.specs.Passes.{names, names_of, number_in, first_of, shown_by}
use Rattle.front_lock.proofs.Turns.{idle_is, turned_is, splits_as, left_is, right_is, turned_extends}
use Rattle.front_lock.proofs.Histories.{unnamed_seen}
use Rattle.front_lock.proofs.lock.FrontLock.split.Goals as goal

pub split_seat-other-requires : goal.split_seat-other-requires
split_seat-other-requires g c =
    let is = idle_is (shown_by g.T.Grows.entries g.T.Grows.kept) g.T.Grows.tie c.pass.inside.badge.table_id _ _ c.args.pass c.pass.view_is c.pass.invariant.0 c.into_seat-seat.ensures.2 in
    let turned = turned_is (shown_by g.T.Grows.entries g.T.Grows.kept) g.T.Grows.tie c.args.pass c.draw-ticket.result c.await_turn-value.result _ _ _ _ is c.draw-ticket.ensures.drawn c.await_turn-value.ensures.out in
    (search rules, search rules, splits_as (shown_by g.T.Grows.entries g.T.Grows.kept) g.T.Grows.tie _ _ c.args.pass c.draw-ticket.result c.await_turn-value.result (ap (λ m. m.0) turned) (let n = c.pass.invariant.2 ∙ ap (λ f. f.spare) c.pass.view_is in let some = c.if-pass-eq0.false in omega arith))

pub put_down-requires-clause-held : goal.put_down-requires-clause-held
put_down-requires-clause-held g c =
    let is = idle_is (shown_by g.T.Grows.entries g.T.Grows.kept) g.T.Grows.tie c.pass.inside.badge.table_id _ _ c.args.pass c.pass.view_is c.pass.invariant.0 c.into_seat-seat.ensures.2 in
    let turned = turned_is (shown_by g.T.Grows.entries g.T.Grows.kept) g.T.Grows.tie c.args.pass c.draw-ticket.result c.await_turn-value.result _ _ _ _ is c.draw-ticket.ensures.drawn c.await_turn-value.ensures.out in
    let left = left_is (shown_by g.T.Grows.entries g.T.Grows.kept) g.T.Grows.tie _ _ c.args.pass c.draw-ticket.result c.await_turn-value.result turned c.split_seat-other.ensures.2 in
    (ap (λ m. m.1) left, (false, [], [], ap (λ m. m.0.stage) left))

pub put_down-requires-clause-alive : goal.put_down-requires-clause-alive
put_down-requires-clause-alive g c =
    let is = idle_is (shown_by g.T.Grows.entries g.T.Grows.kept) g.T.Grows.tie c.pass.inside.badge.table_id _ _ c.args.pass c.pass.view_is c.pass.invariant.0 c.into_seat-seat.ensures.2 in
    let turned = turned_is (shown_by g.T.Grows.entries g.T.Grows.kept) g.T.Grows.tie c.args.pass c.draw-ticket.result c.await_turn-value.result _ _ _ _ is c.draw-ticket.ensures.drawn c.await_turn-value.ensures.out in
    let left = left_is (shown_by g.T.Grows.entries g.T.Grows.kept) g.T.Grows.tie _ _ c.args.pass c.draw-ticket.result c.await_turn-value.result turned c.split_seat-other.ensures.2 in
    (subst (λ m. 0 < m.0.parts) (sym left) (let n = c.pass.invariant.2 ∙ ap (λ f. f.spare) c.pass.view_is in let some = c.if-pass-eq0.false in omega arith), (c.args.pass.number, subst (λ m. m.0.own ≡ Some c.args.pass.number) (sym left) refl), c.draw-ticket.ensures.small)

pub returns-clause-new : goal.returns-clause-new
returns-clause-new g c =
    let is = idle_is (shown_by g.T.Grows.entries g.T.Grows.kept) g.T.Grows.tie c.pass.inside.badge.table_id _ _ c.args.pass c.pass.view_is c.pass.invariant.0 c.into_seat-seat.ensures.2 in
    let turned = turned_is (shown_by g.T.Grows.entries g.T.Grows.kept) g.T.Grows.tie c.args.pass c.draw-ticket.result c.await_turn-value.result _ _ _ _ is c.draw-ticket.ensures.drawn c.await_turn-value.ensures.out in
    let right = right_is (shown_by g.T.Grows.entries g.T.Grows.kept) g.T.Grows.tie _ _ c.args.pass c.draw-ticket.result c.await_turn-value.result turned (ap (λ m. m.0) c.split_seat-other.ensures.4) in
    subst (λ views. Owners (λ n. n < number_in (first_of views).own) c.args.pass.seen) (sym (c.into_badge-2.ensures.2 ∙ ap (λ v. v ∷ []) right))
    (unnamed_seen (λ n. n < c.draw-ticket.result) (names_of c.args.pass) c.args.pass.seen (g.T.Grows.entries c.await_turn-value.result)
    (turned_extends (shown_by g.T.Grows.entries g.T.Grows.kept) g.T.Grows.tie c.args.pass c.draw-ticket.result _ _ _ _ is c.draw-ticket.ensures.drawn c.await_turn-value.ensures.goes_on) c.await_turn-value.ensures.unnamed)

pub returns-clause-later : goal.returns-clause-later
returns-clause-later g c =
    let is = idle_is (shown_by g.T.Grows.entries g.T.Grows.kept) g.T.Grows.tie c.pass.inside.badge.table_id _ _ c.args.pass c.pass.view_is c.pass.invariant.0 c.into_seat-seat.ensures.2 in
    let turned = turned_is (shown_by g.T.Grows.entries g.T.Grows.kept) g.T.Grows.tie c.args.pass c.draw-ticket.result c.await_turn-value.result _ _ _ _ is c.draw-ticket.ensures.drawn c.await_turn-value.ensures.out in
    let right = right_is (shown_by g.T.Grows.entries g.T.Grows.kept) g.T.Grows.tie _ _ c.args.pass c.draw-ticket.result c.await_turn-value.result turned (ap (λ m. m.0) c.split_seat-other.ensures.4) in
    subst (λ views. (n : ℕ) → In n (names_of c.args.pass) → n < number_in (first_of views).own) (sym (c.into_badge-2.ensures.2 ∙ ap (λ v. v ∷ []) right))
    (λ n p. c.await_turn-value.ensures.later n (subst (λ m. In n (names m.0)) (sym c.draw-ticket.ensures.drawn) (subst (λ v. In n (names v)) (sym is) p)))
