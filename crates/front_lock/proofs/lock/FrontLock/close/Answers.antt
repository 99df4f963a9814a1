use Rattle.front_lock.specs.Passes.{names_of, shown_by}
use Rattle.front_lock.proofs.Histories.{places_kept, all_placed}
use Rattle.front_lock.proofs.Turns.{idle_is, closes_as, closed_value, closed_some}
use Rattle.front_lock.proofs.lock.FrontLock.close.Goals as goal

pub unwrap-value-requires : goal.unwrap-value-requires
unwrap-value-requires g c =
    let is = idle_is (shown_by g.T.Grows.entries g.T.Grows.kept) g.T.Grows.tie c.pass.inside.badge.table_id _ _ c.args.pass c.pass.view_is c.pass.invariant.0 c.into_seat.ensures.2 in
    let w = closes_as (shown_by g.T.Grows.entries g.T.Grows.kept) g.T.Grows.tie _ _ c.args.pass _ _ is c.requires.all c.close_with-closed.ensures.values.2 in
    closed_some (shown_by g.T.Grows.entries g.T.Grows.kept) g.T.Grows.tie c.args.pass _ _ _ w.1 c.take.ensures.value

pub returns-clause-goes_on : goal.returns-clause-goes_on
returns-clause-goes_on g c =
    let is = idle_is (shown_by g.T.Grows.entries g.T.Grows.kept) g.T.Grows.tie c.pass.inside.badge.table_id _ _ c.args.pass c.pass.view_is c.pass.invariant.0 c.into_seat.ensures.2 in
    let w = closes_as (shown_by g.T.Grows.entries g.T.Grows.kept) g.T.Grows.tie _ _ c.args.pass _ _ is c.requires.all c.close_with-closed.ensures.values.2 in
    (closed_value (shown_by g.T.Grows.entries g.T.Grows.kept) g.T.Grows.tie c.args.pass _ _ _ _ w.1 c.take.ensures.value c.unwrap-value.ensures).1

pub returns-clause-owned : goal.returns-clause-owned
returns-clause-owned g c =
    let is = idle_is (shown_by g.T.Grows.entries g.T.Grows.kept) g.T.Grows.tie c.pass.inside.badge.table_id _ _ c.args.pass c.pass.view_is c.pass.invariant.0 c.into_seat.ensures.2 in
    let w = closes_as (shown_by g.T.Grows.entries g.T.Grows.kept) g.T.Grows.tie _ _ c.args.pass _ _ is c.requires.all c.close_with-closed.ensures.values.2 in
    (closed_value (shown_by g.T.Grows.entries g.T.Grows.kept) g.T.Grows.tie c.args.pass _ _ _ _ w.1 c.take.ensures.value c.unwrap-value.ensures).2

pub returns-clause-tie : goal.returns-clause-tie
returns-clause-tie g c =
    let is = idle_is (shown_by g.T.Grows.entries g.T.Grows.kept) g.T.Grows.tie c.pass.inside.badge.table_id _ _ c.args.pass c.pass.view_is c.pass.invariant.0 c.into_seat.ensures.2 in
    let w = closes_as (shown_by g.T.Grows.entries g.T.Grows.kept) g.T.Grows.tie _ _ c.args.pass _ _ is c.requires.all c.close_with-closed.ensures.values.2 in
    (closed_value (shown_by g.T.Grows.entries g.T.Grows.kept) g.T.Grows.tie c.args.pass _ _ _ _ w.1 c.take.ensures.value c.unwrap-value.ensures).3

pub returns-clause-ended : goal.returns-clause-ended
returns-clause-ended g c =
    let is = idle_is (shown_by g.T.Grows.entries g.T.Grows.kept) g.T.Grows.tie c.pass.inside.badge.table_id _ _ c.args.pass c.pass.view_is c.pass.invariant.0 c.into_seat.ensures.2 in
    let w = closes_as (shown_by g.T.Grows.entries g.T.Grows.kept) g.T.Grows.tie _ _ c.args.pass _ _ is c.requires.all c.close_with-closed.ensures.values.2 in
    (closed_value (shown_by g.T.Grows.entries g.T.Grows.kept) g.T.Grows.tie c.args.pass _ _ _ _ w.1 c.take.ensures.value c.unwrap-value.ensures).4

pub returns-clause-mine : goal.returns-clause-mine
returns-clause-mine g c = λ n here. places_kept n (names_of c.args.pass) c.args.pass.seen _ here (returns-clause-goes_on g c)

pub returns-clause-placed : goal.returns-clause-placed
returns-clause-placed g c = all_placed c.args.pass.joined _ (returns-clause-ended g c)

pub returns-clause-distinct : goal.returns-clause-distinct
returns-clause-distinct g c =
    let is = idle_is (shown_by g.T.Grows.entries g.T.Grows.kept) g.T.Grows.tie c.pass.inside.badge.table_id _ _ c.args.pass c.pass.view_is c.pass.invariant.0 c.into_seat.ensures.2 in
    let w = closes_as (shown_by g.T.Grows.entries g.T.Grows.kept) g.T.Grows.tie _ _ c.args.pass _ _ is c.requires.all c.close_with-closed.ensures.values.2 in
    (closed_value (shown_by g.T.Grows.entries g.T.Grows.kept) g.T.Grows.tie c.args.pass _ _ _ _ w.1 c.take.ensures.value c.unwrap-value.ensures).5

pub returns-clause-kept : goal.returns-clause-kept
returns-clause-kept g c =
    let is = idle_is (shown_by g.T.Grows.entries g.T.Grows.kept) g.T.Grows.tie c.pass.inside.badge.table_id _ _ c.args.pass c.pass.view_is c.pass.invariant.0 c.into_seat.ensures.2 in
    let w = closes_as (shown_by g.T.Grows.entries g.T.Grows.kept) g.T.Grows.tie _ _ c.args.pass _ _ is c.requires.all c.close_with-closed.ensures.values.2 in
    (closed_value (shown_by g.T.Grows.entries g.T.Grows.kept) g.T.Grows.tie c.args.pass _ _ _ _ w.1 c.take.ensures.value c.unwrap-value.ensures).6

pub returns-clause-keepers : goal.returns-clause-keepers
returns-clause-keepers g c =
    let is = idle_is (shown_by g.T.Grows.entries g.T.Grows.kept) g.T.Grows.tie c.pass.inside.badge.table_id _ _ c.args.pass c.pass.view_is c.pass.invariant.0 c.into_seat.ensures.2 in
    let w = closes_as (shown_by g.T.Grows.entries g.T.Grows.kept) g.T.Grows.tie _ _ c.args.pass _ _ is c.requires.all c.close_with-closed.ensures.values.2 in
    (closed_value (shown_by g.T.Grows.entries g.T.Grows.kept) g.T.Grows.tie c.args.pass _ _ _ _ w.1 c.take.ensures.value c.unwrap-value.ensures).7
