use Rattle.std.proofs.Common.{List, sym, subst}
use Rattle.std.specs.List.{All}
use Rattle.scr_consequences.proofs.DirectLemmas.{all_behind, own_rows}
use Rattle.scr_consequences.proofs.TellingLemmas.{after_none, told_more, told_next, told_so_far}
use Rattle.scr_consequences.specs.Changes.{IsOwn, change_from}
use Rattle.service_registry.specs.declared.row.ServiceRow.{ServiceRow}
use Rattle.scr_consequences.proofs.direct_changes.tell_of_old.Goals as goal

pub loop-row-init : goal.loop-row-init
loop-row-init c =
    let rows = c.args.now.now.rows in
    record {
      told = sym (after_none c.args.listeners.now);
      own = subst (λ (rs : List ServiceRow). All (IsOwn rows) rs) (sym c.rows-rest.ensures.all) (own_rows rows c.rows-rest.ensures.numbered.0);
    }

pub returns-in_err-tell_if_moved-clause-told : goal.returns-in_err-tell_if_moved-clause-told
returns-in_err-tell_if_moved-clause-told c =
    told_more _ _ _
    (told_so_far (change_from c.args.now.now.rows) c.args.was_rows.now c.loop-row.row-index c.args.listeners.now c.loop-row.listeners c.loop-row.invariant.told)
    c.tell_if_moved.ensures.told

pub loop-row-preserved : goal.loop-row-preserved
loop-row-preserved c =
    let rows = c.args.now.now.rows in
    let row = c.row-item.result in
    record {
      told = told_next (change_from rows) c.args.was_rows.now c.loop-row.row-index row c.args.listeners.now c.loop-row.listeners c.tell_if_moved.new.listeners c.loop-row-test.true c.row-item.is c.loop-row.invariant.told
          c.in_ok-tell_if_moved.ensures.ok;
      own = subst (λ (rs : List ServiceRow). All (IsOwn rows) rs) (sym c.rows_behind-rest.ensures) (all_behind (IsOwn rows) row.id c.loop-row.rest.now c.loop-row.invariant.own);
    }

pub returns-clause-told : goal.returns-clause-told
returns-clause-told c =
    told_so_far (change_from c.args.now.now.rows) c.args.was_rows.now c.loop-row.row-index c.args.listeners.now c.loop-row.listeners c.loop-row.invariant.told
