use Rattle.std.proofs.Common.{sym}
use Rattle.scr_consequences.proofs.TellingLemmas.{after_none, told_more, told_next, told_so_far}
use Rattle.scr_consequences.specs.Changes.{change_of_new}
use Rattle.service_registry.specs.Services.{ids}
use Rattle.scr_consequences.proofs.direct_changes.tell_of_each.Goals as goal

pub loop-row-init : goal.loop-row-init
loop-row-init c = sym (after_none c.args.listeners.now)

pub returns-in_err-tell_if_new-clause-told : goal.returns-in_err-tell_if_new-clause-told
returns-in_err-tell_if_new-clause-told c = told_more _ _ _ (told_so_far (change_of_new (ids c.args.was_rows.now)) c.args.rows.now c.loop-row.row-index c.args.listeners.now c.loop-row.listeners c.loop-row.invariant) c.tell_if_new.ensures.told

pub loop-row-preserved : goal.loop-row-preserved
loop-row-preserved c =
    told_next (change_of_new (ids c.args.was_rows.now)) c.args.rows.now c.loop-row.row-index c.row-item.result c.args.listeners.now c.loop-row.listeners c.tell_if_new.new.listeners c.loop-row-test.true c.row-item.is c.loop-row.invariant
    c.in_ok-tell_if_new.ensures.ok

pub returns-clause-told : goal.returns-clause-told
returns-clause-told c = told_so_far (change_of_new (ids c.args.was_rows.now)) c.args.rows.now c.loop-row.row-index c.args.listeners.now c.loop-row.listeners c.loop-row.invariant
