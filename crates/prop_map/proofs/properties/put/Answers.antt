use Rattle.std.proofs.Common.{sym, subst}
use Rattle.prop_map.specs.Maps.{IsInOrder}
use Rattle.prop_map.proofs.PlaceLemmas.{put_replaces, put_inserts, put_in_order}
use Rattle.prop_map.proofs.properties.put.Goals as goal

pub returns-then-has_key_at-clause-ok : goal.returns-then-has_key_at-clause-ok
returns-then-has_key_at-clause-ok c =
    put_replaces c.args.property.key c.args.property.value c.args.list.now.items c.place-place.result (cc) (cc)

pub returns-then-has_key_at-clause-order : goal.returns-then-has_key_at-clause-order
returns-then-has_key_at-clause-order c = subst IsInOrder (sym (put_replaces c.args.property.key c.args.property.value c.args.list.now.items c.place-place.result (cc) (cc))) (put_in_order c.args.property.key c.args.property.value c.args.list.now.items c.requires)

pub returns-in_ok-insert-clause-ok : goal.returns-in_ok-insert-clause-ok
returns-in_ok-insert-clause-ok c =
    rw c.in_ok-insert.ensures.items (put_inserts c.args.property.key c.args.property.value c.args.list.now.items c.place-place.result (cc) (cc))

pub returns-in_ok-insert-clause-order : goal.returns-in_ok-insert-clause-order
returns-in_ok-insert-clause-order c =
    rw (c.in_ok-insert.ensures.items, put_inserts c.args.property.key c.args.property.value c.args.list.now.items c.place-place.result (cc) (cc)) (put_in_order c.args.property.key c.args.property.value c.args.list.now.items c.requires)
