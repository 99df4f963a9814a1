use Rattle.std.proofs.Common.{arith, subst, sym, [], ◌+◌, ◌-◌, ◌≡◌}
use Rattle.std.specs.List.{list_any}
use Rattle.level_order.specs.Links.{comes_from}
use Rattle.level_order.specs.Spread.{IsKept}
use Rattle.level_order.specs.Uses.{all_uses}
use Rattle.level_order.proofs.StepLemmas.{within_end}
use Rattle.level_order.proofs.WayLemmas.{first_round, next_round, round_on, round_end, none_found, some_found, uses_length}
use Rattle.level_order.proofs.ways.all_steps.Goals as goal

pub loop-count-init : goal.loop-count-init
loop-count-init c = (
  first_round c.args.descriptions.now c.args.links.now.onward.items c.args.links.now.back.items c.args.to c.in_ok-nothing.field-0.items c.spread.new.self.steps.items c.requires.linked c.requires.within c.in_ok-nothing.ensures.long c.in_ok-nothing.ensures.unknown
      (rw c.deref.ensures.value at c.in_ok-spread.ensures.marked),
  rw c.deref.ensures.value at c.in_ok-spread.ensures.kept,
)

pub returns-then-is_empty : goal.returns-then-is_empty
returns-then-is_empty c =
    let links = c.args.links.now in
    let search = c.loop-count.search in
    let new = c.spread-in-loop-count.new.self in
    let marks = rw (c.deref-in-loop-count.ensures.value, c.deref-in-loop-count-2.ensures.value, c.replace-from.ensures.value) at c.in_ok-spread-2.ensures.marked in
    let kept = rw c.deref-in-loop-count.ensures.value at c.in_ok-spread-2.ensures.kept in
    let next = next_round c.args.descriptions.now links.onward.items links.back.items search.seen.items c.args.to c.loop-count.count search.steps.items new.steps.items search.found.items c.requires.linked c.loop-count.invariant.0 c.loop-count.invariant.1 marks in
    let none = none_found new.found.items new.found.len c.is_empty.result (omega (arith, new.found.ok.0)) c.is_empty.ensures c.if-is_empty.true in
    round_end c.args.descriptions.now links.back.items new.seen.items c.args.to c.loop-count.count search.steps.items new.steps.items (λ p. list_any (λ w. comes_from links.back.items w p) search.found.items) c.loop-count.invariant.0 next
    (subst (λ w. IsKept links.back.items new.seen.items new.steps.items w c.loop-count.count) none kept) marks

pub loop-count-preserved : goal.loop-count-preserved
loop-count-preserved c =
    let links = c.args.links.now in
    let search = c.loop-count.search in
    let new = c.spread-in-loop-count.new.self in
    let marks = rw (c.deref-in-loop-count.ensures.value, c.deref-in-loop-count-2.ensures.value, c.replace-from.ensures.value) at c.in_ok-spread-2.ensures.marked in
    let kept = rw c.deref-in-loop-count.ensures.value at c.in_ok-spread-2.ensures.kept in
    let next = next_round c.args.descriptions.now links.onward.items links.back.items search.seen.items c.args.to c.loop-count.count search.steps.items new.steps.items search.found.items c.requires.linked c.loop-count.invariant.0 c.loop-count.invariant.1 marks in
    let some = some_found new.found.items new.found.len c.is_empty.result (omega (arith, new.found.ok.0)) c.is_empty.ensures c.if-is_empty.false in (
      round_on c.args.descriptions.now links.back.items new.seen.items c.args.to c.loop-count.count search.steps.items new.steps.items new.found.items c.loop-count.invariant.0 next kept some,
      subst (λ w. IsKept links.back.items new.seen.items new.steps.items new.found.items w) (omega arith) kept,
    )

pub returns : goal.returns
returns c = absurd (omega (arith, within_end (all_uses c.args.descriptions.now) c.args.to c.loop-count.count c.loop-count.search.steps.items c.loop-count.invariant.0, uses_length c.args.descriptions.now))
