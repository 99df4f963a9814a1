-- The last of the listeners comes to its place.
use Rattle.std.proofs.Common.{◌∙◌, ap, arith, sym}
use Rattle.service_listeners.specs.Undoing.{with_rows}
use Rattle.service_listeners.proofs.TakenRows.{with_last}
use Rattle.service_listeners.proofs.rows.put_each.Goals as goal

pub loop-listener-preserved : goal.loop-listener-preserved
loop-listener-preserved c = record {
  rest = ap (with_rows c.pop.new.self.items) c.put.ensures.now ∙ sym (with_last c.pop.new.self.items c.loop-listener.rows.items c.in-Some.listener)
      ∙ ap (λ ls. with_rows ls c.loop-listener.rows.items) (sym c.in-Some.ensures.items) ∙ c.loop-listener.invariant.rest;
  order = c.put.ensures.rising;
  room = omega (arith, c.put.ensures.room, c.put.ensures.more, c.in-Some.ensures.cases, c.loop-listener.invariant.room);
}
