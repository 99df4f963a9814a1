use Rattle.std.proofs.Common.{◌≡◌, ◌≤◌, ◌+◌, vec_capacity, vec_len}
use Rattle.service_listeners.specs.Numbers.{AreRising}
use Rattle.service_listeners.specs.Undoing.{with_rows}
use Rattle.service_listeners.proofs.rows.put_each.Given as goal

abbrev pub invariant-loop-listener : goal.invariant-loop-listener
invariant-loop-listener l = record {
  rest : with_rows l.listeners.items l.rows.items ≡ with_rows l.fn.listeners.items l.fn.rows.items;
  order : AreRising l.rows.items;
  room : vec_len l.rows + vec_len l.listeners ≤ vec_capacity l.rows;
}

abbrev pub decreases-loop-listener : goal.decreases-loop-listener
decreases-loop-listener l = vec_len l.listeners
