use Rattle.std.proofs.Common.{◌≡◌, ◌≤◌, ◌+◌, ◌-◌, ◌++◌, drop, take, vec_capacity, vec_len}
use Rattle.std.specs.Prelude.{◌==◌, filter, not}
use Rattle.service_listeners.specs.declared.listener.Listener.{Listener}
use Rattle.service_listeners.proofs.rows.move_those_of.Given as goal

abbrev pub invariant-loop-at : goal.invariant-loop-at
invariant-loop-at l = record {
  left : take l.at l.rows.items ++ filter (λ (k : Listener). not (k.bundle == l.bundle)) (drop l.at l.rows.items) ≡ filter (λ (k : Listener). not (k.bundle == l.bundle)) l.fn.rows.items;
  those : l.moved.items ++ filter (λ (k : Listener). k.bundle == l.bundle) (drop l.at l.rows.items) ≡ l.fn.moved.items ++ filter (λ (k : Listener). k.bundle == l.bundle) l.fn.rows.items;
  within : l.at ≤ vec_len l.rows;
  room : vec_len l.moved + vec_len l.rows ≤ vec_capacity l.moved;
  same : vec_capacity l.moved ≡ vec_capacity l.fn.moved;
}

abbrev pub decreases-loop-at : goal.decreases-loop-at
decreases-loop-at l = vec_len l.rows - l.at
